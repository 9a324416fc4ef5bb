-- What is printed of a part, and whether all is well with it.
use Rattle.std.specs.Prelude.{◌≡◌, ◌≢◌, ◌⊎◌, ◌↔◌, ◌<◌, ℕ, suc, Bool, true, ◌&&◌, ◌==◌, IsTrue, List, [], ◌∷◌, ◌++◌, Option, Some, None, length, map, if◌then◌else◌, String, string_bytes}
use Rattle.std.specs.Global.{Global}
use Rattle.std.specs.Io.KnownBytes.{Appends}
use Rattle.kr_model.specs.Protocol.{Protocol}
use Rattle.kr_trace_lines.specs.declared.deviation.Deviation.{Deviation}
use Rattle.kr_trace_lines.specs.declared.observed.Observed.{Observed}
use Rattle.kr_model.specs.declared.Reply.{Reply}
use Rattle.kr_trace_follow.specs.Following.{at_start, after_lines, begun, deviation}
use Rattle.kr_trace_lines.specs.Parts.{are_distinct, is_order_of}
use Rattle.kr_trace_lines.specs.Report.{part_text, judged_text}
use Rattle.kr_trace_lines.specs.declared.verdict.TraceVerdict.{TraceVerdict}
use Rattle.kr_trace_lines.specs.declared.verdict.TraceVerdict.TheVariants as verdict
use Rattle.kr_trace_parts.specs.Committed.{Committed, AreSerial, IsFirstWrong, IsVerdict}
use Rattle.kr_trace_parts.specs.Parts.{Part}
use Rattle.kr_trace_parts.specs.Tales.{committed_in}

-- In some order --

-- The committed transaction with this number, where there is one.
abbrev pub of_txn : List Committed → ℕ → List Committed
of_txn [] t = []
of_txn (c ∷ cs) t = if c.txn == t then c ∷ [] else of_txn cs t

-- The committed transactions in the order of these numbers.
abbrev pub in_order : List Committed → List ℕ → List Committed
in_order cs [] = []
in_order cs (t ∷ ts) = of_txn cs t ++ in_order cs ts

-- The numbers are those of the committed transactions, each once.
abbrev pub IsOrder : List Committed → List ℕ → Type 0
IsOrder cs ts = IsTrue (is_order_of (map (λ c. c.txn) cs) ts)

-- No transaction commits twice, and the order that ends a part, if one does, has each committed transaction once. The lines of a part see to that.
pub record CommitsOnce (s : Part) : Type 0 where
  pub once : IsTrue (are_distinct (map (λ c. c.txn) (committed_in s.steps)))
  pub ordered : (ts : List ℕ) → s.order ≡ Some ts → IsOrder (committed_in s.steps) ts

-- A wrong answer is the first in the order that ends the part; or the first in commit order, and there is one in every order.
abbrev pub IsWrongInAll : Part → ℕ → ℕ → Observed → Reply → Option (List ℕ) → Type 0
IsWrongInAll s t n given serial (Some ts) = IsFirstWrong s.opening (in_order (committed_in s.steps) ts) t n given serial
IsWrongInAll s t n given serial None =
    IsFirstWrong s.opening (committed_in s.steps) t n given serial
    × ((ts : List ℕ) → IsOrder (committed_in s.steps) ts → AreSerial s.opening (in_order (committed_in s.steps) ts) → ⊥)

-- An order is the one that ends the part, if one does.
abbrev pub IsTheTold : List ℕ → Option (List ℕ) → Type 0
IsTheTold ts None = Unit {0}
IsTheTold ts (Some told) = ts ≡ told

-- The verdict on a part in some order: in the order that ends it, or in any; it is unknown where more than seven have committed, not serializable in commit order, and no order ends the part.
abbrev pub IsVerdictInSomeOrder : Part → TraceVerdict → Type 0
IsVerdictInSomeOrder s verdict.Serial = ⊥
IsVerdictInSomeOrder s (verdict.SerialInOrder ts) =
    IsOrder (committed_in s.steps) ts × (AreSerial s.opening (in_order (committed_in s.steps) ts) × IsTheTold ts s.order)
IsVerdictInSomeOrder s (verdict.NotSerial t n given serial) = IsWrongInAll s t n given serial s.order
IsVerdictInSomeOrder s verdict.Unknown =
    (s.order ≡ None) × ((7 < length (committed_in s.steps)) × (AreSerial s.opening (committed_in s.steps) → ⊥))

-- Parts --

-- Whether a verdict says that the answers are serializable.
abbrev pub IsSerialVerdict : TraceVerdict → Type 0
IsSerialVerdict verdict.Serial = Unit {0}
IsSerialVerdict (verdict.SerialInOrder ts) = Unit {0}
IsSerialVerdict (verdict.NotSerial t n given serial) = ⊥
IsSerialVerdict verdict.Unknown = ⊥

-- The first line of a part that isn't as the table has it.
abbrev pub deviation_in : Protocol → Part → Option Deviation
deviation_in p s = deviation p (at_start s.opening) s.steps

-- How many of its lines were queued.
abbrev pub queued_in : Protocol → Part → ℕ
queued_in p s = let f = after_lines p (begun s.opening) s.steps in let at = f.at in at.queued

-- What is written of a text that is printed, if one is.
abbrev pub printed : Option (String Global) → List ℕ
printed None = []
printed (Some text) = string_bytes text ++ 10 ∷ []

-- The text of a part that has this number, and whether all is well with it, where it is held against a table.
abbrev pub IsPrintedAgainst : Protocol → List (List ℕ) → ℕ → Part → List ℕ → Bool → Type 0
IsPrintedAgainst p names n s text well =
    (v : TraceVerdict) × (IsVerdict s.opening (committed_in s.steps) v
    × ((text ≡ part_text names n (deviation_in p s) (queued_in p s) s.tests v ++ 10 ∷ [])
    × (IsTrue well ↔ ((deviation_in p s ≡ None) × IsSerialVerdict v))))

-- The same, where it is asked whether it is serializable in commit order.
abbrev pub IsPrintedInCommitOrder : ℕ → Part → List ℕ → Bool → Type 0
IsPrintedInCommitOrder n s text well =
    (v : TraceVerdict) × (IsVerdict s.opening (committed_in s.steps) v
    × ((text ≡ judged_text n v ++ 10 ∷ []) × (IsTrue well ↔ IsSerialVerdict v)))

-- The same, where it is asked whether it is serializable in some order.
abbrev pub IsPrintedInSomeOrder : ℕ → Part → List ℕ → Bool → Type 0
IsPrintedInSomeOrder n s text well =
    (v : TraceVerdict) × (IsVerdictInSomeOrder s v × ((text ≡ judged_text n v ++ 10 ∷ []) × (IsTrue well ↔ IsSerialVerdict v)))

-- Lines were printed of parts with numbers from n on, and whether all is well with each.
abbrev pub ArePrinted : (ℕ → Part → List ℕ → Bool → Type 0) → ℕ → List Part → List ℕ → Bool → Type 0
ArePrinted P n [] out well = (out ≡ []) × (well ≡ true)
ArePrinted P n (s ∷ ss) out well =
    (text : List ℕ) × (is_well : Bool) × (rest : List ℕ) × (others : Bool)
    × P n s text is_well × ArePrinted P (suc n) ss rest others × (out ≡ text ++ rest) × (well ≡ (is_well && others))

-- The lines of parts with numbers from 1 on were written.
abbrev pub AreWritten : (ℕ → Part → List ℕ → Bool → Type 0) → List Part → Option (List ℕ) → Option (List ℕ) → Bool → Type 0
AreWritten P ss old new well = (out : List ℕ) × (ArePrinted P 1 ss out well × Appends old new out)
