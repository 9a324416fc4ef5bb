-- Committed programs in orders of their transactions.
use Rattle.std.specs.Prelude.{◌≡◌, ◌==◌, ◌<◌, ℕ, suc, List, [], ◌∷◌, ◌++◌, Option, Some, None, if◌then◌else◌, length, map, slice_get}
use Rattle.std.specs.List.{remove}
use Rattle.std.specs.Option.{option_map}
use Rattle.std.specs.BTreeMap.{BTreeMap, get}
use Rattle.std.specs.Ordering.{nat_cmp}
use Rattle.kr_model.specs.Map.{Map}
use Rattle.kr_trace_follow.specs.Given.{IsFirstDifference}
use Rattle.kr_trace_lines.specs.declared.verdict.TraceVerdict.{TraceVerdict}
use Rattle.kr_trace_lines.specs.declared.verdict.TraceVerdict.TheVariants as verdict
use Rattle.kr_trace_parts.specs.Committed.{Committed, AreSerial, IsFirstWrong, map_left}
use Rattle.kr_trace_parts.specs.Kept.{shown}
use Rattle.kr_trace_parts.specs.Printed.{IsOrder, in_order, of_txn}
use Rattle.kr_trace_parts.specs.declared.programs.Committed.{Committed as Noted}
use Rattle.kr_trace_parts.specs.declared.programs.Wrong.{Wrong}

-- The place of a transaction among the committed, where it is one.
abbrev pub place_in : List Noted → ℕ → Option ℕ
place_in [] t = None
place_in (c ∷ cs) t = if c.txn == t then Some 0 else option_map (λ i. suc i) (place_in cs t)

-- The places of the committed transactions.
abbrev pub ArePlaces : List Noted → BTreeMap ℕ ℕ → Type 0
ArePlaces cs places = (t : ℕ) → get nat_cmp places t ≡ place_in cs t

-- A wrong answer of the program of t, which runs from m.
pub record IsWrongOf (m : Map) (cs : List Noted) (t : ℕ) (w : Wrong) : Type 0 where
  pub one : Noted
  pub here : slice_get cs w.place ≡ Some one
  pub own : of_txn (map shown cs) t ≡ shown one ∷ []
  pub difference : IsFirstDifference m one.program.items w.difference

-- The first wrong answer where the programs of these transactions run one after another.
pub record IsWrongIn (m : Map) (cs : List Noted) (ts : List ℕ) (w : Wrong) : Type 0 where
  pub before : List Committed
  pub one : Noted
  pub rest : List Committed
  pub here : slice_get cs w.place ≡ Some one
  pub place : in_order (map shown cs) ts ≡ before ++ shown one ∷ rest
  pub serial_before : AreSerial m before
  pub difference : IsFirstDifference (map_left m before) one.program.items w.difference

-- A list has the numbers of the first in some order.
abbrev pub AreArranged : List ℕ → List ℕ → Type 0
AreArranged us [] = us ≡ []
AreArranged us (t ∷ ts) = (i : ℕ) × ((slice_get us i ≡ Some t) × AreArranged (remove us i) ts)

-- The verdict in the order that ends a part.
abbrev pub IsVerdictInTold : Map → List Committed → List ℕ → TraceVerdict → Type 0
IsVerdictInTold m cs ts verdict.Serial = ⊥
IsVerdictInTold m cs ts (verdict.SerialInOrder us) = (us ≡ ts) × AreSerial m (in_order cs ts)
IsVerdictInTold m cs ts (verdict.NotSerial t n given serial) = IsFirstWrong m (in_order cs ts) t n given serial
IsVerdictInTold m cs ts verdict.Unknown = ⊥

-- The verdict in any order.
abbrev pub IsVerdictInAny : Map → List Committed → TraceVerdict → Type 0
IsVerdictInAny m cs verdict.Serial = ⊥
IsVerdictInAny m cs (verdict.SerialInOrder ts) = IsOrder cs ts × AreSerial m (in_order cs ts)
IsVerdictInAny m cs (verdict.NotSerial t n given serial) =
    IsFirstWrong m cs t n given serial × ((ts : List ℕ) → IsOrder cs ts → AreSerial m (in_order cs ts) → ⊥)
IsVerdictInAny m cs verdict.Unknown = (7 < length cs) × (AreSerial m cs → ⊥)
