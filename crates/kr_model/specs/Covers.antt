-- What a lock has to protect, and the cases that a covered protocol meets. No case names a key, a map or a run.
use Rattle.std.specs.Prelude.{◌≡◌, ℕ, suc, zero, ◌+◌, ◌*◌, Bool, true, false, not, List, [], ◌∷◌, Option, Some, None, map, filter, if◌then◌else◌}
use Rattle.std.specs.List.{flat_map, filter_map}
use Rattle.std.specs.Option.{option_map_or}
use Rattle.kr_model.specs.declared.Row.{Row}
use Rattle.kr_model.specs.declared.Row.TheVariants as row
use Rattle.kr_model.specs.declared.Side.{Side}
use Rattle.kr_model.specs.declared.Side.TheVariants.{Current, Next}
use Rattle.kr_model.specs.declared.Span.{Span}
use Rattle.kr_model.specs.declared.Span.TheVariants.{Instant, Commit}
use Rattle.kr_model.specs.declared.Cover.{Cover}
use Rattle.kr_model.specs.declared.Cover.TheVariants.{ReadKey, ReadGap, InsertedKey, DeletedGap, UpdatedKey}
use Rattle.kr_model.specs.declared.Rule.{Rule}
use Rattle.kr_model.specs.declared.Rule.TheVariants as rule
use Rattle.kr_model.specs.declared.Origin.{Origin}
use Rattle.kr_model.specs.declared.Origin.TheVariants as origin
use Rattle.kr_model.specs.declared.Requester.{Requester}
use Rattle.kr_model.specs.declared.FailedCase.{FailedCase}
use Rattle.kr_model.specs.Protocol.{Protocol}

-- Modes in order --

-- The n numbers from a, rising.
abbrev pub count_up : ℕ → ℕ → List ℕ
count_up a zero = []
count_up a (suc n) = a ∷ count_up (suc a) n

-- The modes of p, rising.
abbrev pub modes : Protocol → List ℕ
modes p = count_up 1 p.count

-- 0, for no lock, and then the modes of p, rising: what a transaction may hold on a name.
abbrev pub modes_or_none : Protocol → List ℕ
modes_or_none p = count_up 0 (suc p.count)

-- Covers --

-- A row and a side of the table.
abbrev pub Ask : Type 0
Ask = Row × Side

-- What is listed only where p offers updates.
abbrev pub if_updating : {A : Type 0} → Protocol → List A → List A
if_updating p xs = if p.updates then xs else []

-- What a lock that has the cover must conflict with, in order: no other transaction may be granted it.
abbrev pub must_conflict : Protocol → Cover → List Ask
must_conflict p ReadKey = (row.Delete, Current) ∷ if_updating p ((row.Update, Current) ∷ [])
must_conflict p ReadGap = (row.Insert, Next) ∷ (row.Delete, Current) ∷ []
must_conflict p InsertedKey = (row.FetchHit, Current) ∷ (row.FetchMiss, Next) ∷ (row.ScanKey, Current) ∷ (row.ScanStop, Next) ∷ (row.Delete, Current) ∷ (row.Delete, Next) ∷ if_updating p ((row.Update, Current) ∷ [])
must_conflict p DeletedGap = (row.FetchMiss, Next) ∷ (row.ScanKey, Current) ∷ (row.ScanStop, Next) ∷ (row.Insert, Next) ∷ (row.Delete, Current) ∷ (row.Delete, Next) ∷ []
must_conflict p UpdatedKey = if_updating p ((row.FetchHit, Current) ∷ (row.ScanKey, Current) ∷ (row.Delete, Current) ∷ (row.Update, Current) ∷ [])

-- A requester at a row and side, with its own modes on the name and on the next name.
abbrev pub requester : Ask → ℕ → ℕ → Requester
requester (r, s) own own_next = record { row = r; side = s; own = own; own_next = own_next }

-- All who may ask at a row and side, own modes rising; at the side next the name is the next name, so the two own modes are one.
abbrev pub requesters_at : Protocol → Ask → List Requester
requesters_at p (r, Current) = flat_map (λ o. map (λ n. requester (r, Current) o n) (modes_or_none p)) (modes_or_none p)
requesters_at p (r, Next) = map (λ o. requester (r, Next) o o) (modes_or_none p)

-- Whether the request of one who holds o conflicts with another's h: the converted mode isn't compatible with it.
abbrev pub conflicts_with : Protocol → ℕ → ℕ → Option (ℕ × Span) → Bool
conflicts_with p h o None = false
conflicts_with p h o (Some (q, span)) = not (p.ok (p.convert o q) h)

-- Whether a lock in mode h lets a requester through: it requests nothing there, or the converted mode is compatible with h.
abbrev pub is_open : Protocol → ℕ → Requester → Bool
is_open p h x = not (conflicts_with p h x.own (p.ask x.row x.side x.own_next))

-- The requesters that a lock in mode h lets through, of those that the cover must conflict with, in order.
abbrev pub open_requesters : Protocol → Cover → ℕ → List Requester
open_requesters p c h = filter (is_open p h) (flat_map (requesters_at p) (must_conflict p c))

-- Whether a list has no elements.
abbrev pub is_empty : {A : Type 0} → List A → Bool
is_empty [] = true
is_empty (x ∷ xs) = false

-- Whether a lock in mode h serves the cover: it lets none of its requesters through.
abbrev pub serves : Protocol → Cover → ℕ → Bool
serves p c h = is_empty (open_requesters p c h)

-- Cases --

-- The mode on a name of one who held o, after what it requested there was granted: an instant request isn't kept.
abbrev pub mode_after : Protocol → ℕ → Option (ℕ × Span) → ℕ
mode_after p o None = o
mode_after p o (Some (q, Commit)) = p.convert o q
mode_after p o (Some (q, Instant)) = o

-- A case: `mode` has to serve the cover; where a mode is `given`, only if that one does.
pub record Case : Type 0 where
  pub rule : Rule
  pub cover : Cover
  pub from : Origin
  pub given : Option ℕ
  pub mode : ℕ

-- The case with these parts.
abbrev pub case : Rule → Cover → Origin → Option ℕ → ℕ → Case
case r c from given mode = record { rule = r; cover = c; from = from; given = given; mode = mode }

-- The covers that p has to serve, in order.
abbrev pub all_covers : Protocol → List Cover
all_covers p = ReadKey ∷ ReadGap ∷ InsertedKey ∷ DeletedGap ∷ if_updating p (UpdatedKey ∷ [])

-- A conversion from the held mode h keeps the cover if h serves it, whichever mode q is requested.
abbrev pub conversions_from : Protocol → Cover → ℕ → List Case
conversions_from p c h = map (λ q. case rule.Conversion c (origin.Conversion h q) (Some h) (p.convert h q)) (modes p)

-- A conversion keeps the cover, from each held mode.
abbrev pub conversions_of : Protocol → Cover → List Case
conversions_of p c = flat_map (conversions_from p c) (modes p)

-- A row that moves no key has the cover: for each own mode o, the mode after the request serves it.
abbrev pub row_cover : Protocol → Rule → Row → Side → Cover → List Case
row_cover p rl r side c = map (λ o. case rl c (origin.Own o) None (mode_after p o (p.ask r side 0))) (modes_or_none p)

-- A row that moves no key has each of the covers.
abbrev pub row_cases : Protocol → Rule → Row → Side → List Cover → List Case
row_cases p rl r side cs = flat_map (row_cover p rl r side) cs

-- An insert at the own mode n on the next name has the cover: for each own mode o on the key, the mode after the request serves it.
abbrev pub inserts_at : Protocol → Rule → Cover → Option ℕ → ℕ → List Case
inserts_at p rl c given n =
    map (λ o. case rl c (origin.Insert n o) given (mode_after p o (p.ask row.Insert Current n))) (modes_or_none p)

-- An insert that splits a gap carries the cover over to the new name, from each own mode n on the next name that serves it.
abbrev pub splits_of : Protocol → Cover → List Case
splits_of p c = flat_map (λ n. inserts_at p rule.Split c (Some n) n) (modes_or_none p)

-- The cases of a rule, in order.
abbrev pub cases_of : Protocol → Rule → List Case
-- A conversion keeps each cover that the held mode serves.
cases_of p rule.Conversion = flat_map (conversions_of p) (all_covers p)
-- What was read is covered.
cases_of p rule.FetchHit = row_cases p rule.FetchHit row.FetchHit Current (ReadKey ∷ [])
cases_of p rule.FetchMiss = row_cases p rule.FetchMiss row.FetchMiss Next (ReadGap ∷ [])
cases_of p rule.ScanKey = row_cases p rule.ScanKey row.ScanKey Current (ReadKey ∷ ReadGap ∷ [])
cases_of p rule.ScanStop = row_cases p rule.ScanStop row.ScanStop Next (ReadGap ∷ [])
-- An inserted key is covered, from each own mode on the next name.
cases_of p rule.Insert = flat_map (inserts_at p rule.Insert InsertedKey None) (modes_or_none p)
-- An insert that splits a gap which its own transaction covers carries the cover over to the new name.
cases_of p rule.Split = flat_map (splits_of p) (ReadGap ∷ DeletedGap ∷ [])
-- A delete covers the gap that it widens, from each own mode n on the next name.
cases_of p rule.Delete =
    map (λ n. case rule.Delete DeletedGap (origin.Own n) None (mode_after p n (p.ask row.Delete Next n))) (modes_or_none p)
-- An updated key is covered.
cases_of p rule.Update = row_cases p rule.Update row.Update Current (UpdatedKey ∷ [])

-- The rules that p has to keep, in order.
abbrev pub all_rules : Protocol → List Rule
all_rules p =
    rule.Conversion ∷ rule.FetchHit ∷ rule.FetchMiss ∷ rule.ScanKey ∷ rule.ScanStop ∷ rule.Insert ∷ rule.Split ∷ rule.Delete
    ∷ if_updating p (rule.Update ∷ [])

-- All cases of a protocol, in order.
abbrev pub cases : Protocol → List Case
cases p = flat_map (cases_of p) (all_rules p)

-- How many cases there are, by the number of modes and by whether updates are offered.
abbrev pub case_count : ℕ → Bool → ℕ
case_count m updates = (if updates then 5 else 4) * (m * m) + (if updates then 7 else 6) * (m + 1) + 3 * ((m + 1) * (m + 1))

-- Whether the case asks anything: no mode is given, or the given one serves the cover.
abbrev pub is_due : Protocol → Case → Bool
is_due p c = option_map_or (serves p c.cover) c.given true

-- The case failed at the first of the requesters that its mode lets through, if there is one.
abbrev pub failed_at : Case → List Requester → Option FailedCase
failed_at c [] = None
failed_at c (hole ∷ holes) = Some (record { case = c.rule; cover = c.cover; from = c.from; mode = c.mode; hole = hole })

-- The failure of a case, or nothing where it holds.
abbrev pub failure : Protocol → Case → Option FailedCase
failure p c = if is_due p c then failed_at c (open_requesters p c.cover c.mode) else None

-- The cases that don't hold, in order, each with the first requester that gets through.
abbrev pub failed_cases : Protocol → List FailedCase
failed_cases p = filter_map (failure p) (cases p)

-- A protocol is covered if every case holds.
abbrev pub IsCovered : Protocol → Type 0
IsCovered p = failed_cases p ≡ []
