-- What a lock has to protect where deletes leave ghosts, and the cases that a covered protocol meets. No case names a key, a map or a run.
use Rattle.std.specs.Prelude.{◌≡◌, ℕ, Bool, true, not, ◌||◌, List, [], ◌∷◌, ◌++◌, Option, Some, None, map, filter, if◌then◌else◌, is_some}
use Rattle.std.specs.List.{flat_map, filter_map}
use Rattle.kr_model.specs.declared.Row.TheVariants as row
use Rattle.kr_model.specs.declared.Side.TheVariants.{Current, Next}
use Rattle.kr_model.specs.declared.Span.{Span}
use Rattle.kr_model.specs.declared.Origin.{Origin}
use Rattle.kr_model.specs.declared.Origin.TheVariants as origin
use Rattle.kr_model.specs.Covers.{modes, modes_or_none, if_updating, conflicts_with, mode_after, is_empty}
use Rattle.kr_ghost.specs.declared.cases.Cover.{Cover}
use Rattle.kr_ghost.specs.declared.cases.Cover.TheVariants.{ReadKey, ReadGap, ChangedKey}
use Rattle.kr_ghost.specs.declared.cases.Rule.{Rule}
use Rattle.kr_ghost.specs.declared.cases.Rule.TheVariants as rule
use Rattle.kr_ghost.specs.declared.cases.Access.{Access}
use Rattle.kr_ghost.specs.declared.cases.Access.TheVariants as access
use Rattle.kr_ghost.specs.declared.cases.Requester.{Requester}
use Rattle.kr_ghost.specs.declared.cases.FailedCase.{FailedCase}
use Rattle.kr_ghost.specs.declared.vain.Vain.{Vain}
use Rattle.kr_ghost.specs.declared.vain.Vain.TheVariants.{InsertHit, DeleteMiss, UpdateMiss}
use Rattle.kr_ghost.specs.Protocol.{GhostProtocol, Purges, Unlocked, Inherit}
use Rattle.kr_ghost.specs.Step.{current, next, vain}

-- Covers --

-- Whether the table has a row for the vain step; else the step goes by the row of a fetch.
abbrev pub has_row : GhostProtocol → Vain → Bool
has_row p v = is_some (p.vain v)

-- These, where the table has that row.
abbrev pub if_row : {A : Type 0} → GhostProtocol → Vain → List A → List A
if_row p v xs = if has_row p v then xs else []

-- What a lock that has the cover must conflict with, in order: no other transaction may be granted it.
abbrev pub accesses : GhostProtocol → Cover → List Access
accesses p ReadKey = access.Delete ∷ access.Revive ∷ if_updating p.table (access.Update ∷ [])
accesses p ReadGap = access.Insert ∷ []
accesses p ChangedKey = access.Fetch ∷ access.Scan ∷ if_row p InsertHit (access.InsertHit ∷ []) ++ access.Delete ∷ access.Revive ∷ if_updating p.table (access.Update ∷ [])

-- What the access requests on the name, of one who has the own mode o there.
abbrev pub asked : GhostProtocol → Access → ℕ → Option (ℕ × Span)
asked p access.Fetch o = current p row.FetchHit
asked p access.Scan o = current p row.ScanKey
asked p access.Delete o = current p row.Delete
asked p access.Update o = current p row.Update
asked p access.Revive o = p.revive
asked p access.Insert o = p.table.ask row.Insert Next o
asked p access.InsertHit o = vain p InsertHit

-- One who requests the access, with the own mode o.
abbrev pub requester : Access → ℕ → Requester
requester a o = record { access = a; own = o }

-- All who may request the access, own modes rising.
abbrev pub requesters : GhostProtocol → Access → List Requester
requesters p a = map (requester a) (modes_or_none p.table)

-- Whether a lock in mode h lets a requester through: what it requests doesn't conflict with h.
abbrev pub is_open : GhostProtocol → ℕ → Requester → Bool
is_open p h x = not (conflicts_with p.table h x.own (asked p x.access x.own))

-- The requesters that a lock in mode h lets through, of those that the cover must conflict with, in order.
abbrev pub open_requesters : GhostProtocol → Cover → ℕ → List Requester
open_requesters p c h = filter (is_open p h) (flat_map (requesters p) (accesses p c))

-- Whether a lock in mode h serves the cover: it lets none of its requesters through.
abbrev pub serves : GhostProtocol → Cover → ℕ → Bool
serves p c h = is_empty (open_requesters p c h)

-- Cases --

-- A case: where it is due, `mode` has to serve the cover.
pub record Case : Type 0 where
  pub rule : Rule
  pub cover : Cover
  pub from : Origin
  pub due : Bool
  pub mode : ℕ

abbrev pub case : Rule → Cover → Origin → Bool → ℕ → Case
case r c from due mode = record { rule = r; cover = c; from = from; due = due; mode = mode }

-- A conversion from the held mode h keeps the cover if h serves it, whichever mode q is requested.
abbrev pub conversions_from : GhostProtocol → Cover → ℕ → List Case
conversions_from p c h = map (λ q. case rule.Conversion c (origin.Conversion h q) (serves p c h) (p.table.convert h q)) (modes p.table)

-- A conversion keeps the cover, from each held mode.
abbrev pub conversions : GhostProtocol → Cover → List Case
conversions p c = flat_map (conversions_from p c) (modes p.table)

-- After a request on a name, whatever was held there, the mode serves the cover.
abbrev pub covers : GhostProtocol → Rule → Cover → Option (ℕ × Span) → List Case
covers p r c asked = map (λ o. case r c (origin.Own o) true (mode_after p.table o asked)) (modes_or_none p.table)

-- The mode on a new key of one who inserts it and has the own mode n on the next name; a key that was no name has no locks.
abbrev pub mode_on_new : GhostProtocol → ℕ → ℕ
mode_on_new p n = mode_after p.table 0 (p.table.ask row.Insert Current n)

-- The mode on the next name, where n is held, of one who inherits the mode h on a ghost.
abbrev pub mode_inherited : GhostProtocol → (ℕ → ℕ) → ℕ → ℕ → ℕ
mode_inherited p heir h n = p.table.convert n (heir h)

-- What was read in the mode h on a ghost, its key or the gap below it, is in the gap below the next name once the ghost is purged, whatever mode n is held there.
abbrev pub heirs_from : GhostProtocol → (ℕ → ℕ) → ℕ → List Case
heirs_from p heir h =
    map (λ n. case rule.Heir ReadGap (origin.Conversion n h) (serves p ReadKey h || serves p ReadGap h) (mode_inherited p heir h n)) (modes_or_none p.table)

-- That is due only where locks are inherited.
abbrev pub heirs : GhostProtocol → Purges → List Case
heirs p Unlocked = []
heirs p (Inherit heir) = flat_map (heirs_from p heir) (modes p.table)

-- The covers, in order.
abbrev pub all_covers : List Cover
all_covers = ReadKey ∷ ReadGap ∷ ChangedKey ∷ []

-- The cases of a rule, in order.
abbrev pub cases_of : GhostProtocol → Rule → List Case
cases_of p rule.Conversion = flat_map (conversions p) all_covers
-- What was read is covered.
cases_of p rule.FetchHit = covers p rule.FetchHit ReadKey (current p row.FetchHit)
cases_of p rule.FetchMiss = covers p rule.FetchMiss ReadGap (next p row.FetchMiss)
cases_of p rule.ScanName = covers p rule.ScanName ReadKey (current p row.ScanKey) ++ covers p rule.ScanName ReadGap (current p row.ScanKey)
cases_of p rule.ScanStop = covers p rule.ScanStop ReadGap (next p row.ScanStop)
-- A new key is covered, and carries on what its transaction has read of the gap that it splits.
cases_of p rule.Insert = map (λ n. case rule.Insert ChangedKey (origin.Insert n 0) true (mode_on_new p n)) (modes_or_none p.table)
cases_of p rule.Split = map (λ n. case rule.Split ReadGap (origin.Insert n 0) (serves p ReadGap n) (mode_on_new p n)) (modes_or_none p.table)
-- A changed key is covered.
cases_of p rule.Delete = covers p rule.Delete ChangedKey (current p row.Delete)
cases_of p rule.Update = if p.table.updates then covers p rule.Update ChangedKey (current p row.Update) else []
cases_of p rule.Revive = covers p rule.Revive ChangedKey p.revive
cases_of p rule.Heir = heirs p p.purges
-- What a vain step of a row of its own has read is covered.
cases_of p rule.InsertHit = if_row p InsertHit (covers p rule.InsertHit ReadKey (vain p InsertHit))
cases_of p rule.DeleteMiss = if_row p DeleteMiss (covers p rule.DeleteMiss ReadGap (vain p DeleteMiss))
cases_of p rule.UpdateMiss = if p.table.updates then if_row p UpdateMiss (covers p rule.UpdateMiss ReadGap (vain p UpdateMiss)) else []

-- The rules that p has to keep, in order.
abbrev pub all_rules : List Rule
all_rules = rule.Conversion ∷ rule.FetchHit ∷ rule.FetchMiss ∷ rule.ScanName ∷ rule.ScanStop ∷ rule.Insert ∷ rule.Split ∷ rule.Delete ∷ rule.Update ∷ rule.Revive ∷ rule.Heir ∷ rule.InsertHit ∷ rule.DeleteMiss ∷ rule.UpdateMiss ∷ []

-- All cases of a protocol, in order.
abbrev pub cases : GhostProtocol → List Case
cases p = flat_map (cases_of p) all_rules

-- The case failed at the first of the requesters that its mode lets through, if there is one.
abbrev pub failed_at : Case → List Requester → Option FailedCase
failed_at c [] = None
failed_at c (hole ∷ holes) = Some (record { case = c.rule; cover = c.cover; from = c.from; mode = c.mode; hole = hole })

-- The failure of a case, or nothing where it holds.
abbrev pub failure : GhostProtocol → Case → Option FailedCase
failure p c = if c.due then failed_at c (open_requesters p c.cover c.mode) else None

-- The cases that don't hold, in order, each with the first requester that gets through.
abbrev pub failed_cases : GhostProtocol → List FailedCase
failed_cases p = filter_map (failure p) (cases p)

-- A protocol is covered if every case holds.
abbrev pub IsCoveredGhost : GhostProtocol → Type 0
IsCoveredGhost p = failed_cases p ≡ []
