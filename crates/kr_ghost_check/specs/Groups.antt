-- The cases of a table with ghosts in groups: a rule and a cover, and in each of these the cases by the own mode.
use Rattle.std.specs.Prelude.{ℕ, zero, suc, ◌+◌, Bool, true, ◌&&◌, ◌||◌, cond, List, [], ◌∷◌, Option, None, map, if◌then◌else◌}
use Rattle.std.specs.List.{flat_map, filter_map}
use Rattle.kr_model.specs.declared.Row.TheVariants as row
use Rattle.kr_model.specs.declared.Span.{Span}
use Rattle.kr_model.specs.declared.Origin.{Origin}
use Rattle.kr_model.specs.declared.Origin.TheVariants as origin
use Rattle.kr_model.specs.Protocol.{Protocol}
use Rattle.kr_model.specs.Covers.{modes, modes_or_none, mode_after}
use Rattle.kr_ghost.specs.declared.cases.Cover.{Cover}
use Rattle.kr_ghost.specs.declared.cases.Cover.TheVariants.{ReadKey, ReadGap, ChangedKey}
use Rattle.kr_ghost.specs.declared.cases.Rule.{Rule}
use Rattle.kr_ghost.specs.declared.cases.Rule.TheVariants as rule
use Rattle.kr_ghost.specs.declared.cases.FailedCase.{FailedCase}
use Rattle.kr_ghost.specs.Protocol.{GhostProtocol, heir_of, inherits}
use Rattle.kr_ghost.specs.declared.vain.Vain.TheVariants.{InsertHit, DeleteMiss, UpdateMiss}
use Rattle.kr_ghost.specs.Step.{current, next, vain}
use Rattle.kr_ghost.specs.Covers.{has_row, if_row, serves, mode_on_new, Case, case, failure}

-- What the rule's operation requests on a name; nothing where the rule tells of no request on one name.
abbrev pub request_of : GhostProtocol → Rule → Option (ℕ × Span)
request_of p rule.Conversion = None
request_of p rule.FetchHit = current p row.FetchHit
request_of p rule.FetchMiss = next p row.FetchMiss
request_of p rule.ScanName = current p row.ScanKey
request_of p rule.ScanStop = next p row.ScanStop
request_of p rule.Insert = None
request_of p rule.Split = None
request_of p rule.Delete = current p row.Delete
request_of p rule.Update = current p row.Update
request_of p rule.Revive = p.revive
request_of p rule.Heir = None
request_of p rule.InsertHit = vain p InsertHit
request_of p rule.DeleteMiss = vain p DeleteMiss
request_of p rule.UpdateMiss = vain p UpdateMiss

-- The mode that has to serve the cover in the case of the rule at the own mode n. A conversion starts at the held mode h, and an heir at the mode h on the ghost; the other rules don't look at h.
abbrev pub mode_at : GhostProtocol → Rule → ℕ → ℕ → ℕ
mode_at p rule.Conversion h n = p.table.convert h n
mode_at p rule.FetchHit h n = mode_after p.table n (request_of p rule.FetchHit)
mode_at p rule.FetchMiss h n = mode_after p.table n (request_of p rule.FetchMiss)
mode_at p rule.ScanName h n = mode_after p.table n (request_of p rule.ScanName)
mode_at p rule.ScanStop h n = mode_after p.table n (request_of p rule.ScanStop)
mode_at p rule.Insert h n = mode_on_new p n
mode_at p rule.Split h n = mode_on_new p n
mode_at p rule.Delete h n = mode_after p.table n (request_of p rule.Delete)
mode_at p rule.Update h n = mode_after p.table n (request_of p rule.Update)
mode_at p rule.Revive h n = mode_after p.table n (request_of p rule.Revive)
mode_at p rule.Heir h n = p.table.convert n (heir_of p.purges h)
mode_at p rule.InsertHit h n = mode_after p.table n (request_of p rule.InsertHit)
mode_at p rule.DeleteMiss h n = mode_after p.table n (request_of p rule.DeleteMiss)
mode_at p rule.UpdateMiss h n = mode_after p.table n (request_of p rule.UpdateMiss)

-- The modes that it is taken at.
abbrev pub origin_at : Rule → ℕ → ℕ → Origin
origin_at rule.Conversion h n = origin.Conversion h n
origin_at rule.FetchHit h n = origin.Own n
origin_at rule.FetchMiss h n = origin.Own n
origin_at rule.ScanName h n = origin.Own n
origin_at rule.ScanStop h n = origin.Own n
origin_at rule.Insert h n = origin.Insert n 0
origin_at rule.Split h n = origin.Insert n 0
origin_at rule.Delete h n = origin.Own n
origin_at rule.Update h n = origin.Own n
origin_at rule.Revive h n = origin.Own n
origin_at rule.Heir h n = origin.Conversion n h
origin_at rule.InsertHit h n = origin.Own n
origin_at rule.DeleteMiss h n = origin.Own n
origin_at rule.UpdateMiss h n = origin.Own n

-- Whether it is due.
abbrev pub is_due : GhostProtocol → Rule → Cover → ℕ → ℕ → Bool
is_due p rule.Conversion c h n = serves p c h
is_due p rule.FetchHit c h n = true
is_due p rule.FetchMiss c h n = true
is_due p rule.ScanName c h n = true
is_due p rule.ScanStop c h n = true
is_due p rule.Insert c h n = true
is_due p rule.Split c h n = serves p ReadGap n
is_due p rule.Delete c h n = true
is_due p rule.Update c h n = true
is_due p rule.Revive c h n = true
is_due p rule.Heir c h n = serves p ReadKey h || serves p ReadGap h
is_due p rule.InsertHit c h n = true
is_due p rule.DeleteMiss c h n = true
is_due p rule.UpdateMiss c h n = true

-- That case.
abbrev pub case_at : GhostProtocol → Rule → Cover → ℕ → ℕ → Case
case_at p r c h n = case r c (origin_at r h n) (is_due p r c h n) (mode_at p r h n)

-- The first own mode of the rule's cases: a conversion is to a mode, and all others are also taken at no lock.
abbrev pub first_own : Rule → ℕ
first_own rule.Conversion = 1
first_own rule.FetchHit = 0
first_own rule.FetchMiss = 0
first_own rule.ScanName = 0
first_own rule.ScanStop = 0
first_own rule.Insert = 0
first_own rule.Split = 0
first_own rule.Delete = 0
first_own rule.Update = 0
first_own rule.Revive = 0
first_own rule.Heir = 0
first_own rule.InsertHit = 0
first_own rule.DeleteMiss = 0
first_own rule.UpdateMiss = 0

-- The modes from 0, which is no lock, or from 1.
abbrev pub modes_from : Protocol → ℕ → List ℕ
modes_from p zero = modes_or_none p
modes_from p (suc n) = modes p

-- The cases of the rule and the cover at h, own modes rising.
abbrev pub line : GhostProtocol → Rule → Cover → ℕ → List Case
line p r c h = map (case_at p r c h) (modes_from p.table (first_own r))

-- And at each mode h.
abbrev pub square : GhostProtocol → Rule → Cover → List Case
square p r c = flat_map (line p r c) (modes p.table)

-- The cases of a group.
abbrev pub group : GhostProtocol → Rule × Cover → List Case
group p (rule.Conversion, c) = square p rule.Conversion c
group p (rule.FetchHit, c) = line p rule.FetchHit c 0
group p (rule.FetchMiss, c) = line p rule.FetchMiss c 0
group p (rule.ScanName, c) = line p rule.ScanName c 0
group p (rule.ScanStop, c) = line p rule.ScanStop c 0
group p (rule.Insert, c) = line p rule.Insert c 0
group p (rule.Split, c) = line p rule.Split c 0
group p (rule.Delete, c) = line p rule.Delete c 0
group p (rule.Update, c) = if p.table.updates then line p rule.Update c 0 else []
group p (rule.Revive, c) = line p rule.Revive c 0
group p (rule.Heir, c) = if inherits p.purges then square p rule.Heir c else []
group p (rule.InsertHit, c) = if_row p InsertHit (line p rule.InsertHit c 0)
group p (rule.DeleteMiss, c) = if_row p DeleteMiss (line p rule.DeleteMiss c 0)
group p (rule.UpdateMiss, c) = if p.table.updates then if_row p UpdateMiss (line p rule.UpdateMiss c 0) else []

-- The groups, in order.
abbrev pub groups : List (Rule × Cover)
groups =
    (rule.Conversion, ReadKey) ∷ (rule.Conversion, ReadGap) ∷ (rule.Conversion, ChangedKey) ∷ (rule.FetchHit, ReadKey) ∷ (rule.FetchMiss, ReadGap)
    ∷ (rule.ScanName, ReadKey) ∷ (rule.ScanName, ReadGap) ∷ (rule.ScanStop, ReadGap) ∷ (rule.Insert, ChangedKey) ∷ (rule.Split, ReadGap)
    ∷ (rule.Delete, ChangedKey) ∷ (rule.Update, ChangedKey) ∷ (rule.Revive, ChangedKey) ∷ (rule.Heir, ReadGap)
    ∷ (rule.InsertHit, ReadKey) ∷ (rule.DeleteMiss, ReadGap) ∷ (rule.UpdateMiss, ReadGap) ∷ []

-- The cases that don't hold, of those listed, in order.
abbrev pub failures : GhostProtocol → List Case → List FailedCase
failures p cs = filter_map (failure p) cs

-- How many groups are one line of cases: nine, and one for each row that not each table has.
abbrev pub line_count : GhostProtocol → ℕ
line_count p = 9 + cond p.table.updates 1 0 + cond (has_row p InsertHit) 1 0 + cond (has_row p DeleteMiss) 1 0 + cond (p.table.updates && has_row p UpdateMiss) 1 0
