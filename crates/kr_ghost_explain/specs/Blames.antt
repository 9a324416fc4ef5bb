-- What may be to blame for the failed cases of a table with ghosts, and how they are put together by it.
use Rattle.std.specs.Prelude.{◌≡◌, ◌⊎◌, ℕ, ◌<◌, nat_le, List, All, length, true, Option, Some, None, if◌then◌else◌}
use Rattle.std.specs.List.{flat_map}
use Rattle.std.specs.List.Sorted.{IsPermutation}
use Rattle.kr_model.specs.declared.Origin.{Origin}
use Rattle.kr_model.specs.declared.Origin.TheVariants as origin
use Rattle.kr_model.specs.declared.Span.{Span}
use Rattle.kr_protocol.specs.Asking.{converted_at}
use Rattle.kr_ghost.specs.declared.cases.Access.{Access}
use Rattle.kr_ghost.specs.declared.cases.Access.TheVariants as access
use Rattle.kr_ghost.specs.declared.cases.Rule.{Rule}
use Rattle.kr_ghost.specs.declared.cases.Rule.TheVariants as rule
use Rattle.kr_ghost.specs.declared.cases.Requester.{Requester}
use Rattle.kr_ghost.specs.declared.cases.FailedCase.{FailedCase}
use Rattle.kr_ghost.specs.Protocol.{GhostProtocol, heir_of}
use Rattle.kr_ghost.specs.Covers.{asked}
use Rattle.kr_ghost_check.specs.Groups.{request_of}
use Rattle.kr_ghost_explain.specs.declared.blame.GhostBlame.{GhostBlame}
use Rattle.kr_ghost_explain.specs.declared.blame.GhostBlame.TheVariants as blame
use Rattle.kr_ghost_explain.specs.declared.causes.GhostCause.{GhostCause}

-- What a requester requests; nothing where its own mode is no mode.
abbrev pub asked_at : GhostProtocol → Requester → Option (ℕ × Span)
asked_at p x = if nat_le x.own p.table.count then asked p x.access x.own else None

-- The mode in which a requester is tested, who has the own mode o and requests this; 0 where nothing is requested.
abbrev pub tested_in : GhostProtocol → ℕ → Option (ℕ × Span) → ℕ
tested_in p o None = 0
tested_in p o (Some (q, span)) = converted_at p.table o q

abbrev pub requested_at : GhostProtocol → Requester → ℕ
requested_at p x = tested_in p x.own (asked_at p x)

-- The mode in which a lock in mode h on a purged ghost is inherited; 0 where that is no mode.
abbrev pub heir_at : GhostProtocol → ℕ → ℕ
heir_at p h = if nat_le h p.table.count then heir_of p.purges h else 0

-- The mode in which the lock on the ghost of a case taken at these modes is inherited.
abbrev pub heir_in : GhostProtocol → Origin → ℕ
heir_in p (origin.Conversion held asked) = heir_at p asked
heir_in p (origin.Own own) = 0
heir_in p (origin.Insert own_next own) = 0

-- The access that a rule's operation is, if others may have to wait for it too.
abbrev pub access_of : Rule → Option Access
access_of rule.Conversion = None
access_of rule.FetchHit = Some access.Fetch
access_of rule.FetchMiss = None
access_of rule.ScanName = Some access.Scan
access_of rule.ScanStop = None
access_of rule.Insert = None
access_of rule.Split = None
access_of rule.Delete = Some access.Delete
access_of rule.Update = Some access.Update
access_of rule.Revive = Some access.Revive
access_of rule.Heir = None
access_of rule.InsertHit = Some access.InsertHit
access_of rule.DeleteMiss = None
access_of rule.UpdateMiss = None

-- What is blamed is the request of a rule's row, if it is any: what it requests, or that its access requests nothing.
abbrev pub IsOfRow : GhostProtocol → GhostBlame → Rule → Type 0
IsOfRow p (blame.Void a) r = (access_of r ≡ Some a) × (request_of p r ≡ None)
IsOfRow p (blame.Request rule asked) r = (r ≡ rule) × (asked ≡ request_of p rule)
IsOfRow p (blame.NewKey m) r = ⊥
IsOfRow p (blame.Heir m) r = ⊥
IsOfRow p (blame.Conversion held requested made) r = ⊥
IsOfRow p (blame.Pair requested held) r = ⊥

-- What is blamed has to do with a failed case of p: it is that its first requester, who is of this access, requests nothing, or what its row requests; or its insert or its purge leaves this mode; or its mode is made by this conversion; or it is the held mode of a pair with what its first requester requests, which are compatible.
abbrev pub IsAbout : GhostProtocol → GhostBlame → FailedCase → Type 0
IsAbout p (blame.Void a) f = ((f.hole.access ≡ a) × (asked_at p f.hole ≡ None)) ⊎ IsOfRow p (blame.Void a) f.case
IsAbout p (blame.Request r asked) f = IsOfRow p (blame.Request r asked) f.case
IsAbout p (blame.NewKey m) f = ((f.case ≡ rule.Insert) ⊎ (f.case ≡ rule.Split)) × (m ≡ f.mode)
IsAbout p (blame.Heir m) f = (f.case ≡ rule.Heir) × (m ≡ heir_in p f.from)
IsAbout p (blame.Conversion held requested made) f = (made ≡ f.mode) × (made ≡ converted_at p.table held requested)
IsAbout p (blame.Pair requested held) f = (held ≡ f.mode) × ((requested ≡ requested_at p f.hole) × (p.table.ok requested held ≡ true))

-- The cases of all causes, one cause after another.
abbrev pub all_cases : List GhostCause → List FailedCase
all_cases causes = flat_map (λ c. c.cases.items) causes

-- What a cause blames has to do with each of its cases.
abbrev pub IsCauseOf : GhostProtocol → GhostCause → Type 0
IsCauseOf p c = All (IsAbout p c.blame) c.cases.items

-- The causes of failed cases: each case is in exactly one of them, as often as it failed; none is empty; and what is blamed has to do with each of its cases.
pub record AreGhostCauses (p : GhostProtocol) (failed : List FailedCase) (causes : List GhostCause) : Type 0 where
  pub shared : IsPermutation failed (all_cases causes)
  pub some : All (λ c. 0 < length c.cases.items) causes
  pub about : All (IsCauseOf p) causes
