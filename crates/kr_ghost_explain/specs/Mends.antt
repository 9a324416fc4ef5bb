-- Changes of one entry that mend failed cases of a table with ghosts.
use Rattle.std.specs.Prelude.{◌≡◌, ◌≢◌, [], List, true, All, IfSome, map}
use Rattle.std.specs.List.{Any}
use Rattle.kr_model.specs.declared.Row.{Row}
use Rattle.kr_model.specs.declared.Row.TheVariants as row
use Rattle.kr_model.specs.declared.Side.{Side}
use Rattle.kr_model.specs.declared.Side.TheVariants.{Current, Next}
use Rattle.kr_ghost.specs.declared.cases.Access.{Access}
use Rattle.kr_ghost.specs.declared.cases.Access.TheVariants as access
use Rattle.kr_ghost.specs.declared.cases.Rule.{Rule}
use Rattle.kr_ghost.specs.declared.cases.Rule.TheVariants as rule
use Rattle.kr_ghost.specs.declared.cases.FailedCase.{FailedCase}
use Rattle.kr_ghost.specs.Protocol.{GhostProtocol}
use Rattle.kr_ghost.specs.Covers.{failed_cases, IsCoveredGhost}
use Rattle.kr_ghost.specs.Safe.{IsSafeGhost}
use Rattle.kr_change.specs.declared.change.GhostRow.{GhostRow}
use Rattle.kr_change.specs.declared.change.GhostRow.TheVariants.{Revive, InsertHit, DeleteMiss, UpdateMiss}
use Rattle.kr_change.specs.declared.change.Change.{Change}
use Rattle.kr_change.specs.declared.change.Change.TheVariants as change
use Rattle.kr_change.specs.GhostChanges.{changed_ghosts, is_ghost_change}
use Rattle.kr_explain_causes.specs.declared.mend.Mend.{Mend}
use Rattle.kr_explain_causes.specs.declared.mend.Verdict.{Verdict}
use Rattle.kr_explain_causes.specs.declared.mend.Verdict.TheVariants.{Accepted, Safe, Mended, Neither}
use Rattle.kr_explain_causes.specs.Mends.{AreOfEntry, AreTold, TellsBy}
use Rattle.kr_ghost_explain.specs.declared.blame.GhostBlame.{GhostBlame}
use Rattle.kr_ghost_explain.specs.declared.blame.GhostBlame.TheVariants as blame
use Rattle.kr_ghost_explain.specs.declared.causes.GhostCause.{GhostCause}
use Rattle.kr_ghost_explain.specs.declared.explanation.MendedCause.{MendedCause}

-- Two failures are of one case: whatever its mode is, and the requester that it lets through.
pub record IsSameCase (f g : FailedCase) : Type 0 where
  pub case : f.case ≡ g.case
  pub cover : f.cover ≡ g.cover
  pub from : f.from ≡ g.from

-- A failure is of one of the cases.
pub record IsAmong (f : FailedCase) (cases : List FailedCase) : Type 0 where
  pub some : Any (IsSameCase f) cases

-- Of the cases that fail after a change, none is among those that it has to mend, and each had failed before.
pub record AreMended (cases failed after : List FailedCase) : Type 0 where
  pub mended : All (λ f. IsAmong f cases → ⊥) after
  pub no_other : All (λ f. IsAmong f failed) after

-- The change is one of p's, and with it the table is accepted.
pub record Accepts (p : GhostProtocol) (c : Change) : Type 0 where
  pub change : is_ghost_change p c ≡ true
  pub covered : IsCoveredGhost (changed_ghosts p c)

-- The change is one of p's, and with it the table isn't accepted, but safe.
pub record MakesSafe (p : GhostProtocol) (c : Change) : Type 0 where
  pub change : is_ghost_change p c ≡ true
  pub refused : failed_cases (changed_ghosts p c) ≢ []
  pub safe : IsSafeGhost (changed_ghosts p c)

-- The change is one of p's, and with it the table isn't accepted, but the cases hold, and no case fails that held.
pub record Mends (p : GhostProtocol) (cases failed : List FailedCase) (c : Change) : Type 0 where
  pub change : is_ghost_change p c ≡ true
  pub refused : failed_cases (changed_ghosts p c) ≢ []
  pub mended : AreMended cases failed (failed_cases (changed_ghosts p c))

-- The change is of what a row requests at a side.
abbrev pub IsAt : Row → Side → Change → Type 0
IsAt row side (change.Request r s own_next request) = (r ≡ row) × (s ≡ side)
IsAt row side _ = ⊥

-- The same of a row that only tables with ghosts have.
abbrev pub IsAtGhostRow : GhostRow → Side → Change → Type 0
IsAtGhostRow row side (change.GhostRequest r s request) = (r ≡ row) × (s ≡ side)
IsAtGhostRow row side _ = ⊥

-- The change is of what an access requests.
abbrev pub IsOfAccess : Access → Change → Type 0
IsOfAccess access.Fetch c = IsAt row.FetchHit Current c
IsOfAccess access.Scan c = IsAt row.ScanKey Current c
IsOfAccess access.Delete c = IsAt row.Delete Current c
IsOfAccess access.Update c = IsAt row.Update Current c
IsOfAccess access.Revive c = IsAtGhostRow Revive Current c
IsOfAccess access.Insert c = IsAt row.Insert Next c
IsOfAccess access.InsertHit c = IsAtGhostRow InsertHit Current c

-- The change is of what a rule's row requests, where that is one request on one name.
abbrev pub IsOfRule : Rule → Change → Type 0
IsOfRule rule.Conversion c = ⊥
IsOfRule rule.FetchHit c = IsAt row.FetchHit Current c
IsOfRule rule.FetchMiss c = IsAt row.FetchMiss Next c
IsOfRule rule.ScanName c = IsAt row.ScanKey Current c
IsOfRule rule.ScanStop c = IsAt row.ScanStop Next c
IsOfRule rule.Insert c = ⊥
IsOfRule rule.Split c = ⊥
IsOfRule rule.Delete c = IsAt row.Delete Current c
IsOfRule rule.Update c = IsAt row.Update Current c
IsOfRule rule.Revive c = IsAtGhostRow Revive Current c
IsOfRule rule.Heir c = ⊥
IsOfRule rule.InsertHit c = IsAtGhostRow InsertHit Current c
IsOfRule rule.DeleteMiss c = IsAtGhostRow DeleteMiss Next c
IsOfRule rule.UpdateMiss c = IsAtGhostRow UpdateMiss Next c

-- The change is of the entry that is to blame.
abbrev pub IsOfBlame : GhostBlame → Change → Type 0
IsOfBlame (blame.Void a) c = IsOfAccess a c
IsOfBlame (blame.Request r asked) c = IsOfRule r c
IsOfBlame (blame.NewKey m) c = IsAt row.Insert Current c
IsOfBlame (blame.Heir m) (change.Heir held mode) = Unit {0}
IsOfBlame (blame.Conversion held requested made) (change.Convert h q mode) = (h ≡ held) × (q ≡ requested)
IsOfBlame (blame.Pair requested held) (change.Compatible q h is_compatible) = (q ≡ requested) × (h ≡ held)
IsOfBlame _ _ = ⊥

-- The changes that are told mend cases of p.
abbrev pub AreGhostMends : GhostProtocol → List FailedCase → List FailedCase → Mend → Type 0
AreGhostMends p cases failed m = AreTold (Accepts p) (MakesSafe p) (Mends p cases failed) m

-- The changes that are named are of one entry, which is to blame.
abbrev pub AreOfBlamed : GhostBlame → Mend → Type 0
AreOfBlamed blame m = AreOfEntry (IsOfBlame blame) m

-- What is said of a change.
abbrev pub TellsChange : GhostProtocol → List FailedCase → List FailedCase → Change → Verdict → Type 0
TellsChange p cases failed c v = TellsBy (Accepts p) (MakesSafe p) (Mends p cases failed) c v

-- What is said of the table p that a change made.
abbrev pub IsGhostVerdict : GhostProtocol → List FailedCase → List FailedCase → Verdict → Type 0
IsGhostVerdict p cases failed Accepted = IsCoveredGhost p
IsGhostVerdict p cases failed Safe = (failed_cases p ≢ []) × IsSafeGhost p
IsGhostVerdict p cases failed Mended = (failed_cases p ≢ []) × AreMended cases failed (failed_cases p)
IsGhostVerdict p cases failed Neither = Unit {0}

-- The causes of which changes were tried.
abbrev pub causes_of : List MendedCause → List GhostCause
causes_of told = map (λ m. m.cause) told

-- What is told of a cause, where these cases of p fail: each change that is named mends its cases, and all are of the entry that is to blame.
pub record IsMended (p : GhostProtocol) (failed : List FailedCase) (m : MendedCause) : Type 0 where
  pub mends : IfSome m.mend (AreGhostMends p m.cause.cases.items failed)
  pub entry : IfSome m.mend (AreOfBlamed m.cause.blame)
