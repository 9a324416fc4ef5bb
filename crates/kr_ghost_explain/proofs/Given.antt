-- What is said of a changed table is said of the change.
use Rattle.std.specs.Prelude.{◌≡◌, List, true}
use Rattle.std.proofs.Common.{subst}
use Rattle.kr_change.specs.declared.change.Change.{Change}
use Rattle.kr_change.specs.GhostChanges.{changed_ghosts, is_ghost_change}
use Rattle.kr_explain_causes.specs.declared.mend.Verdict.{Verdict}
use Rattle.kr_explain_causes.specs.declared.mend.Verdict.TheVariants.{Accepted, Safe, Mended, Neither}
use Rattle.kr_ghost.specs.declared.cases.FailedCase.{FailedCase}
use Rattle.kr_ghost.specs.Protocol.{GhostProtocol}
use Rattle.kr_ghost_explain.specs.Mends.{IsGhostVerdict, TellsChange}

said : (p : GhostProtocol) (cases failed : List FailedCase) (c : Change) (v : Verdict) → is_ghost_change p c ≡ true → IsGhostVerdict (changed_ghosts p c) cases failed v → TellsChange p cases failed c v
said p cases failed c Accepted is told = record { change = is; covered = told }
said p cases failed c Safe is told = record { change = is; refused = told.0; safe = told.1 }
said p cases failed c Mended is told = record { change = is; refused = told.0; mended = told.1 }
said p cases failed c Neither is told = tt

-- of the same table with the same change
pub said_of : (p q : GhostProtocol) (cases failed : List FailedCase) (c d : Change) (v : Verdict) → q ≡ p → d ≡ c → is_ghost_change p c ≡ true → IsGhostVerdict (changed_ghosts q d) cases failed v → TellsChange p cases failed c v
said_of p q cases failed c d v e f is told =
    said p cases failed c v is (subst (λ (r : GhostProtocol). IsGhostVerdict (changed_ghosts r c) cases failed v) e (subst (λ (x : Change). IsGhostVerdict (changed_ghosts q x) cases failed v) f told))
