-- What a verdict tells of a run, and the verdict that a covered protocol tells beforehand.
use Rattle.std.specs.Prelude.{◌≡◌, ◌↔◌, Bool, List, IsTrue, refl}
use Rattle.std.proofs.Common.{ap, ◌∙◌}
use Rattle.kr_model.specs.Difference.{first_difference}
use Rattle.kr_model.specs.Map.{IsMap}
use Rattle.kr_model.specs.Run.{Program, programs}
use Rattle.kr_judge.specs.declared.verdict.Verdict.{Verdict}
use Rattle.kr_judge.specs.declared.verdict.Verdict.TheVariants.{Serial}
use Rattle.kr_judge.specs.Verdicts.{verdict_of}
use Rattle.kr_judge.proofs.Wholes.{serial_exactly}
use Rattle.kr_ghost.specs.Covers.{IsCoveredGhost}
use Rattle.kr_ghost.specs.Protocol.{GhostProtocol, IsLawfulGhost}
use Rattle.kr_ghost.proofs.AllCases.{covered_is_safe}
use Rattle.kr_ghost_run.specs.Ran.{verdict_of_moves}
use Rattle.kr_ghost_run.proofs.Left.{safe_programs}
use Rattle.kr_script.specs.GhostScript.{GhostScript}
use Rattle.kr_cli.specs.GhostScripts.{ghost_run_of, IsSerialGhosts}

-- the verdict on the programs of a run is that it is serializable exactly where it is
pub serial_told : (p : GhostProtocol) (s : GhostScript) (v : Verdict) (told : Bool) (ps : List Program) → (let r = ghost_run_of p s in ps ≡ programs r.history) → v ≡ verdict_of (first_difference s.opening ps)
    → (IsTrue told ↔ (v ≡ Serial)) → IsTrue told ↔ IsSerialGhosts p s
serial_told p s v told ps are is tells =
    let done : List Program = let r = ghost_run_of p s in programs r.history in
    let exactly = serial_exactly v s.opening done (is ∙ ap (λ (qs : List Program). verdict_of (first_difference s.opening qs)) are) in
    (λ t. exactly.0 (tells.0 t), λ h. tells.1 (exactly.1 h))

-- what commits in the run of a script under a covered protocol is serializable
pub covered_serial : (p : GhostProtocol) → IsLawfulGhost p → IsCoveredGhost p → (s : GhostScript) → IsMap s.opening → IsSerialGhosts p s
covered_serial p laws covered s sorted = safe_programs p laws (covered_is_safe p laws covered) s.opening s.moves sorted

-- so the verdict on it is `Serial`
pub covered_verdict : (p : GhostProtocol) → IsLawfulGhost p → IsCoveredGhost p → (s : GhostScript) → IsMap s.opening → verdict_of_moves p s.opening s.moves ≡ Serial
covered_verdict p laws covered s sorted =
    let done : List Program = let r = ghost_run_of p s in programs r.history in
    let v : Verdict = verdict_of (first_difference s.opening done) in
    (serial_exactly v s.opening done refl).1 (covered_serial p laws covered s sorted)
