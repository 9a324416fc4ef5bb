-- What a verdict tells of a run.
use Rattle.std.specs.Prelude.{◌≡◌, ◌↔◌, Bool, List, IsTrue}
use Rattle.std.proofs.Common.{ap, ◌∙◌}
use Rattle.kr_model.specs.Difference.{first_difference}
use Rattle.kr_model.specs.Run.{Program, programs}
use Rattle.kr_judge.specs.declared.verdict.Verdict.{Verdict}
use Rattle.kr_judge.specs.declared.verdict.Verdict.TheVariants.{Serial}
use Rattle.kr_judge.specs.Verdicts.{verdict_of}
use Rattle.kr_judge.proofs.Wholes.{serial_exactly}
use Rattle.kr_ghost.specs.Protocol.{GhostProtocol}
use Rattle.kr_script.specs.GhostScript.{GhostScript}
use Rattle.kr_cli.specs.GhostScripts.{ghost_run_of, IsSerialGhosts}

-- the verdict on the programs of a run is that it is serializable exactly where it is
pub serial_told : (p : GhostProtocol) (s : GhostScript) (v : Verdict) (told : Bool) (ps : List Program) → (let r = ghost_run_of p s in ps ≡ programs r.history) → v ≡ verdict_of (first_difference s.opening ps)
    → (IsTrue told ↔ (v ≡ Serial)) → IsTrue told ↔ IsSerialGhosts p s
serial_told p s v told ps are is tells =
    let done : List Program = let r = ghost_run_of p s in programs r.history in
    let exactly = serial_exactly v s.opening done (is ∙ ap (λ (qs : List Program). verdict_of (first_difference s.opening qs)) are) in
    (λ t. exactly.0 (tells.0 t), λ h. tells.1 (exactly.1 h))
