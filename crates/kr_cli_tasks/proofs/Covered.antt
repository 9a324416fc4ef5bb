-- The report of a run under a covered protocol, which nobody has to judge.
use Rattle.std.proofs.Common.{◌≡◌, ◌∙◌, List, ℕ, Result, Ok, Err, IfOk, refl}
use Rattle.kr_model.specs.Protocol.{Protocol, IsLawful}
use Rattle.kr_model.specs.Covers.{IsCovered}
use Rattle.kr_model.specs.Map.{IsMap}
use Rattle.kr_model.specs.Difference.{first_difference}
use Rattle.kr_model.specs.Run.{programs}
use Rattle.kr_judge.specs.declared.verdict.Verdict.{Verdict}
use Rattle.kr_judge.specs.declared.verdict.Verdict.TheVariants.{Serial}
use Rattle.kr_judge.specs.Verdicts.{verdict_of, verdict_of_run}
use Rattle.kr_judge.proofs.SafeRuns.{covered_programs}
use Rattle.kr_judge.proofs.Wholes.{serial_exactly}
use Rattle.kr_script.specs.Script.{Script}
use Rattle.kr_cli_tasks.specs.Runs.{run_of, IsSerialScript}

-- what commits in it is serializable
pub covered_script : (p : Protocol) → IsLawful p → IsCovered p → (s : Script) → IsMap s.opening → IsSerialScript p s
covered_script p laws covered s sorted = covered_programs p laws covered s.opening s.steps sorted

-- so the verdict on it is `Serial`
pub covered_verdict : (p : Protocol) → IsLawful p → IsCovered p → (s : Script) → IsMap s.opening → verdict_of_run p s.opening s.steps ≡ Serial
covered_verdict p laws covered s sorted =
    let ps = programs (run_of p s).history in
    let v : Verdict = verdict_of (first_difference s.opening ps) in
    (serial_exactly v s.opening ps refl).1 (covered_script p laws covered s sorted)

-- a result that has one text has an equal one
pub same_text : {T E : Type 0} (bytes : T → List ℕ) (r : Result T E) (a b : List ℕ) → a ≡ b → IfOk r (λ t. bytes t ≡ a) → IfOk r (λ t. bytes t ≡ b)
same_text bytes (Ok t) a b same is = is ∙ same
same_text bytes (Err e) a b same is = tt
