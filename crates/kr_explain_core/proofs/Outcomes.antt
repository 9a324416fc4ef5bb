-- The three outcomes.
use Rattle.std.specs.Prelude.{◌≡◌, ℕ, true, false, List, length, refl}
use Rattle.std.proofs.Common.{get_or, sym, ◌∙◌}
use Rattle.kr_model.specs.declared.Cover.{Cover}
use Rattle.kr_model.specs.declared.FailedCase.{FailedCase}
use Rattle.kr_model.specs.Protocol.{Protocol, IsLawful}
use Rattle.kr_model.specs.Covers.{IsCovered, failed_cases, cases}
use Rattle.kr_model.specs.Safe.{IsSafe}
use Rattle.kr_theorem.proofs.safe.AllCases.{covered_is_safe}
use Rattle.kr_decide.specs.Survey as survey
use Rattle.kr_decide.specs.Survey.{HasHole}
use Rattle.kr_explain_core.specs.declared.explanation.Failures.{Failures}
use Rattle.kr_explain_core.specs.declared.explanation.Explanation.TheVariants as told
use Rattle.kr_explain_core.specs.Harmless.{IsHarmless}
use Rattle.kr_explain_core.specs.Explained.{AreFailures, AreHarmless, IsExplained}

-- no hole is in a safe table
no_hole : (p : Protocol) (c : Cover) (m : ℕ) → IsSafe p → HasHole p c m → ⊥
no_hole p c m safe h =
    let blocked = safe h.row h.side h.own h.other h.next h.reached.beside h.reached.alone h.reached.lets_in.asks h.reached.lets_in.kept_out in
    let granted = h.reached.lets_in.granted in
    absurd (cc)

-- each cause of a safe table is harmless
harmless_in : (p : Protocol) (failed cases : List FailedCase) → IsSafe p → IsHarmless p failed cases
harmless_in p failed cases safe = λ c m low hole belongs. no_hole p c m safe hole

pub all_harmless : (p : Protocol) (f : Failures) → IsSafe p → AreFailures p (failed_cases p) f → AreHarmless f
all_harmless p f safe are = λ i e at. (are.told i e at).harmless.1 (harmless_in p (failed_cases p) (get_or f.causes.items i e).cause.cases.items safe)

-- a covered table is told to be accepted
pub accepted_told : (p : Protocol) (n : ℕ) → IsLawful p → IsCovered p → n ≡ length (cases p) → IsExplained p (told.Accepted n)
accepted_told p n laws covered is = record { accepted = (λ _. covered, λ _. refl); safe = (λ _. covered_is_safe p laws covered, λ _. refl); told = is }

pub not_true : false ≡ true → ⊥
not_true e = absurd (cc)

-- one that isn't covered but found to be safe
pub safe_told : (p : Protocol) (f : Failures) → (IsCovered p → ⊥) → survey.is_safe f.survey ≡ true → AreFailures p (failed_cases p) f → IsExplained p (told.Safe f)
safe_told p f uncovered found are =
    let safe = are.survey.safe.0 found in
    record { accepted = (λ e. absurd (not_true e), λ covered. absurd (uncovered covered)); safe = (λ _. safe, λ _. refl); told = (are, all_harmless p f safe are) }

-- and one that isn't
pub rejected_told : (p : Protocol) (f : Failures) → (IsCovered p → ⊥) → survey.is_safe f.survey ≡ false → AreFailures p (failed_cases p) f → IsExplained p (told.Rejected f)
rejected_told p f uncovered found are =
    let unsafe : IsSafe p → ⊥ = λ safe. not_true (sym found ∙ are.survey.safe.1 safe) in
    record { accepted = (λ e. absurd (not_true e), λ covered. absurd (uncovered covered)); safe = (λ e. absurd (not_true e), λ safe. absurd (unsafe safe)); told = are }
