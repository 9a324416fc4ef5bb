-- A schedule in what is said of its cause.
use Rattle.std.proofs.Common.{◌≡◌, ◌++◌, ℕ, List, sym, ap, ◌∙◌, append_assoc}
use Rattle.kr_model.specs.Protocol.{Protocol}
use Rattle.kr_explain_runs.specs.declared.counterexample.Counterexample.{Counterexample}
use Rattle.kr_explain_text.specs.Lines.{Adds}
use Rattle.kr_explain_text.specs.Steps.{IsSchedule, schedule_text}

-- the same with more prose before it and behind it
pub with_prose : (p : Protocol) (names : List (List ℕ)) (c : Counterexample) (body ran case new : List ℕ) → Adds (IsSchedule p names c) body ran → new ≡ ran ++ case → IsSchedule p names c new
with_prose p names c body ran case new (text, (is, e)) f =
    let s : List ℕ = schedule_text p names c in
    let behind : List ℕ = is.behind ++ case in
    record {
      before = body ++ is.before;
      behind = behind;
      written = f ∙ (ap (λ (z : List ℕ). z ++ case) (e ∙ ap (λ (z : List ℕ). body ++ z) is.written)
          ∙ (append_assoc body (is.before ++ (s ++ is.behind)) case
          ∙ (ap (λ (z : List ℕ). body ++ z) (append_assoc is.before (s ++ is.behind) case ∙ ap (λ (z : List ℕ). is.before ++ z) (append_assoc s is.behind case))
          ∙ sym (append_assoc body is.before (s ++ behind)))));
    }
