use Rattle.std.specs.Prelude.{◌≡◌, List, All, Some}
use Rattle.std.specs.List.{Any}
use Rattle.kr_explain_causes.specs.declared.blame.Blame.{Blame}
use Rattle.kr_explain_causes.specs.declared.cause.Suspect.{Suspect}
use Rattle.kr_explain_causes.specs.Shares.{IsNamedBy}
use Rattle.kr_explain_causes.proofs.cause.count_each.Given as goal

-- each so far is of a suspect that names it
abbrev pub invariant-loop-reason : goal.invariant-loop-reason
invariant-loop-reason l = (suspects : List Suspect) → ((b : Blame) → Any (λ reason. reason ≡ Some b) l.reasons → IsNamedBy suspects b l.number)
    → All (λ t. IsNamedBy suspects t.blame t.first) l.fn.tallies.items → All (λ t. IsNamedBy suspects t.blame t.first) l.tallies.items
