use Rattle.std.specs.Prelude.{All}
use Rattle.kr_explain_causes.specs.Shares.{IsNamedBy}
use Rattle.kr_explain_causes.proofs.cause.tallies.Given as goal

-- each is of a suspect that names it
abbrev pub invariant-loop-number : goal.invariant-loop-number
invariant-loop-number l = All (λ t. IsNamedBy l.suspects t.blame t.first) l.tallies.items
