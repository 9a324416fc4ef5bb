use Rattle.kr_explain_causes.specs.Shares.{IsNamedBy}
use Rattle.kr_explain_causes.proofs.cause.leader.Given as goal

-- the suspect that it counts first names it
abbrev pub invariant-loop-tally : goal.invariant-loop-tally
invariant-loop-tally l = IsNamedBy l.suspects l.best.blame l.best.first
