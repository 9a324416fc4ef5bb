use Rattle.std.proofs.Common.{◌≡◌}
use Rattle.kr_explain_causes.proofs.cause.count.Given as goal

-- nothing is counted yet
abbrev pub invariant-loop-i : goal.invariant-loop-i
invariant-loop-i l = l.tallies.items ≡ l.fn.tallies.items
