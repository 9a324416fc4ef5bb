use Rattle.std.proofs.Common.{◌≡◌, drop}
use Rattle.kr_model.specs.Map.{at}
use Rattle.kr_explain_runs.proofs.access.at.Given as goal

-- The least key is among the pairs that are left.
abbrev pub invariant-loop-pair : goal.invariant-loop-pair
invariant-loop-pair l = at (drop l.pair-index l.pairs) l.from ≡ at l.pairs l.from
