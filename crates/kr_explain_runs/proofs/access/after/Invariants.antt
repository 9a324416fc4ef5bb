use Rattle.std.proofs.Common.{◌≡◌, drop}
use Rattle.kr_model.specs.Map.{after}
use Rattle.kr_explain_runs.proofs.access.after.Given as goal

-- The least key is among the pairs that are left.
abbrev pub invariant-loop-pair : goal.invariant-loop-pair
invariant-loop-pair l = after (drop l.pair-index l.pairs) l.key ≡ after l.pairs l.key
