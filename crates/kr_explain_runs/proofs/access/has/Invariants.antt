use Rattle.std.proofs.Common.{◌≡◌, drop, is_some}
use Rattle.kr_model.specs.Map.{get}
use Rattle.kr_explain_runs.proofs.access.has.Given as goal

-- The pairs that are left tell whether the key is present.
abbrev pub invariant-loop-pair : goal.invariant-loop-pair
invariant-loop-pair l = is_some (get (drop l.pair-index l.pairs) l.key) ≡ is_some (get l.pairs l.key)
