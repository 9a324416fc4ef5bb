use Rattle.std.proofs.Common.{◌≡◌, drop, None}
use Rattle.kr_model.specs.Map.{is_rising}
use Rattle.kr_judge.proofs.keys.keys_rise.Given as goal

-- The pairs that are left rise from above the last key where all of them rise.
abbrev pub invariant-loop-pair : goal.invariant-loop-pair
invariant-loop-pair l = is_rising l.before (drop l.pair-index l.pairs) ≡ is_rising None l.pairs
