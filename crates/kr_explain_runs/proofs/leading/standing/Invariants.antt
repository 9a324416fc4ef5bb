use Rattle.std.proofs.Common.{◌≡◌, ◌++◌, drop}
use Rattle.kr_explain_runs.specs.Reached.{standing}
use Rattle.kr_explain_runs.proofs.leading.standing.Given as goal

-- The keys so far, and then those that are left.
abbrev pub invariant-loop-key : goal.invariant-loop-key
invariant-loop-key l = l.index.items ++ standing (drop l.key-index l.keys) ≡ standing l.keys
