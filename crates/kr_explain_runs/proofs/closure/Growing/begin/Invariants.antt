use Rattle.std.specs.Prelude.{◌≡◌}
use Rattle.kr_explain_runs.proofs.closure.Growing.begin.Given as goal

-- the table stays
abbrev pub invariant-loop-p : goal.invariant-loop-p
invariant-loop-p g l = l.self.protocol.now ≡ l.fn.self.protocol.now
