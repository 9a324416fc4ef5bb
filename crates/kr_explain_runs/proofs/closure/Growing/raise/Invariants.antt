use Rattle.std.specs.Prelude.{◌≡◌}
use Rattle.kr_explain_runs.proofs.closure.Growing.raise.Given as goal

-- the table stays
abbrev pub invariant-loop-at : goal.invariant-loop-at
invariant-loop-at g l = l.self.protocol.now ≡ l.fn.self.protocol.now
