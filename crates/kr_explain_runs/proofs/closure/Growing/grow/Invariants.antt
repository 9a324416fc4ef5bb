use Rattle.std.specs.Prelude.{◌≡◌}
use Rattle.kr_explain_runs.proofs.closure.Growing.grow.Given as goal

-- the table stays
abbrev pub invariant-loop-moved : goal.invariant-loop-moved
invariant-loop-moved g l = l.self.protocol.now ≡ l.fn.self.protocol.now

-- the table stays
abbrev pub invariant-loop-at : goal.invariant-loop-at
invariant-loop-at g l = l.self.protocol.now ≡ l.fn.self.protocol.now
