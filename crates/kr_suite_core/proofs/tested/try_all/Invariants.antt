use Rattle.std.proofs.Common.{All}
use Rattle.kr_suite_core.specs.Suite.{IsTested}
use Rattle.kr_suite_core.proofs.tested.try_all.Given as goal

-- the parts so far were tried
abbrev pub invariant-loop-part : goal.invariant-loop-part
invariant-loop-part g l = All (IsTested (g.P.IndexProtocol.index l.protocol)) l.parts.items
