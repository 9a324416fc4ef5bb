use Rattle.std.proofs.Common.{string_bytes}
use Rattle.kr_view_table.specs.Causes.{IsCauseBlock}
use Rattle.kr_explain_core.proofs.InBlocks.{block_at, all_blocks}
use Rattle.kr_view_table.proofs.causes.causes.Goals as goal

pub loop-at-preserved : goal.loop-at-preserved
loop-at-preserved g c = block_at (IsCauseBlock (g.P.Protocol.table c.args.protocol.now) (g.P.Protocol.names c.args.protocol.now)) c.args.causes.now c.loop-at.at _ (string_bytes c.loop-at.out) (string_bytes c.in_ok-piece.piece) c.as_str.result.now (string_bytes c.push_str.new.self) c.loop-at-test.true c.index-causes-at.is c.loop-at.invariant c.in_ok-piece.ensures c.as_str.ensures.value c.in_ok-push_str.ensures.bytes

pub returns : goal.returns
returns g c = all_blocks (IsCauseBlock (g.P.Protocol.table c.args.protocol.now) (g.P.Protocol.names c.args.protocol.now)) c.args.causes.now c.loop-at.at (string_bytes c.loop-at.out) c.loop-at-test.false c.loop-at.invariant
