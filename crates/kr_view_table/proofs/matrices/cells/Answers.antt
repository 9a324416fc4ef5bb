use Rattle.std.proofs.Common.{arith, string_bytes}
use Rattle.kr_view_table.specs.Matrices.{cell_words}
use Rattle.kr_view_table.proofs.Pieces.{mode_more, mode_all}
use Rattle.kr_view_table.proofs.matrices.cells.Goals as goal

pub loop-other-preserved : goal.loop-other-preserved
loop-other-preserved g c = mode_more (cell_words (g.P.Protocol.table c.args.protocol.now) (g.P.Protocol.names c.args.protocol.now) c.args.explanation.now c.args.which c.args.mode) c.loop-other.other (string_bytes c.loop-other.out) (string_bytes c.in_ok-piece.piece) c.as_str.result.now (string_bytes c.push_str.new.self) (omega arith) c.loop-other.invariant c.as_str.ensures.value c.in_ok-piece.ensures c.in_ok-push_str.ensures.bytes

pub returns : goal.returns
returns g c = mode_all (g.P.Protocol.table c.args.protocol.now) (cell_words (g.P.Protocol.table c.args.protocol.now) (g.P.Protocol.names c.args.protocol.now) c.args.explanation.now c.args.which c.args.mode) c.loop-other.other (string_bytes c.loop-other.out) (omega arith) c.loop-other.invariant
