use Rattle.std.proofs.Common.{arith, string_bytes}
use Rattle.kr_view_table.specs.Rules.{clause_at}
use Rattle.kr_view_table.proofs.Pieces.{own_more, own_all}
use Rattle.kr_view_table.proofs.rules.side_cell.Goals as goal

pub loop-own-preserved : goal.loop-own-preserved
loop-own-preserved g c = own_more (clause_at (g.P.Protocol.table c.args.protocol.now) (g.P.Protocol.names c.args.protocol.now) c.args.causes.now c.args.row c.args.side) c.loop-own.own (string_bytes c.loop-own.out) (string_bytes c.in_ok-piece.piece) c.as_str.result.now (string_bytes c.push_str.new.self) c.loop-own.invariant c.as_str.ensures.value c.in_ok-piece.ensures c.in_ok-push_str.ensures.bytes

pub returns : goal.returns
returns g c = own_all (g.P.Protocol.table c.args.protocol.now) (clause_at (g.P.Protocol.table c.args.protocol.now) (g.P.Protocol.names c.args.protocol.now) c.args.causes.now c.args.row c.args.side) c.loop-own.own (string_bytes c.loop-own.out) (omega arith) c.loop-own.invariant
