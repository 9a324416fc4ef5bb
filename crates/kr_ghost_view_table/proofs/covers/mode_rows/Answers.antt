use Rattle.std.proofs.Common.{arith, string_bytes}
use Rattle.kr_view_table.proofs.Pieces.{mode_more, mode_all}
use Rattle.kr_ghost_view_table.specs.Covers.{mode_row}
use Rattle.kr_ghost_view_table.proofs.covers.mode_rows.Goals as goal

pub loop-mode-preserved : goal.loop-mode-preserved
loop-mode-preserved g c = mode_more (mode_row (g.P.GhostProtocol.ghosts c.args.protocol.now) (g.P.Protocol.names c.args.protocol.now)) c.loop-mode.mode (string_bytes c.loop-mode.out) (string_bytes c.in_ok-piece.piece) c.as_str.result.now (string_bytes c.push_str.new.self) (omega arith) c.loop-mode.invariant c.as_str.ensures.value c.in_ok-piece.ensures c.in_ok-push_str.ensures.bytes

pub returns : goal.returns
returns g c = mode_all (g.P.GhostProtocol.ghosts c.args.protocol.now).table (mode_row (g.P.GhostProtocol.ghosts c.args.protocol.now) (g.P.Protocol.names c.args.protocol.now)) c.loop-mode.mode (string_bytes c.loop-mode.out) (omega arith) c.loop-mode.invariant
