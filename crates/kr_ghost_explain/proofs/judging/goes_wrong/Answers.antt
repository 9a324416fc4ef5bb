use Rattle.kr_ghost_explain.proofs.Judged.{no_map, wrong_where}
use Rattle.kr_ghost_explain.proofs.judging.goes_wrong.Goals as goal

pub returns-then-not-is_map : goal.returns-then-not-is_map
returns-then-not-is_map g c = no_map (g.P.GhostProtocol.ghosts c.args.protocol.now) c.args.opening.now c.args.moves.now c.is_map.result c.is_map.ensures.1 c.if-not-is_map.true

-- the run that was judged
pub returns : goal.returns
returns g c = wrong_where (g.P.GhostProtocol.ghosts c.args.protocol.now) c.args.opening.now c.args.moves.now c.in_ok-ran.ran c.is_wrong.result (c.is_map.ensures.0 c.if-not-is_map.false) c.in_ok-ran.ensures.ran c.is_wrong.ensures
