use Rattle.kr_relax_text.proofs.Wrong.{wrong_ghost_line}
use Rattle.kr_relax_text.proofs.reasons.wrong_leaving.Goals as goal

pub returns : goal.returns
returns g c = wrong_ghost_line (g.P.GhostProtocol.ghosts c.args.protocol.now) c.in_ok-explanation.explanation c.in_ok-line.line c.in_ok-explanation.ensures c.in_ok-line.ensures
