use Rattle.kr_ghost_follow.proofs.Braces.{no_brace}
use Rattle.kr_ghost_follow.proofs.report.behind_brace.Goals as goal

pub returns-in-None : goal.returns-in-None
unfolding lib.Utf8.encode
returns-in-None c = no_brace c.args.text.now (λ rest is. c.in-None.ensures.cases rest is)
