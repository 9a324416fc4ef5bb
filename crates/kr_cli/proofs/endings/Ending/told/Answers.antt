use Rattle.std.proofs.Common.{subst, sym}
use Rattle.kr_cli.specs.Lines.{HasNoLineFeed}
use Rattle.kr_cli.proofs.OneLine.{told_has_no_line_feed}
use Rattle.kr_cli.proofs.endings.Ending.told.Goals as goal

pub returns-in-Ok-clause-one_line : goal.returns-in-Ok-clause-one_line
returns-in-Ok-clause-one_line c = subst HasNoLineFeed (sym c.in-Ok.ensures) (told_has_no_line_feed c.args.word.now c.args.what.now)
