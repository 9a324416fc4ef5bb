use Rattle.std.proofs.Common.{rules}
use Rattle.kr_cli.proofs.telling.finish.Goals as goal

pub returns-clause-told : goal.returns-clause-told
returns-clause-told g c = search rules
