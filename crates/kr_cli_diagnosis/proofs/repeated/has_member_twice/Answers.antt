use Rattle.std.proofs.Common.{arith}
use Rattle.std.proofs.lemmas.Grind.{common_steps}
use Rattle.kr_cli_diagnosis.proofs.repeated.has_member_twice.Goals as goal

pub returns-in-Ok-parse_strict : goal.returns-in-Ok-parse_strict
returns-in-Ok-parse_strict c = grind (arith, common_steps)
