use Rattle.std.specs.Prelude.{[], string_bytes}
use Rattle.std.proofs.Common.{refl}
use Rattle.kr_cli_diagnosis.proofs.Helped.{adds_help, adds_lines, no_help}
use Rattle.kr_cli_diagnosis.proofs.named.named_with_help.Goals as goal

pub returns-in-Ok-clause-help : goal.returns-in-Ok-clause-help
returns-in-Ok-clause-help g c = no_help _ _ _ refl

pub returns-in-Err-clause-help : goal.returns-in-Err-clause-help
returns-in-Err-clause-help g c = adds_help c.args.word.now [] (string_bytes c.args.help.now) (string_bytes c.add.new.help) c.bundled_help.result c.bundled_help.ensures c.add.ensures.ok c.add.ensures.err

pub returns-in-Err-clause-lines : goal.returns-in-Err-clause-lines
returns-in-Err-clause-lines g c = adds_lines _ _ _ (adds_help c.args.word.now [] (string_bytes c.args.help.now) (string_bytes c.add.new.help) c.bundled_help.result c.bundled_help.ensures c.add.ensures.ok c.add.ensures.err)

pub returns-clause-lines : goal.returns-clause-lines
returns-clause-lines g c = adds_lines _ _ _ c.named_in_file.ensures.help
