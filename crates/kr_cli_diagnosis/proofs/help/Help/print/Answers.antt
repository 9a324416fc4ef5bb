use Rattle.std.proofs.Common.{map}
use Rattle.std.specs.Prelude.{string_bytes}
use Rattle.kr_cli_diagnosis.proofs.Heads.{head_and_hints}
use Rattle.kr_cli_diagnosis.proofs.help.Help.print.Goals as goal

pub returns : goal.returns
returns c =
    head_and_hints c.args.word.now c.args.text.now c.as_str-2.result.now
    (string_bytes c.new-lines.result) (string_bytes c.push_head.new.lines) (string_bytes c.push_hints.new.lines)
    (map string_bytes c.as_slice.result.now)
    c.new-lines.ensures.bytes c.in_ok-push_head.ensures c.in_ok-push_hints.ensures
