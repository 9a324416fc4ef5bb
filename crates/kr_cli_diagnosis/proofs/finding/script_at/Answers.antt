use Rattle.std.specs.Prelude.{ℕ, List, string_bytes}
use Rattle.std.proofs.Common.{subst, sym}
use Rattle.kr_cli.proofs.ScriptFaults.{no_script}
use Rattle.kr_cli_diagnosis.proofs.Helped.{adds_help, adds_warnings, adds_lines, helps_lines, nothing_put, one_help}
use Rattle.kr_cli_diagnosis.proofs.Unread.{no_script_file}
use Rattle.kr_cli_diagnosis.specs.Repeated.{HasNoMemberTwice}
use Rattle.kr_cli_diagnosis.proofs.finding.script_at.Goals as goal

pub returns-in-Err-clause-fault : goal.returns-in-Err-clause-fault
returns-in-Err-clause-fault g c = no_script_file (g.F.Files.may_give c.args.files.now) 16777217 c.args.word.now _ c.no_file.result c.in-Err.ensures.none c.no_file.ensures.memory c.no_file.ensures.line

pub returns-in-Err-clause-help : goal.returns-in-Err-clause-help
returns-in-Err-clause-help g c = one_help _ _ _ c.no_file.ensures.help

pub returns-in-Err-clause-lines : goal.returns-in-Err-clause-lines
returns-in-Err-clause-lines g c = adds_lines _ _ _ c.no_file.ensures.help

pub returns-in-Ok-read_script-clause-help : goal.returns-in-Ok-read_script-clause-help
returns-in-Ok-read_script-clause-help g c = adds_warnings c.args.word.now _ (string_bytes c.args.help.now) (string_bytes c.add.new.help) c.repeated_help.result c.repeated_help.ensures.helps c.add.ensures.ok c.add.ensures.err

pub returns-in-Ok-read_script-clause-lines : goal.returns-in-Ok-read_script-clause-lines
returns-in-Ok-read_script-clause-lines g c = helps_lines c.args.word.now _ _ (adds_warnings c.args.word.now _ (string_bytes c.args.help.now) (string_bytes c.add.new.help) c.repeated_help.result c.repeated_help.ensures.helps c.add.ensures.ok c.add.ensures.err)

pub returns-in-Ok-read_script-clause-unwarned : goal.returns-in-Ok-read_script-clause-unwarned
returns-in-Ok-read_script-clause-unwarned g c single =
    let Single : List ℕ → Type 0 = λ bytes. HasNoMemberTwice bytes in
    nothing_put (string_bytes c.args.help.now) (string_bytes c.add.new.help) c.repeated_help.result (c.repeated_help.ensures.none (subst Single (sym c.as_slice-in-Ok-read_script.ensures.value) (single _ c.in-Ok.ensures.bytes))) c.add.ensures.ok c.add.ensures.err

pub returns-clause-fault : goal.returns-clause-fault
returns-clause-fault g c = no_script (g.F.Files.may_give c.args.files.now) c.args.word.now _ _ c.at_fault.result c.in-Ok.ensures.bytes (rw (← c.as_slice.ensures.value) c.in-Err-read_script.ensures.reads) c.at_fault.ensures.memory c.at_fault.ensures.line

pub returns-clause-help : goal.returns-clause-help
returns-clause-help g c = one_help _ _ _ (adds_help c.args.word.now _ (string_bytes c.args.help.now) (string_bytes c.add-in-Err-read_script.new.help) c.script_help.result c.script_help.ensures c.add-in-Err-read_script.ensures.ok c.add-in-Err-read_script.ensures.err)

pub returns-clause-lines : goal.returns-clause-lines
returns-clause-lines g c = adds_lines c.args.word.now _ _ (adds_help c.args.word.now _ (string_bytes c.args.help.now) (string_bytes c.add-in-Err-read_script.new.help) c.script_help.result c.script_help.ensures c.add-in-Err-read_script.ensures.ok c.add-in-Err-read_script.ensures.err)
