use Rattle.std.specs.Prelude.{ℕ, List, string_bytes}
use Rattle.std.proofs.Common.{subst, sym}
use Rattle.kr_cli.proofs.GhostScriptFaults.{no_script}
use Rattle.kr_cli_diagnosis.specs.Repeated.{HasNoMemberTwice}
use Rattle.kr_cli_diagnosis.proofs.Helped.{adds_warnings, helps_lines, nothing_put}
use Rattle.kr_cli_diagnosis.proofs.ghost_scripts.ghost_script_with_help.Goals as goal

pub returns-in-Ok-clause-unwarned : goal.returns-in-Ok-clause-unwarned
returns-in-Ok-clause-unwarned g c single =
    let Single : List ℕ → Type 0 = λ bytes. HasNoMemberTwice bytes in
    nothing_put (string_bytes c.args.help.now) (string_bytes c.add.new.help) c.repeated_help.result (c.repeated_help.ensures.none (subst Single (sym c.as_slice-in-Ok.ensures.value) (single _ c.in_ok-bytes.ensures.bytes))) c.add.ensures.ok c.add.ensures.err

pub returns-in-Ok-clause-lines : goal.returns-in-Ok-clause-lines
returns-in-Ok-clause-lines g c = helps_lines c.args.word.now _ _ (adds_warnings c.args.word.now _ (string_bytes c.args.help.now) (string_bytes c.add.new.help) c.repeated_help.result c.repeated_help.ensures.helps c.add.ensures.ok c.add.ensures.err)

pub returns-clause-fault : goal.returns-clause-fault
returns-clause-fault g c =
    no_script (g.F.Files.may_give c.args.files.now) c.args.word.now _ _ c.at_fault.result c.in_ok-bytes.ensures.bytes (rw (← c.as_slice.ensures.value) c.in-Err.ensures.reads) c.at_fault.ensures.memory c.at_fault.ensures.line
