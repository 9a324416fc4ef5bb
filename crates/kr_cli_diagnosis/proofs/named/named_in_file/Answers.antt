use Rattle.std.specs.Prelude.{string_bytes}
use Rattle.std.proofs.Common.{refl}
use Rattle.kr_cli.proofs.GhostFaults.{no_table, no_ghost_table}
use Rattle.kr_cli_diagnosis.proofs.Helped.{no_help, adds_help}
use Rattle.kr_cli_diagnosis.proofs.Unread.{no_named_file}
use Rattle.kr_cli_diagnosis.proofs.named.named_in_file.Goals as goal

pub returns-in-Err-clause-fault : goal.returns-in-Err-clause-fault
returns-in-Err-clause-fault g c = no_named_file (g.F.Files.may_give c.args.files.now) 65537 c.args.word.now _ c.no_file.result c.in-Err.ensures.none c.no_file.ensures.memory c.no_file.ensures.line

-- The bytes are of format 3, and the fault is the first of them as a table with ghosts.
pub returns-then-branch-clause-fault : goal.returns-then-branch-clause-fault
returns-then-branch-clause-fault g c =
    no_ghost_table (g.F.Files.may_give c.args.files.now) c.args.word.now _ _ c.at_ghost_fault.result c.in-Ok.ensures.bytes
    (rw (← c.as_slice.ensures.value, ← c.in_ok-has_ghosts.ensures.says) c.if-branch.true) (rw (← c.as_slice-then-branch.ensures.value) c.in-Err-read.ensures.reads) c.at_ghost_fault.ensures.memory c.at_ghost_fault.ensures.line

pub returns-in-Ok-read-clause-help : goal.returns-in-Ok-read-clause-help
returns-in-Ok-read-clause-help g c = no_help _ _ _ refl

pub returns-then-branch-clause-help : goal.returns-then-branch-clause-help
returns-then-branch-clause-help g c = no_help _ _ _ refl

pub returns-in-Ok-read-2-clause-help : goal.returns-in-Ok-read-2-clause-help
returns-in-Ok-read-2-clause-help g c = no_help _ _ _ refl

pub returns-clause-fault : goal.returns-clause-fault
returns-clause-fault g c =
    no_table (g.F.Files.may_give c.args.files.now) c.args.word.now _ _ c.at_table_fault.result c.in-Ok.ensures.bytes
    (rw (← c.as_slice.ensures.value, ← c.in_ok-has_ghosts.ensures.says) c.if-branch.false) (rw (← c.as_slice-else-branch.ensures.value) c.in-Err-read-2.ensures.reads) c.at_table_fault.ensures.memory c.at_table_fault.ensures.line

pub returns-clause-help : goal.returns-clause-help
returns-clause-help g c = adds_help c.args.word.now _ (string_bytes c.args.help.now) (string_bytes c.add.new.help) c.table_help.result c.table_help.ensures c.add.ensures.ok c.add.ensures.err
