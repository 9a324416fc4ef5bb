use Rattle.kr_cli.proofs.GhostFaults.{no_table, no_ghost_table}
use Rattle.kr_cli.proofs.named.read_named.Goals as goal

-- The bytes are of format 3, and the fault is the first of them as a table with ghosts.
pub returns-then-branch-clause-fault : goal.returns-then-branch-clause-fault
returns-then-branch-clause-fault g c =
    no_ghost_table (g.F.Files.may_give c.args.files.now) c.args.word.now _ _ c.at_ghost_fault.result c.in_ok-bytes.ensures.bytes
    (rw (← c.as_slice.ensures.value, ← c.in_ok-has_ghosts.ensures.says) c.if-branch.true) (rw (← c.as_slice-then-branch.ensures.value) c.in-Err.ensures.reads) c.at_ghost_fault.ensures.memory c.at_ghost_fault.ensures.line

-- They are of another, and it is the first of them as a table without.
pub returns-clause-fault : goal.returns-clause-fault
returns-clause-fault g c =
    no_table (g.F.Files.may_give c.args.files.now) c.args.word.now _ _ c.at_table_fault.result c.in_ok-bytes.ensures.bytes
    (rw (← c.as_slice.ensures.value, ← c.in_ok-has_ghosts.ensures.says) c.if-branch.false) (rw (← c.as_slice-else-branch.ensures.value) c.in-Err-read.ensures.reads) c.at_table_fault.ensures.memory c.at_table_fault.ensures.line
