use Rattle.kr_cli.proofs.TableFaults.{no_table}
use Rattle.kr_cli.proofs.tables.read_table.Goals as goal

pub returns-clause-fault : goal.returns-clause-fault
returns-clause-fault g c =
    no_table (g.F.Files.may_give c.args.files.now) c.args.word.now _ _ c.at_table_fault.result c.in_ok-bytes.ensures.bytes (rw (← c.as_slice.ensures.value) c.in-Err.ensures.reads) c.at_table_fault.ensures.memory c.at_table_fault.ensures.line
