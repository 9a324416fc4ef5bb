use Rattle.kr_cli.proofs.GhostScriptFaults.{no_script}
use Rattle.kr_cli.proofs.ghost_scripts.ghost_script_at.Goals as goal

pub returns-clause-fault : goal.returns-clause-fault
returns-clause-fault g c =
    no_script (g.F.Files.may_give c.args.files.now) c.args.word.now _ _ c.at_fault.result c.in_ok-bytes.ensures.bytes (rw (← c.as_slice.ensures.value) c.in-Err.ensures.reads) c.at_fault.ensures.memory c.at_fault.ensures.line
