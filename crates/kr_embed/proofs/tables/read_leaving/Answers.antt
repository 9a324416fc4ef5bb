use Rattle.std.proofs.Common.{subst}
use Rattle.kr_cli.specs.Endings.{MemoryOrTold}
use Rattle.kr_cli.specs.declared.endings.Ending.{Ending}
use Rattle.kr_embed.specs.Inputs.{TellsNoTable}
use Rattle.kr_embed.proofs.FirstFaults.{tells_no_ghosts}
use Rattle.kr_embed.proofs.tables.read_leaving.Goals as goal

-- The line tells the first fault of the bytes as a table with ghosts.
pub returns-in-Told-clause-fault : goal.returns-in-Told-clause-fault
returns-in-Told-clause-fault c =
    subst (λ (e : Ending). MemoryOrTold e (TellsNoTable c.args.bytes.now)) c.in-Told.is
    (tells_no_ghosts c.args.bytes.now c.in-Err.fault c.at_ghost_fault.result c.requires c.in-Err.ensures.reads c.at_ghost_fault.ensures.memory c.at_ghost_fault.ensures.line)
