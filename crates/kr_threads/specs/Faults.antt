-- Which fault of a run each fault of its row and of its engine is.
use Rattle.kr_records.specs.declared.row.NewFault.{NewFault}
use Rattle.kr_records.specs.declared.row.NewFault.TheVariants as new
use Rattle.kr_records.specs.declared.closing.CloseFault.{CloseFault}
use Rattle.kr_records.specs.declared.closing.CloseFault.TheVariants as close
use Rattle.kr_records.specs.declared.faults.EngineFault.{EngineFault}
use Rattle.kr_records.specs.declared.faults.EngineFault.TheVariants as engine
use Rattle.kr_threads.specs.declared.fault.RunFault.{RunFault}
use Rattle.kr_threads.specs.declared.fault.RunFault.TheVariants as fault

-- Of a row that isn't made.
abbrev pub fault_of_row : NewFault → RunFault
fault_of_row new.Memory = fault.Memory
fault_of_row new.Places = fault.Place

-- Of an engine that doesn't close.
abbrev pub fault_of_close : CloseFault → RunFault
fault_of_close close.Memory = fault.Memory
fault_of_close close.Place = fault.Place

-- Of a call that a worker gives up at.
abbrev pub fault_of_call : EngineFault → RunFault
fault_of_call engine.Memory = fault.Memory
fault_of_call _ = fault.Place
