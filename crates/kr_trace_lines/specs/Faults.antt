-- The number and the name of each fault of a line.
use Rattle.std.specs.Prelude.{ℕ, List, codes}
use Rattle.kr_trace_lines.specs.declared.faults.LineFault.{LineFault}
use Rattle.kr_trace_lines.specs.declared.faults.LineFault.TheVariants as fault

-- The number of a kind of fault.
abbrev pub fault_number : LineFault → ℕ
fault_number fault.TooLong = 1
fault_number fault.NotJson = 2
fault_number fault.Format = 3
fault_number fault.Field = 4
fault_number fault.Opening = 5
fault_number fault.Step = 6
fault_number fault.TooMany = 7
fault_number fault.Memory = 8
fault_number fault.Reply = 9
fault_number fault.Order = 10
fault_number fault.Ended = 11

-- The name of a kind of fault.
abbrev pub fault_name : LineFault → List ℕ
fault_name fault.TooLong = codes "TooLong"
fault_name fault.NotJson = codes "NotJson"
fault_name fault.Format = codes "Format"
fault_name fault.Field = codes "Field"
fault_name fault.Opening = codes "Opening"
fault_name fault.Step = codes "Step"
fault_name fault.TooMany = codes "TooMany"
fault_name fault.Memory = codes "Memory"
fault_name fault.Reply = codes "Reply"
fault_name fault.Order = codes "Order"
fault_name fault.Ended = codes "Ended"
