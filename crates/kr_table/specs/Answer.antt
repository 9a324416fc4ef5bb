-- What the calls that read and write a table answer.
use Rattle.std.specs.Prelude.{◌≡◌, Result, Ok, Err, IfSome}
use Rattle.kr_table.specs.declared.table.Table.{Table}
use Rattle.kr_table.specs.declared.faults.TableFault.{TableFault}
use Rattle.kr_table.specs.Tables.{TableData}
use Rattle.kr_table.specs.Faults.{Fault, fault_of}
use Rattle.kr_table.specs.Shown.{data_of}

-- What a table says. Two tables are the same where this is equal.
abbrev pub table_data : Table → TableData
table_data t = data_of t.parts

-- The answer is the reading, unless memory ran out.
abbrev pub Gives : Result Table TableFault → Result TableData Fault → Type 0
Gives (Ok t) r = r ≡ Ok (table_data t)
Gives (Err e) r = IfSome (fault_of e) (λ f. r ≡ Err f)
