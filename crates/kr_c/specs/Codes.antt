-- The codes that calls answer.
use Rattle.std.specs.Prelude.{ℕ, Bool, true, false}
use Rattle.kr_embed.specs.declared.faults.Fault.{Fault}
use Rattle.kr_embed.specs.declared.faults.Fault.TheVariants.{NoTable, NoScript, Memory}

-- All is well: the table is accepted or safe, the run is serializable, the call is done.
abbrev pub ok : ℕ
ok = 0

-- The table isn't accepted or safe, or the run isn't serializable.
abbrev pub no : ℕ
no = 1

-- The bytes are no table.
abbrev pub no_table : ℕ
no_table = 2

-- The bytes are no script.
abbrev pub no_script : ℕ
no_script = 3

-- A growth was refused.
abbrev pub no_memory : ℕ
no_memory = 4

-- The session isn't open.
abbrev pub closed : ℕ
closed = 5

-- The session is open already.
abbrev pub is_open : ℕ
is_open = 6

-- A number stands for nothing.
abbrev pub misuse : ℕ
misuse = 7

-- The code of an answer that is yes or no.
abbrev pub answer_code : Bool → ℕ
answer_code true = ok
answer_code false = no

-- The code of a fault.
abbrev pub fault_code : Fault → ℕ
fault_code (NoTable line) = no_table
fault_code (NoScript line) = no_script
fault_code Memory = no_memory
