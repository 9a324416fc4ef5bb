-- What a call writes into the caller's memory.
use Rattle.std.specs.Prelude.{◌≡◌, ℕ, Bool, List, [], ◌++◌, length, take, drop, Option, Some, None, Result, Ok, Err, String, Vec, cond, string_bytes}
use Rattle.std.specs.Global.{Global}
use Rattle.std.specs.declared.alloc.AllocError.{AllocError}
use Rattle.kr_embed.specs.declared.faults.Fault.{Fault}
use Rattle.kr_embed.specs.declared.faults.Fault.TheVariants.{NoTable, NoScript, Memory}
use Rattle.kr_c.specs.Codes.{ok, no, no_memory, closed, answer_code, fault_code}

-- Memory after as much of a list was written as it has room for, from its front.
abbrev pub filled : {A : Type 0} → List A → List A → List A
filled old list = take (length old) list ++ drop (length list) old

-- A list was told: as much of it as there is room for, and the length of the whole.
abbrev pub Tells : {A : Type 0} → List A → List A → ℕ → List A → Type 0
Tells old new n list = (new ≡ filled old list) × (n ≡ length list)

-- The line of a fault, of which want of memory has none.
abbrev pub fault_line : Fault → List ℕ
fault_line (NoTable line) = string_bytes line
fault_line (NoScript line) = string_bytes line
fault_line Memory = []

-- The code and the text of an answer with its report, or of the fault.
abbrev pub IsTold : Result (Bool × String Global) Fault → ℕ → List ℕ → List ℕ → ℕ → Type 0
IsTold (Ok told) code old new n = (code ≡ answer_code told.0) × Tells old new n (string_bytes told.1)
IsTold (Err fault) code old new n = (code ≡ fault_code fault) × Tells old new n (fault_line fault)

-- The code and the line of what was looked for, which may be none, or of the fault.
abbrev pub IsFound : Result (Option (String Global)) Fault → ℕ → List ℕ → List ℕ → ℕ → Type 0
IsFound (Ok (Some line)) code old new n = (code ≡ ok) × Tells old new n (string_bytes line)
IsFound (Ok None) code old new n = (code ≡ no) × ((new ≡ old) × (n ≡ 0))
IsFound (Err fault) code old new n = (code ≡ fault_code fault) × Tells old new n (fault_line fault)

-- The code of what was read of a session, and the list; where the session is closed or memory ran out, the list is none.
abbrev pub IsListed : {A : Type 0} → Option (Result (Vec A Global) AllocError) → ℕ → List A → List A → ℕ → Type 0
IsListed None code old new n = (code ≡ closed) × ((new ≡ old) × (n ≡ 0))
IsListed (Some (Ok v)) code old new n = (code ≡ ok) × Tells old new n v.items
IsListed (Some (Err e)) code old new n = (code ≡ no_memory) × ((new ≡ old) × (n ≡ 0))

-- The same of a verdict and its report.
abbrev pub IsJudgement : Option (Result (Bool × String Global) AllocError) → ℕ → List ℕ → List ℕ → ℕ → Type 0
IsJudgement None code old new n = (code ≡ closed) × ((new ≡ old) × (n ≡ 0))
IsJudgement (Some (Ok told)) code old new n = (code ≡ answer_code told.0) × Tells old new n (string_bytes told.1)
IsJudgement (Some (Err e)) code old new n = (code ≡ no_memory) × ((new ≡ old) × (n ≡ 0))

-- The code of a purge that was told, and the number, 1 where a ghost was purged and else 0; a closed session and refused memory write none.
abbrev pub IsPurgeTold : Option (Result Bool AllocError) → ℕ → ℕ → ℕ → Type 0
IsPurgeTold None code old new = (code ≡ closed) × (new ≡ old)
IsPurgeTold (Some (Ok told)) code old new = (code ≡ ok) × (new ≡ cond told 1 0)
IsPurgeTold (Some (Err e)) code old new = (code ≡ no_memory) × (new ≡ old)
