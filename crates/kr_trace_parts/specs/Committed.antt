-- Committed programs, each with its transaction, and the verdict on them.
use Rattle.std.specs.Prelude.{◌≡◌, ℕ, List, [], ◌∷◌, ◌++◌, Option, Some, None, map}
use Rattle.kr_model.specs.Map.{Map}
use Rattle.kr_model.specs.declared.Reply.{Reply}
use Rattle.kr_trace_lines.specs.declared.observed.Observed.{Observed}
use Rattle.kr_trace_follow.specs.Given.{Given, AreAnsweredWhereGiven, AreSerialWhereGiven, IsFirstDifference, map_after}
use Rattle.kr_trace_lines.specs.declared.verdict.TraceVerdict.{TraceVerdict}
use Rattle.kr_trace_lines.specs.declared.verdict.TraceVerdict.TheVariants as verdict

-- A committed transaction with its program: its operations with their answers, as they were given.
pub record Committed : Type 0 where
  pub txn : ℕ
  pub program : List Given

-- The map that programs leave, run whole one after another.
abbrev pub map_left : Map → List Committed → Map
map_left m [] = m
map_left m (c ∷ cs) = map_left (map_after m c.program) cs

-- Each answer of the programs is, as far as it was given, that of their serial run from m in this order.
abbrev pub AreSerial : Map → List Committed → Type 0
AreSerial m cs = AreSerialWhereGiven m (map (λ c. c.program) cs)

-- The first answer that isn't the serial one: its transaction, the number of its operation from 1, the answer that was given, and the serial one.
pub record IsFirstWrong (m : Map) (cs : List Committed) (t n : ℕ) (given : Observed) (serial : Reply) : Type 0 where
  -- the programs before it, its program, and those after it
  pub before : List Committed
  pub program : List Given
  pub rest : List Committed
  pub place : cs ≡ before ++ record { txn = t; program = program } ∷ rest
  pub serial_before : AreSerial m before
  pub difference : IsFirstDifference (map_left m before) program (record { operation = n; serial = serial })
  pub told : given ≡ difference.answer

-- The verdict on programs in commit order.
abbrev pub IsVerdict : Map → List Committed → TraceVerdict → Type 0
IsVerdict m cs verdict.Serial = AreSerial m cs
IsVerdict m cs (verdict.SerialInOrder ts) = ⊥
IsVerdict m cs (verdict.NotSerial t n given serial) = IsFirstWrong m cs t n given serial
IsVerdict m cs verdict.Unknown = ⊥

-- What is found at a program of t that runs from m: no wrong answer, or the first.
abbrev pub IsFound : Map → ℕ → List Given → Option TraceVerdict → Type 0
IsFound m t program None = AreAnsweredWhereGiven m program
IsFound m t program (Some verdict.Serial) = ⊥
IsFound m t program (Some (verdict.SerialInOrder ts)) = ⊥
IsFound m t program (Some (verdict.NotSerial u n given serial)) =
    (u ≡ t) × ((d : IsFirstDifference m program (record { operation = n; serial = serial })) × (given ≡ d.answer))
IsFound m t program (Some verdict.Unknown) = ⊥

-- What is found of programs in commit order: no wrong answer, or the first.
abbrev pub IsFirstFound : Map → List Committed → Option TraceVerdict → Type 0
IsFirstFound m cs None = AreSerial m cs
IsFirstFound m cs (Some verdict.Serial) = ⊥
IsFirstFound m cs (Some (verdict.SerialInOrder ts)) = ⊥
IsFirstFound m cs (Some (verdict.NotSerial t n given serial)) = IsFirstWrong m cs t n given serial
IsFirstFound m cs (Some verdict.Unknown) = ⊥

-- The first found, or else the later.
abbrev pub or_later : Option TraceVerdict → Option TraceVerdict → Option TraceVerdict
or_later (Some v) later = Some v
or_later None later = later
