-- What is told of texts that are found by their names. What may be found at a name is a relation: a text, or none.
use Rattle.std.specs.Prelude.{◌≡◌, ℕ, List, ◌++◌, ◌∷◌, length, Option, IfSome, Some, None, Result, Ok, Err}
use Rattle.std.specs.List.{AllZip}
use Rattle.kr_model.specs.Protocol.{Protocol}
use Rattle.kr_judge.specs.declared.verdict.Verdict.{Verdict}
use Rattle.kr_judge.specs.Verdicts.{verdict_of_run}
use Rattle.kr_script.specs.Script.{Script, IsScript}
use Rattle.kr_script.specs.declared.faults.ScriptFault.TheVariants as told_as
use Rattle.kr_script.specs.Faults.{Fault, fault_of}
use Rattle.kr_script.specs.Reading.{reading}
use Rattle.kr_batch.specs.declared.named.TextFault.{TextFault}
use Rattle.kr_batch.specs.declared.named.TextFault.TheVariants as text_fault
use Rattle.kr_batch.specs.declared.named.Unjudged.{Unjudged}
use Rattle.kr_batch.specs.declared.named.Unjudged.TheVariants as unjudged
use Rattle.kr_batch.specs.declared.named.JudgeFault.{JudgeFault}
use Rattle.kr_batch.specs.declared.named.JudgeFault.TheVariants as fault

-- A text that the name may stand for reads as this script.
abbrev pub IsNamed : (List ℕ → Option (List ℕ) → Type 0) → List ℕ → Script → Type 0
IsNamed may_be name s = IsScript s × ((text : List ℕ) × (may_be name (Some text) × (reading text ≡ Ok s)))

-- Each name stands for the script at its place.
abbrev pub AreNamed : (List ℕ → Option (List ℕ) → Type 0) → List (List ℕ) → List Script → Type 0
AreNamed may_be names ss = AllZip (IsNamed may_be) names ss

-- The names before a place stand for scripts, and the one at it has a property.
abbrev pub IsFirst : (List ℕ → Option (List ℕ) → Type 0) → List (List ℕ) → ℕ → (List ℕ → Type 0) → Type 0
IsFirst may_be names at Q =
    (before : List (List ℕ)) × (name : List ℕ) × (rest : List (List ℕ)) × (ss : List Script)
    × (names ≡ before ++ name ∷ rest) × (length before ≡ at) × AreNamed may_be before ss × Q name

-- A text that the name may stand for has this fault first.
abbrev pub HasFault : (List ℕ → Option (List ℕ) → Type 0) → Fault → List ℕ → Type 0
HasFault may_be x name = (text : List ℕ) × (may_be name (Some text) × (reading text ≡ Err x))

-- A fault is that of the first name that stands for no script, or has no text.
abbrev pub ExplainsNames : (List ℕ → Option (List ℕ) → Type 0) → List (List ℕ) → JudgeFault → Type 0
ExplainsNames may_be names (fault.Unreadable at) = IsFirst may_be names at (λ name. may_be name None)
ExplainsNames may_be names (fault.Script at f) = (x : Fault) × ((fault_of f ≡ Some x) × IsFirst may_be names at (HasFault may_be x))
ExplainsNames may_be names fault.Memory = Unit {0}

-- The verdict is that on the run of a script that the name stands for, and a fault is one of its text.
abbrev pub Judges : Protocol → (List ℕ → Option (List ℕ) → Type 0) → List ℕ → Result Verdict Unjudged → Type 0
Judges p may_be name (Ok v) = (s : Script) × (IsNamed may_be name s × (v ≡ verdict_of_run p s.opening s.steps))
Judges p may_be name (Err unjudged.Unreadable) = may_be name None
Judges p may_be name (Err (unjudged.Script f)) = IfSome (fault_of f) (λ x. HasFault may_be x name)

-- The fault at a place: running out of memory is one fault, wherever it happens.
abbrev pub judge_fault_at : ℕ → Unjudged → JudgeFault
judge_fault_at at unjudged.Unreadable = fault.Unreadable at
judge_fault_at at (unjudged.Script told_as.Memory) = fault.Memory
judge_fault_at at (unjudged.Script f) = fault.Script at f

-- Why there is no verdict where no text is had.
abbrev pub unjudged_for : TextFault → Unjudged
unjudged_for text_fault.Unreadable = unjudged.Unreadable
unjudged_for text_fault.Memory = unjudged.Script told_as.Memory
