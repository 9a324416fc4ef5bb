-- What the program writes of a trace, and why it ends before it is through.
use Rattle.std.specs.Prelude.{◌≡◌, ◌⊎◌, ℕ, suc, Bool, List, ◌∷◌, ◌++◌, Option, Some, length, string_bytes}
use Rattle.std.specs.Fmt.{decimal}
use Rattle.kr_cli.specs.declared.endings.Ending.{Ending}
use Rattle.kr_cli.specs.declared.endings.Ending.TheVariants.{NotUnderstood, Memory, Place, Output, Told}
use Rattle.kr_cli.specs.Lines.{fault_text, told_line, unreadable_line}
use Rattle.kr_trace_lines.specs.declared.faults.LineFault.{LineFault}
use Rattle.kr_trace_lines.specs.declared.faults.LineFault.TheVariants as fault
use Rattle.kr_trace_lines.specs.Faults.{fault_name, fault_number}
use Rattle.kr_trace_parts.specs.Lines.{BeginTooLong}
use Rattle.kr_trace_parts.specs.Parts.{Part, HaveNoFault, after_all, at_start, ended_in, fault_at, parts_of}
use Rattle.kr_trace_parts.specs.Printed.{AreWritten}

-- A trace --

-- Lines that may be given have no fault and so many parts, and of each it was written what is asked.
pub record IsThrough (P : ℕ → Part → List ℕ → Bool → Type 0) (may_give : List (List ℕ) → Type 0) (old new : Option (List ℕ)) (parts : ℕ) (well : Bool) : Type 0 where
  pub lines : List (List ℕ)
  pub count : parts ≡ length (parts_of lines)
  pub given : may_give lines
  pub faultless : HaveNoFault at_start lines
  pub written : AreWritten P (parts_of lines) old new well

-- What is printed of the fault of a line with this number.
abbrev pub line_fault_text : LineFault → ℕ → List ℕ
line_fault_text f n = fault_text (fault_number f) (fault_name f) (Some (decimal n))

-- The line says the fault of the line behind these: its own, or that it may not come there; that it is too long; or that it can't be read.
abbrev pub TellsFault : (List (List ℕ) → Type 0) → List ℕ → List (List ℕ) → List ℕ → Type 0
TellsFault may_give word front told =
    ((line : List ℕ) × ((rest : List (List ℕ)) × ((f : LineFault) × (may_give (front ++ line ∷ rest)
    × ((fault_at (after_all at_start front) line ≡ Some f) × (told ≡ told_line word (line_fault_text f (suc (length front)))))))))
    ⊎ (((rest : List (List ℕ)) × (may_give (front ++ rest) × (BeginTooLong rest × (told ≡ told_line word (line_fault_text fault.TooLong (suc (length front)))))))
    ⊎ (told ≡ unreadable_line word))

-- The first fault of a trace is printed: the lines before it have none, and a line was written for each part of theirs that has ended.
pub record IsStopped (P : ℕ → Part → List ℕ → Bool → Type 0) (may_give : List (List ℕ) → Type 0) (word : List ℕ) (old new : Option (List ℕ)) (told : List ℕ) : Type 0 where
  pub front : List (List ℕ)
  pub faultless : HaveNoFault at_start front
  pub well : Bool
  pub written : AreWritten P (ended_in front) old new well
  pub tells : TellsFault may_give word front told

-- Why the program ends before it is through with a trace: memory, or printing failed; or its first fault, which is printed.
abbrev pub StopsSo : (List ℕ → Type 0) → Ending → Type 0
StopsSo Tells NotUnderstood = ⊥
StopsSo Tells Memory = Unit {0}
StopsSo Tells Place = ⊥
StopsSo Tells Output = Unit {0}
StopsSo Tells (Told line) = Tells (string_bytes line)
