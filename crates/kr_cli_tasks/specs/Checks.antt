-- What is written of a check, and when each fault comes.
use Rattle.std.specs.Prelude.{ℕ, List, ◌++◌, [], ◌∷◌, Option}
use Rattle.kr_model.specs.declared.FailedCase.{FailedCase}
use Rattle.kr_model.specs.Protocol.{Protocol}
use Rattle.kr_model.specs.Covers.{failed_cases}
use Rattle.kr_ghost.specs.Protocol.{GhostProtocol}
use Rattle.kr_ghost.specs.Covers as ghost
use Rattle.kr_report.specs.CheckReport.{check_text}
use Rattle.kr_report.specs.GhostCheckReport as ghost_report
use Rattle.kr_sink.specs.Puts.{AppendsFront, HasCause}
use Rattle.kr_cli_tasks.specs.declared.faults.ReportFault.{ReportFault}
use Rattle.kr_cli_tasks.specs.declared.faults.ReportFault.TheVariants as fault

-- The report of a check with its failed cases, of a protocol whose modes have these names, with its line feed.
abbrev pub line_of : Protocol → List (List ℕ) → List FailedCase → List ℕ
line_of p names failed = check_text p names failed ++ 10 ∷ []

-- The line of the check of a protocol: that of all cases of it that fail.
abbrev pub check_line : Protocol → List (List ℕ) → List ℕ
check_line p names = line_of p names (failed_cases p)

-- The line of the check of a protocol with ghosts.
abbrev pub ghost_check_line : GhostProtocol → List (List ℕ) → List ℕ
ghost_check_line p names = ghost_report.check_text p names (ghost.failed_cases p) ++ 10 ∷ []

-- A fault of printing has its cause in the sink, which took a prefix of the line.
abbrev pub ExplainsLine : List ℕ → Option (List ℕ) → Option (List ℕ) → ℕ → ℕ → ReportFault → Type 0
ExplainsLine line old new before after fault.Memory = Unit {0}
ExplainsLine line old new before after fault.Print = HasCause before after × AppendsFront old new line
