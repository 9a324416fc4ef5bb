-- How the program ends without a report, or with a prefix of it.
use Rattle.std.specs.Prelude.{◌≡◌, ◌⊎◌, ℕ, List, string_bytes}
use Rattle.kr_threads.specs.declared.fault.RunFault.{RunFault}
use Rattle.kr_threads.specs.declared.fault.RunFault.TheVariants as run
use Rattle.kr_ghost_threads.specs.declared.fault.GhostRunFault.{GhostRunFault}
use Rattle.kr_ghost_threads.specs.declared.fault.GhostRunFault.TheVariants as ghost
use Rattle.kr_cli.specs.declared.endings.Ending.{Ending}
use Rattle.kr_cli.specs.declared.endings.Ending.TheVariants.{NotUnderstood, Memory, Place, Output, Told}
use Rattle.kr_cli_tasks.specs.declared.faults.ReportFault.{ReportFault}
use Rattle.kr_cli_tasks.specs.declared.faults.ReportFault.TheVariants as report

-- A task ends so: for memory or output, or with a line that is told of a word, of which this holds.
abbrev pub Unreported : (List ℕ → Type 0) → Ending → Type 0
Unreported P NotUnderstood = ⊥
Unreported P Memory = Unit {0}
Unreported P Place = ⊥
Unreported P Output = Unit {0}
Unreported P (Told line) = P (string_bytes line)

-- A run by several threads ends so too, or for a place.
abbrev pub UnreportedThreads : (List ℕ → Type 0) → Ending → Type 0
UnreportedThreads P e = (e ≡ Place) ⊎ Unreported P e

-- How the program ends at a fault of a report,
abbrev pub ending_of : ReportFault → Ending
ending_of report.Memory = Memory
ending_of report.Print = Output

-- at one of a run by several threads,
abbrev pub threads_ending : RunFault → Ending
threads_ending run.Memory = Memory
threads_ending run.Place = Place

-- and at one of such a run with ghosts.
abbrev pub ghost_threads_ending : GhostRunFault → Ending
ghost_threads_ending ghost.Memory = Memory
ghost_threads_ending ghost.Place = Place
