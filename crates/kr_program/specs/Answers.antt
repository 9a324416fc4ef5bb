-- What the program answers to the words that it is called with: what is on standard output, the status, and what is on standard error. What files may give is a relation of words to bytes, or to none; what traces may have, one of words to lines, or to none.
use Rattle.std.specs.Prelude.{◌≡◌, ◌≢◌, ◌⊎◌, ◌↔◌, ℕ, Bool, true, false, List, [], ◌∷◌, ◌++◌, Option, IsTrue, All, codes}
use Rattle.std.specs.Fmt.{decimal}
use Rattle.std.specs.Io.KnownBytes.{Appends}
use Rattle.kr_model.specs.Covers.{IsCovered}
use Rattle.kr_script.specs.Script.{Script}
use Rattle.kr_sink.specs.Puts.{HasCause}
use Rattle.kr_batch.specs.Names.{AreNamed}
use Rattle.kr_ghost.specs.Covers.{IsCoveredGhost}
use Rattle.kr_script.specs.GhostScript.{GhostScript}
use Rattle.kr_cli.specs.declared.endings.Ending.{Ending}
use Rattle.kr_cli.specs.declared.endings.Ending.TheVariants as ending
use Rattle.kr_cli.specs.declared.named.Named.{Named}
use Rattle.kr_cli.specs.declared.named.Named.TheVariants.{Table, Ghosts}
use Rattle.kr_cli.specs.Endings.{IsTold, ending_line, ending_text}
use Rattle.kr_cli.specs.Files.{MayBeScript}
use Rattle.kr_cli.specs.GhostScripts.{IsSerialGhosts, NameGhostScripts, NamesGhostScript}
use Rattle.kr_cli.specs.GhostTables as ghost
use Rattle.kr_cli.specs.Named.{NamesScript}
use Rattle.kr_cli.specs.NamedTables.{Names}
use Rattle.kr_cli.specs.Tables.{names_of, table_of}
use Rattle.kr_cli_diagnosis.specs.Finding.{AreLines}
use Rattle.kr_cli_tasks.specs.Checks.{check_line, ghost_check_line}
use Rattle.kr_cli_tasks.specs.GhostRuns.{ghost_judge_lines, ghost_report_line}
use Rattle.kr_cli_tasks.specs.Judges.{judge_lines}
use Rattle.kr_cli_tasks.specs.Program as tasks
use Rattle.kr_cli_tasks.specs.Program.{DoesThreads}
use Rattle.kr_cli_tasks.specs.Runs.{IsSerialScript, report_line}
use Rattle.kr_cli_tables.specs.Explain as explain
use Rattle.kr_cli_tables.specs.Explain.{IsLawfulTable}
use Rattle.kr_cli_tables.specs.ExplainWords as explain_words
use Rattle.kr_cli_tables.specs.Suite as suite
use Rattle.kr_cli_tables.specs.SuiteWords as suite_words
use Rattle.kr_cli_tables.specs.Relax as relax
use Rattle.kr_cli_tables.specs.RelaxWords as relax_words
use Rattle.kr_cli_tables.specs.View as view
use Rattle.kr_cli_tables.specs.ViewWords.{AskNoPage}
use Rattle.kr_cli_trace.specs.Program as trace
use Rattle.kr_cli_trace.specs.Words.{AskNoTrace}
use Rattle.kr_program.specs.declared.commands.Command.{Command}
use Rattle.kr_program.specs.declared.commands.Command.TheVariants.{Check, Run, Judge, Threads, Explain, View, Trace, Suite, Relax, Help, Version}
use Rattle.kr_program.specs.declared.manual.TheConstants.{LISTING}
use Rattle.kr_program.specs.declared.questions.Question.{Question}
use Rattle.kr_program.specs.declared.questions.Question.TheVariants as question
use Rattle.kr_program.specs.Commands.{IsNoCommand, word_of}
use Rattle.kr_program.specs.Manual.{page_of, usage_told, version_text}
use Rattle.kr_program.specs.Questions.{IsQuestion, IsNoQuestion}
use Rattle.kr_program.specs.Serial.{NamesSerial, RunsSerially}

-- What files may give, and what traces may have.
abbrev pub Files : Type 1
Files = List ℕ → Option (List ℕ) → Type 0

abbrev pub Traces : Type 1
Traces = List ℕ → Option (List (List ℕ)) → Type 0

-- check, run, judge and threads --

-- The report of the check of a table.
abbrev pub check_line_of : Named → List ℕ
check_line_of (Table t) = check_line (table_of t) (names_of t)
check_line_of (Ghosts t) = ghost_check_line (ghost.ghosts_of t) (ghost.names_of t)

-- A table is accepted: none of its cases fails.
abbrev pub IsAccepted : Named → Type 0
IsAccepted (Table t) = IsCovered (table_of t)
IsAccepted (Ghosts t) = IsCoveredGhost (ghost.ghosts_of t)

-- The report of the run of the script that a word names was written, and the answer is whether that run is serializable.
abbrev pub RunUnder : Files → Named → List ℕ → Option (List ℕ) → Option (List ℕ) → Bool → Type 0
RunUnder may_give (Table t) script old new well =
    (s : Script) × (NamesScript may_give script s × (Appends old new (report_line (table_of t) (names_of t) s) × (IsTrue well ↔ IsSerialScript (table_of t) s)))
RunUnder may_give (Ghosts t) script old new well =
    (s : GhostScript) × (NamesGhostScript may_give script s × (Appends old new (ghost_report_line (ghost.ghosts_of t) (ghost.names_of t) s) × (IsTrue well ↔ IsSerialGhosts (ghost.ghosts_of t) s)))

-- The verdicts on the runs of the scripts that words name were written, and the answer is whether each run is serializable.
abbrev pub JudgedUnder : Files → Named → List (List ℕ) → Option (List ℕ) → Option (List ℕ) → Bool → Type 0
JudgedUnder may_give (Table t) scripts old new well =
    (ss : List Script) × (AreNamed (MayBeScript may_give) scripts ss × (Appends old new (judge_lines (table_of t) scripts ss) × (IsTrue well ↔ All (IsSerialScript (table_of t)) ss)))
JudgedUnder may_give (Ghosts t) scripts old new well =
    (ss : List GhostScript) × (NameGhostScripts may_give scripts ss × (Appends old new (ghost_judge_lines (ghost.ghosts_of t) scripts ss) × (IsTrue well ↔ All (IsSerialGhosts (ghost.ghosts_of t)) ss)))

-- `check TABLE`: the report was written, and where the table is accepted every run under it is serializable in commit order.
pub record Checks (may_give : Files) (rest : List (List ℕ)) (old new : Option (List ℕ)) (well : Bool) : Type 0 where
  pub table : List ℕ
  pub named : Named
  pub words_are : rest ≡ table ∷ []
  pub names : Names may_give table named
  pub lawful : IsLawfulTable named
  pub written : Appends old new (check_line_of named)
  pub verdict : IsTrue well ↔ IsAccepted named
  pub serial : IsTrue well → RunsSerially named

-- `run TABLE SCRIPT`
pub record Runs (may_give : Files) (rest : List (List ℕ)) (old new : Option (List ℕ)) (well : Bool) : Type 0 where
  pub table : List ℕ
  pub script : List ℕ
  pub named : Named
  pub words_are : rest ≡ table ∷ script ∷ []
  pub names : Names may_give table named
  pub lawful : IsLawfulTable named
  pub reports : RunUnder may_give named script old new well

-- `judge TABLE SCRIPT..`
pub record Judges (may_give : Files) (rest : List (List ℕ)) (old new : Option (List ℕ)) (well : Bool) : Type 0 where
  pub table : List ℕ
  pub scripts : List (List ℕ)
  pub named : Named
  pub words_are : rest ≡ table ∷ scripts
  pub names : Names may_give table named
  pub lawful : IsLawfulTable named
  pub reports : JudgedUnder may_give named scripts old new well

-- The words of `threads` behind that: a table, a script, and how many workers there are, 4 where nothing says so.
abbrev pub AskThreads : List (List ℕ) → List ℕ → List ℕ → ℕ → Type 0
AskThreads rest table script workers =
    (rest ≡ table ∷ script ∷ codes "--workers" ∷ decimal workers ∷ []) ⊎ ((rest ≡ table ∷ script ∷ []) × (workers ≡ 4))

-- `threads TABLE SCRIPT [--workers N]`: all is well only under an accepted table, under which every run is serializable in commit order.
pub record RunsThreads (may_give : Files) (rest : List (List ℕ)) (old new : Option (List ℕ)) (well : Bool) : Type 0 where
  pub table : List ℕ
  pub script : List ℕ
  pub workers : ℕ
  pub words_are : AskThreads rest table script workers
  pub does : DoesThreads may_give table script old new well
  pub serial : IsTrue well → NamesSerial may_give table

-- The others --

-- `explain TABLE [--script N]`: where the answer is that the table is safe, every run under it is serializable in commit order.
pub record Explains (may_give : Files) (rest : List (List ℕ)) (old new : Option (List ℕ)) (well : Bool) : Type 0 where
  pub answers : explain.Answers may_give rest old new well
  pub serial : IsTrue well → RunsSerially answers.named

-- `help`: the commands were listed, or the page of one was written.
abbrev pub Helps : List (List ℕ) → Option (List ℕ) → Option (List ℕ) → Type 0
Helps rest old new = ((rest ≡ []) × Appends old new LISTING.now) ⊎ ((c : Command) × ((rest ≡ word_of c ∷ []) × Appends old new (page_of c)))

-- What a command writes, and whether all is well.
abbrev pub Does : Files → Traces → Command → List (List ℕ) → Option (List ℕ) → Option (List ℕ) → Bool → Type 0
Does may_give may_name Check rest old new well = Checks may_give rest old new well
Does may_give may_name Run rest old new well = Runs may_give rest old new well
Does may_give may_name Judge rest old new well = Judges may_give rest old new well
Does may_give may_name Threads rest old new well = RunsThreads may_give rest old new well
Does may_give may_name Explain rest old new well = Explains may_give rest old new well
Does may_give may_name View rest old new well = view.ShowsAsked may_give rest old new well
Does may_give may_name Trace rest old new well = trace.AnswersAsked may_give may_name rest old new well
Does may_give may_name Suite rest old new well = suite.Answers may_give rest old new well
Does may_give may_name Relax rest old new well = relax.Answers may_give rest old new well
Does may_give may_name Help rest old new well = IsTrue well × Helps rest old new
Does may_give may_name Version rest old new well = IsTrue well × ((rest ≡ []) × Appends old new version_text)

-- The four commands whose faults are one line, with nothing below it.
abbrev pub IsTask : Command → Type 0
IsTask Check = Unit {0}
IsTask Run = Unit {0}
IsTask Judge = Unit {0}
IsTask Threads = Unit {0}
IsTask Explain = ⊥
IsTask View = ⊥
IsTask Trace = ⊥
IsTask Suite = ⊥
IsTask Relax = ⊥
IsTask Help = ⊥
IsTask Version = ⊥

-- Questions --

-- Behind the word of this command may stand a question about it.
abbrev pub IsAskable : Command → Type 0
IsAskable Check = ⊥
IsAskable Run = ⊥
IsAskable Judge = ⊥
IsAskable Threads = ⊥
IsAskable Explain = Unit {0}
IsAskable View = Unit {0}
IsAskable Trace = Unit {0}
IsAskable Suite = Unit {0}
IsAskable Relax = Unit {0}
IsAskable Help = ⊥
IsAskable Version = ⊥

-- The answer to a question about a command.
abbrev pub answer_of : Command → Question → List ℕ
answer_of c question.Help = page_of c
answer_of c question.Version = version_text

-- A question about a command was answered, and all is well.
abbrev pub IsAnswered : Command → List (List ℕ) → Option (List ℕ) → Option (List ℕ) → Bool → Type 0
IsAnswered c rest old new well = IsAskable c × ((q : Question) × (IsQuestion rest q × (IsTrue well × Appends old new (answer_of c q))))

-- Either is what these words get.
abbrev pub Writes : Files → Traces → Command → List (List ℕ) → Option (List ℕ) → Option (List ℕ) → Bool → Type 0
Writes may_give may_name c rest old new well = IsAnswered c rest old new well ⊎ Does may_give may_name c rest old new well

-- Endings --

-- These words ask for no page of the manual, or not for the version.
abbrev pub EndsHelp : List (List ℕ) → Ending → Type 0
EndsHelp rest ending.NotUnderstood = (rest ≢ []) × ((c : Command) → rest ≢ word_of c ∷ [])
EndsHelp rest ending.Memory = ⊥
EndsHelp rest ending.Place = ⊥
EndsHelp rest ending.Output = Unit {0}
EndsHelp rest (ending.Told line) = ⊥

abbrev pub EndsVersion : List (List ℕ) → Ending → Type 0
EndsVersion rest ending.NotUnderstood = rest ≢ []
EndsVersion rest ending.Memory = ⊥
EndsVersion rest ending.Place = ⊥
EndsVersion rest ending.Output = Unit {0}
EndsVersion rest (ending.Told line) = ⊥

-- Why a command ends without that, or with a part of it.
abbrev pub Ends : Files → Traces → Command → List (List ℕ) → Option (List ℕ) → Option (List ℕ) → Ending → Type 0
Ends may_give may_name Check rest old new e = tasks.Ends may_give (word_of Check ∷ rest) e
Ends may_give may_name Run rest old new e = tasks.Ends may_give (word_of Run ∷ rest) e
Ends may_give may_name Judge rest old new e = tasks.Ends may_give (word_of Judge ∷ rest) e
Ends may_give may_name Threads rest old new e = tasks.Ends may_give (word_of Threads ∷ rest) e
Ends may_give may_name Explain rest old new e = explain.Ends may_give rest e
Ends may_give may_name View rest old new e = view.Ends may_give rest e
Ends may_give may_name Trace rest old new e = trace.Explains may_give may_name rest old new e
Ends may_give may_name Suite rest old new e = suite.Ends may_give rest e
Ends may_give may_name Relax rest old new e = relax.Ends may_give rest e
Ends may_give may_name Help rest old new e = EndsHelp rest e
Ends may_give may_name Version rest old new e = EndsVersion rest e

-- Words of no form, which ask nothing about the command: for these a fault is that they aren't understood, and no other. Of the four it isn't known.
abbrev pub AskNothing : Command → List (List ℕ) → Type 0
AskNothing Check rest = ⊥
AskNothing Run rest = ⊥
AskNothing Judge rest = ⊥
AskNothing Threads rest = ⊥
AskNothing Explain rest = IsNoQuestion rest × explain_words.AskNothingOfTables rest
AskNothing View rest = IsNoQuestion rest × AskNoPage rest
AskNothing Trace rest = IsNoQuestion rest × AskNoTrace rest
AskNothing Suite rest = IsNoQuestion rest × suite_words.AskNothingOfTables rest
AskNothing Relax rest = IsNoQuestion rest × relax_words.AskNothingOfTables rest
AskNothing Help rest = (rest ≢ []) × ((c : Command) → rest ≢ word_of c ∷ [])
AskNothing Version rest = rest ≢ []

-- Words that aren't understood ask nothing about the command.
abbrev pub IsUnasked : Command → List (List ℕ) → Ending → Type 0
IsUnasked c rest e = e ≡ ending.NotUnderstood → IsAskable c → IsNoQuestion rest

-- The streams --

-- What a stream had taken before and after, and how often puts on it had failed.
pub record Stream : Type 0 where
  pub old : Option (List ℕ)
  pub new : Option (List ℕ)
  pub before : ℕ
  pub after : ℕ

abbrev pub stream : (old new : Option (List ℕ)) (before after : ℕ) → Stream
stream old new before after = record { old = old; new = new; before = before; after = after }

-- A text was written, or a prefix of it where the stream failed.
abbrev pub Tells : Stream → List ℕ → Type 0
Tells s text = IsTold s.old s.new s.before s.after text

-- Nothing was written.
abbrev pub IsSilent : Stream → Type 0
IsSilent s = s.new ≡ s.old

-- Where a command ends with a fault, nothing was written, unless output failed; for `trace`, its fault says what was.
abbrev pub IsUnwritten : Command → Stream → Type 0
IsUnwritten c out = (c ≡ Trace) ⊎ (HasCause out.before out.after ⊎ IsSilent out)

-- Where a command does what it is asked, standard error has nothing; but for warnings of what the script of a page has twice.
abbrev pub IsQuiet : Files → Command → List (List ℕ) → Stream → Type 0
IsQuiet may_give c rest err =
    (c ≢ View → IsSilent err)
    × ((view.NameNoMemberTwice may_give rest → IsSilent err) × ((help : List ℕ) × (AreLines help × Tells err help)))

-- What helps below the line of a fault: whole lines, and none for the four.
abbrev pub MayHelp : Command → List ℕ → Type 0
MayHelp c help = AreLines help × (IsTask c → help ≡ [])

-- The status that says whether all is well.
abbrev pub status_of : Bool → ℕ
status_of true = 0
status_of false = 1

-- The answer --

pub data Answers (may_give : Files) (may_name : Traces) (words : List (List ℕ)) (out err : Stream) (status : ℕ) : Type 0 where
  -- status 0 or 1: what the words ask is on standard output, and all is well or isn't
  done : (c : Command) (rest : List (List ℕ)) (well : Bool) → words ≡ word_of c ∷ rest → status ≡ status_of well → Writes may_give may_name c rest out.old out.new well → IsQuiet may_give c rest err → Answers may_give may_name words out err status
  -- status 2: standard error says why not, and what helps
  ended : (c : Command) (rest : List (List ℕ)) (e : Ending) (help : List ℕ) → words ≡ word_of c ∷ rest → status ≡ 2 → Ends may_give may_name c rest out.old out.new e → IsUnasked c rest e → IsUnwritten c out → MayHelp c help → Tells err (ending_text (usage_told c) e ++ help) → Answers may_give may_name words out err status
  -- status 2: the words begin with no command
  unknown : ((c : Command) (rest : List (List ℕ)) → words ≡ word_of c ∷ rest → ⊥) → status ≡ 2 → IsSilent out → Tells err (ending_line ending.NotUnderstood) → Answers may_give may_name words out err status
