-- What is written of verdicts on scripts.
use Rattle.std.specs.Prelude.{ℕ, Bool, true, false, List, [], ◌∷◌, ◌++◌, map, Option}
use Rattle.std.specs.List.{flat_map}
use Rattle.kr_model.specs.Protocol.{Protocol}
use Rattle.kr_judge.specs.declared.verdict.Verdict.{Verdict}
use Rattle.kr_judge.specs.declared.verdict.Verdict.TheVariants.{Serial, NotSerial}
use Rattle.kr_judge.specs.Verdicts.{verdict_of_run}
use Rattle.kr_script.specs.Script.{Script}
use Rattle.kr_report.specs.Report.{verdict_text}
use Rattle.kr_sink.specs.Puts.{AppendsFront, HasCause}
use Rattle.kr_cli.specs.Files.{MayBeScript}
use Rattle.kr_cli.specs.Named.{TellsNoScript}
use Rattle.kr_batch.specs.Names.{AreNamed, IsFirst, ExplainsNames}
use Rattle.kr_cli_tasks.specs.declared.judges.LinesFault.{LinesFault}
use Rattle.kr_cli_tasks.specs.declared.judges.LinesFault.TheVariants as fault

-- The verdicts on scripts under a protocol, in the order of the scripts.
abbrev pub verdicts_on : Protocol → List Script → List Verdict
verdicts_on p ss = map (λ s. verdict_of_run p s.opening s.steps) ss

-- Whether a verdict is serializable.
abbrev pub is_serial : Verdict → Bool
is_serial Serial = true
is_serial (NotSerial t operation given serial) = false

-- The reports of verdicts, each with its script's name; what has no name, or no verdict, has none.
abbrev pub reports_of : List (List ℕ) → List Verdict → List (List ℕ)
reports_of (n ∷ ns) (v ∷ vs) = verdict_text n v ∷ reports_of ns vs
reports_of [] vs = []
reports_of (n ∷ ns) [] = []

-- Texts in their order, each with a line feed.
abbrev pub lines : List (List ℕ) → List ℕ
lines texts = flat_map (λ t. t ++ 10 ∷ []) texts

-- The lines of the verdicts on scripts of these names.
abbrev pub judge_lines : Protocol → List (List ℕ) → List Script → List ℕ
judge_lines p names ss = lines (reports_of names (verdicts_on p ss))

-- A fault of a name is that of the first that stands for no script, and a fault of printing has its cause in the sink, which took a prefix of the lines.
abbrev pub ExplainsLines : Protocol → (List ℕ → Option (List ℕ) → Type 0) → List (List ℕ) → Option (List ℕ) → Option (List ℕ) → ℕ → ℕ → LinesFault → Type 0
ExplainsLines p may_be names old new before after (fault.Judge f) = ExplainsNames may_be names f
ExplainsLines p may_be names old new before after fault.Print = HasCause before after × ((ss : List Script) × (AreNamed may_be names ss × AppendsFront old new (judge_lines p names ss)))

-- The line tells why the first of the words that names no script names none.
abbrev pub TellsFirst : (List ℕ → Option (List ℕ) → Type 0) → List (List ℕ) → List ℕ → Type 0
TellsFirst may_give words line = (place : ℕ) × IsFirst (MayBeScript may_give) words place (λ word. TellsNoScript may_give word line)
