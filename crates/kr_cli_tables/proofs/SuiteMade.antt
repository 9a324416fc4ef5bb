-- What was made of a suite.
use Rattle.std.specs.Prelude.{◌≡◌, ℕ, List, Option, Result, Ok, Err, IfOk, string_bytes}
use Rattle.std.proofs.Common.{String, Global}
use Rattle.kr_kinds.specs.Kinds.{IndexProtocol}
use Rattle.kr_decide.specs.declared.survey.Survey.{Survey}
use Rattle.kr_suite_core.specs.declared.classes.Suite.{Suite}
use Rattle.kr_suite_core.specs.Suite.{IsSuite}
use Rattle.kr_suite_text.specs.Whole.{left_text}
use Rattle.kr_cli_tables.specs.Suite.{IsMade, IsSurveyOf, IsWanted, TellsLeft, is_complete}
use Rattle.kr_cli_tables.specs.declared.suites.words.Wanted.{Wanted}
use Rattle.kr_cli_tables.specs.declared.suites.writing.Made.{Made}

pub made_is : {E : Type 0} (p : IndexProtocol) (names : List (List ℕ)) (w : Wanted) (s : Suite) (r : Result Made E) → IsSuite p s → IfOk r (λ m. IsWanted p names s w (string_bytes m.text)) → IfOk r (λ m. m.is_complete ≡ is_complete s) → IfOk r (λ m. IsMade p names w (string_bytes m.text) m.is_complete)
made_is p names w s (Ok m) is text complete = record { suite = s; is_suite = is; is_text = text; verdict = complete }
made_is p names w s (Err e) is text complete = tt

-- what a suite leaves was told by a survey
pub left_told : {E : Type 0} (p : IndexProtocol) (names : List (List ℕ)) (s : Suite) (survey : Option Survey) (r : Result (String Global) E) → IsSurveyOf p survey → IfOk r (λ text. string_bytes text ≡ left_text p names s survey) → IfOk r (λ text. TellsLeft p names s (string_bytes text))
left_told p names s survey (Ok text) is told = record { survey = survey; is_survey = is; is_text = told }
left_told p names s survey (Err e) is told = tt
