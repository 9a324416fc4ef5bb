-- Why the program ends without what is wanted.
use Rattle.std.specs.Prelude.{◌≡◌, ◌++◌, ℕ, List, Bool, Option, Some, None, Result, Ok, Err, IfOk, IfErr, String, codes, option_map, string_bytes, refl}
use Rattle.std.proofs.Common.{Global, subst, inl, inr}
use Rattle.std.specs.Fmt.{decimal}
use Rattle.kr_model.specs.Protocol.{Protocol}
use Rattle.kr_cli.specs.declared.endings.Ending.{Ending}
use Rattle.kr_cli.specs.declared.endings.Ending.TheVariants.{NotUnderstood, Memory, Place, Output, Told}
use Rattle.kr_cli.specs.Endings.{MemoryOrTold}
use Rattle.kr_cli.specs.Lines.{told_line}
use Rattle.kr_cli.specs.NamedTables.{Names, TellsNone}
use Rattle.kr_cli.specs.declared.named.Named.{Named}
use Rattle.kr_ghost.specs.Protocol.{GhostProtocol}
use Rattle.kr_ghost_explain.specs.Explained as ghosts
use Rattle.kr_ghost_explain.specs.declared.explanation.GhostExplanation.{GhostExplanation}
use Rattle.kr_ghost_explain.specs.declared.schedule.GhostSchedule.{GhostSchedule}
use Rattle.kr_explain_core.specs.Explained.{IsExplained, run_at}
use Rattle.kr_explain_core.specs.Told.{IsScriptOf}
use Rattle.kr_explain_core.specs.declared.run.Run.{Run}
use Rattle.kr_explain_core.specs.declared.explanation.Explanation.{Explanation}
use Rattle.kr_cli_tables.specs.ExplainWords.{words_of, IsAsked}
use Rattle.kr_cli_tables.specs.Explain.{Answers, Ends, EndsReport, IsLawfulTable, ReportsTable, TellsGhostMissing, TellsMissing, TellsOfTable}
use Rattle.kr_cli_tables.specs.declared.explanations.words.Wanted.{Wanted}
use Rattle.kr_cli_tables.specs.declared.explanations.words.Wanted.TheVariants as wanted

-- where there is no line there is no run
no_run : (found : Option Run) → IsScriptOf found None → found ≡ None
no_run None none = refl
no_run (Some run) none = absurd none

-- the ending tells that there is no such script
script_missing : (p : Protocol) (table what : List ℕ) (n : ℕ) (x : Explanation) (e : Ending) → IsExplained p x → run_at n x ≡ None → what ≡ codes "no script " ++ decimal n → MemoryOrTold e (λ line. line ≡ told_line table what) → EndsReport (TellsMissing p table (wanted.Script n)) e
script_missing p table what n x NotUnderstood explained none is told = absurd told
script_missing p table what n x Memory explained none is told = tt
script_missing p table what n x Place explained none is told = absurd told
script_missing p table what n x Output explained none is told = absurd told
script_missing p table what n x (Told line) explained none is told =
    let P : List ℕ → Type 0 = λ text. string_bytes line ≡ told_line table text in
    record { explanation = x; explained = explained; none = none; told = subst P is told }

-- the same, of what was found
pub no_script : (p : Protocol) (table what text : List ℕ) (n : ℕ) (x : Explanation) (found : Option (String Global)) (e : Ending) → IsExplained p x → IsScriptOf (run_at n x) (option_map string_bytes found) → found ≡ None → what ≡ text → text ≡ codes "no script " ++ decimal n → MemoryOrTold e (λ line. line ≡ told_line table what) → EndsReport (TellsMissing p table (wanted.Script n)) e
no_script p table what text n x found e explained is_script none is_text is told =
    let P : Option (String Global) → Type 0 = λ o. IsScriptOf (run_at n x) (option_map string_bytes o) in
    let same : what ≡ codes "no script " ++ decimal n = cc in
    script_missing p table what n x e explained (no_run (run_at n x) (subst P none is_script)) same told

-- where there is no line there is no schedule
no_schedule : (found : Option GhostSchedule) (line : Option (String Global)) → option_map string_bytes line ≡ option_map (λ s. string_bytes s.line) found → line ≡ None → found ≡ None
no_schedule None line same none = refl
no_schedule (Some schedule) None same none = absurd cc
no_schedule (Some schedule) (Some line) same none = absurd cc

ghost_script_missing : (p : GhostProtocol) (table what : List ℕ) (n : ℕ) (x : GhostExplanation) (e : Ending) → ghosts.IsGhostExplained p x → ghosts.schedule_at n x ≡ None → what ≡ codes "no script " ++ decimal n → MemoryOrTold e (λ line. line ≡ told_line table what) → EndsReport (TellsGhostMissing p table (wanted.Script n)) e
ghost_script_missing p table what n x NotUnderstood explained none is told = absurd told
ghost_script_missing p table what n x Memory explained none is told = tt
ghost_script_missing p table what n x Place explained none is told = absurd told
ghost_script_missing p table what n x Output explained none is told = absurd told
ghost_script_missing p table what n x (Told line) explained none is told =
    let P : List ℕ → Type 0 = λ text. string_bytes line ≡ told_line table text in
    record { explanation = x; explained = explained; none = none; told = subst P is told }

-- the same of a table with ghosts
pub no_ghost_script : (p : GhostProtocol) (table what text : List ℕ) (n : ℕ) (x : GhostExplanation) (line : Option (String Global)) (e : Ending) → ghosts.IsGhostExplained p x → option_map string_bytes line ≡ option_map (λ s. string_bytes s.line) (ghosts.schedule_at n x) → line ≡ None → what ≡ text → text ≡ codes "no script " ++ decimal n → MemoryOrTold e (λ line. line ≡ told_line table what) → EndsReport (TellsGhostMissing p table (wanted.Script n)) e
no_ghost_script p table what text n x line e explained same none is_text is told =
    let whole : what ≡ codes "no script " ++ decimal n = cc in
    ghost_script_missing p table what n x e explained (no_schedule (ghosts.schedule_at n x) line same none) whole told

-- why there isn't what is wanted of the table that a word names
ends_at : (may_give : List ℕ → Option (List ℕ) → Type 0) (words : List (List ℕ)) (table : List ℕ) (w : Wanted) (t : Named) (e : Ending) → words ≡ words_of table w → IsAsked table w → Names may_give table t → EndsReport (TellsOfTable t table w) e → Ends may_give words e
ends_at may_give words table w t NotUnderstood are asked names ends = absurd ends
ends_at may_give words table w t Memory are asked names ends = tt
ends_at may_give words table w t Place are asked names ends = absurd ends
ends_at may_give words table w t Output are asked names ends = tt
ends_at may_give words table w t (Told line) are asked names ends = (table, (w, (are, (asked, inr (t, (names, ends))))))

pub report_ends : (may_give : List ℕ → Option (List ℕ) → Type 0) (words : List (List ℕ)) (r : Result Bool Ending) (table : List ℕ) (w : Wanted) (t : Named) → words ≡ words_of table w → IsAsked table w → Names may_give table t → IfErr r (EndsReport (TellsOfTable t table w)) → IfErr r (Ends may_give words)
report_ends may_give words (Ok accepted) table w t are asked names ends = tt
report_ends may_give words (Err e) table w t are asked names ends = ends_at may_give words table w t e are asked names ends

-- what is wanted of the table that a word names was written
pub report_answers : (may_give : List ℕ → Option (List ℕ) → Type 0) (words : List (List ℕ)) (old new : Option (List ℕ)) (r : Result Bool Ending) (table : List ℕ) (w : Wanted) (t : Named) → words ≡ words_of table w → IsAsked table w → Names may_give table t → IsLawfulTable t → IfOk r (ReportsTable t table w old new) → IfOk r (Answers may_give words old new)
report_answers may_give words old new (Ok safe) table w t are asked names lawful reports =
    record { table = table; wanted = w; named = t; words_are = are; asked = asked; names = names; lawful = lawful; reports = reports }
report_answers may_give words old new (Err e) table w t are asked names lawful reports = tt

-- the word of a table that names none
pub no_table : (may_give : List ℕ → Option (List ℕ) → Type 0) (words : List (List ℕ)) (table : List ℕ) (w : Wanted) (e : Ending) → words ≡ words_of table w → IsAsked table w → MemoryOrTold e (TellsNone may_give table) → Ends may_give words e
no_table may_give words table w NotUnderstood are asked told = absurd told
no_table may_give words table w Memory are asked told = tt
no_table may_give words table w Place are asked told = absurd told
no_table may_give words table w Output are asked told = absurd told
no_table may_give words table w (Told line) are asked told = (table, (w, (are, (asked, inl told))))
