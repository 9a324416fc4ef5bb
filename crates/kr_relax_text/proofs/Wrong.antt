-- The line of a script of an explanation, which goes wrong.
use Rattle.std.specs.Prelude.{◌≡◌, ℕ, List, All, Option, Some, None, Result, IfOk, IfSome, String, map, option_map, string_bytes, refl}
use Rattle.std.proofs.Common.{◌∙◌, Global, subst, sym}
use Rattle.kr_model.specs.Protocol.{Protocol}
use Rattle.kr_explain_core.specs.Explained.{IsExplained, run_at}
use Rattle.kr_explain_core.specs.Told.{IsScriptOf}
use Rattle.kr_explain_core.specs.declared.run.Run.{Run}
use Rattle.kr_explain_core.specs.declared.explanation.Explanation.{Explanation}
use Rattle.kr_explain_core.proofs.Wrong.{wrong_of}
use Rattle.kr_change.specs.declared.change.Change.{Change}
use Rattle.kr_ghost.specs.Protocol.{GhostProtocol}
use Rattle.kr_ghost_explain.specs.Explained.{IsGhostExplained, schedule_at}
use Rattle.kr_ghost_explain.specs.Lines.{IsGhostLineOf}
use Rattle.kr_ghost_explain.specs.Wrong.{GoesWrongBy}
use Rattle.kr_ghost_explain.specs.declared.explanation.GhostExplanation.{GhostExplanation}
use Rattle.kr_ghost_explain.specs.declared.explanation.GhostExplanation.TheVariants as told
use Rattle.kr_ghost_explain.specs.declared.schedule.GhostSchedule.{GhostSchedule}
use Rattle.kr_kinds.specs.Kinds.{IndexProtocol, Gone, Leaves}
use Rattle.kr_relax_core.specs.Outcomes.{IsJudged}
use Rattle.kr_relax_core.specs.declared.outcome.Judged.{Judged}
use Rattle.kr_relax_text.specs.declared.reasons.Reason.{Reason}
use Rattle.kr_relax_text.specs.Reasons.{AreReasons, HasWrong, IsWrong, IsWrongLine, IsWrongOnly, judged_in}

line_of : (p : Protocol) (n : ℕ) (x : Explanation) (found : Option Run) (line : List ℕ) → IsExplained p x → run_at n x ≡ found → IsScriptOf found (Some line) → IsWrongLine (Gone p) line
line_of p n x None line explained has is = absurd is
line_of p n x (Some run) line explained has is =
    record { opening = run.script.opening.items; steps = run.script.events.items; wrong = wrong_of p n x run explained.told has; is_line = is }

-- the script of a number goes wrong
pub wrong_line : (p : Protocol) (n : ℕ) (x : Explanation) (found : Option (String Global)) (line : String Global) → IsExplained p x → IsScriptOf (run_at n x) (option_map string_bytes found) → found ≡ Some line → IsWrongLine (Gone p) (string_bytes line)
wrong_line p n x found line explained is has =
    let P : Option (String Global) → Type 0 = λ o. IsScriptOf (run_at n x) (option_map string_bytes o) in
    line_of p n x (run_at n x) (string_bytes line) explained refl (subst P has is)

-- With ghosts the schedule goes wrong, whose line it is.
pub wrong_ghost_line : (p : GhostProtocol) (x : GhostExplanation) (found : Option (String Global)) → IsGhostExplained p x → option_map string_bytes found ≡ option_map (λ s. string_bytes s.line) (schedule_at 1 x) → IfSome found (λ line. IsWrongLine (Leaves p) (string_bytes line))
wrong_ghost_line p x None explained is = tt
wrong_ghost_line p (told.Accepted n) (Some line) explained is = absurd (cc)
wrong_ghost_line p (told.Safe f) (Some line) explained is = absurd (cc)
wrong_ghost_line p (told.Rejected f) (Some line) explained is = by f.schedule explained.told.wrong is
  where
    by : (o : Option GhostSchedule) → IfSome o (λ s. GoesWrongBy p s.script.opening s.script.moves) → option_map string_bytes (Some line) ≡ option_map (λ (s : GhostSchedule). string_bytes s.line) o → IsWrongLine (Leaves p) (string_bytes line)
    by None wrong e = absurd (cc)
    by (Some s) wrong e =
        let same : string_bytes line ≡ string_bytes s.line = cc in
        record { script = s.script; wrong = wrong; is_line = subst (IsGhostLineOf s.script) (sym same) s.reads }

-- it goes wrong under what is equal to the table and the change
pub same_wrong : {E : Type 0} (p q : IndexProtocol) (c d : Change) (r : Result (Option (String Global)) E) → q ≡ p → d ≡ c → IfOk r (HasWrong q d) → IfOk r (HasWrong p c)
same_wrong p q c d r base change wrong =
    subst (λ (e : Change). IfOk r (HasWrong p e)) change
    (subst (λ (s : IndexProtocol). IfOk r (HasWrong s d)) base wrong)

-- the reasons of changes that were judged
pub are_reasons : (p : IndexProtocol) (changes : List Change) (judged given : List Judged) (list : List Reason) → map (λ j. j.change) judged ≡ changes → All (IsJudged p) judged → given ≡ judged
    → judged_in list ≡ given → All (IsWrong p) list → All IsWrongOnly list → AreReasons p changes list
are_reasons p changes judged given list are right same these wrong only = record {
  same = subst (λ (js : List Judged). map (λ j. j.change) js ≡ changes) (sym (these ∙ same)) are;
  judged = subst (λ (js : List Judged). All (IsJudged p) js) (sym (these ∙ same)) right;
  wrong = wrong;
  only = only;
}
