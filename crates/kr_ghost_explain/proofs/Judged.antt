-- What was judged of a run decides whether it goes wrong.
use Rattle.std.specs.Prelude.{◌≡◌, ◌↔◌, Bool, true, false, not, Decides, List, All, IsTrue, IfOk, Result, Ok, Err}
use Rattle.std.specs.List.{list_all}
use Rattle.std.proofs.Common.{sym, subst, ap, ◌∙◌, refl}
use Rattle.std.proofs.lemmas.Bool.{false≢true}
use Rattle.std.proofs.lemmas.Bool.Decides.{Decides-by_and}
use Rattle.kr_model.specs.Map.{Map, IsMap}
use Rattle.kr_model.specs.Difference.{first_difference}
use Rattle.kr_model.specs.Run.{Program}
use Rattle.kr_model.specs.Serial.{AreSerial}
use Rattle.kr_judge.specs.declared.verdict.Verdict.{Verdict}
use Rattle.kr_judge.specs.declared.verdict.Verdict.TheVariants.{Serial}
use Rattle.kr_judge.specs.Verdicts.{verdict_of}
use Rattle.kr_judge.proofs.Wholes.{serial_exactly}
use Rattle.kr_ghost.specs.declared.moves.Move.{Move}
use Rattle.kr_ghost.specs.Protocol.{GhostProtocol}
use Rattle.kr_ghost_run.specs.Ran.{IsGhostRan}
use Rattle.kr_ghost_run.specs.declared.ran.Answer.{Answer}
use Rattle.kr_ghost_run.specs.declared.ran.GhostRan.{GhostRan}
use Rattle.kr_ghost_explain.specs.Wrong.{GoesWrongBy, is_done}

-- An answer that isn't done --

done_in : (answers : List Answer) → Decides (list_all is_done answers) (All (λ a. IsTrue (is_done a)) answers)
done_in answers = Decides-by_and is_done (λ a. IsTrue (is_done a)) (list_all is_done) (λ a. (λ t. t, λ t. t)) refl (λ x xs. refl) answers

-- a run that has one doesn't go wrong
pub undone : (Q : Type 0) (answers : List Answer) → list_all is_done answers ≡ false → Decides false (All (λ a. IsTrue (is_done a)) answers × Q)
undone Q answers isnt = (λ f. absurd (false≢true f), λ h. absurd (false≢true (sym isnt ∙ (done_in answers).1 h.0)))

-- Programs that aren't serializable --

not_both : (b : Bool) → IsTrue b → IsTrue (not b) → ⊥
not_both true t f = cc
not_both false t f = cc

isnt_true : (b : Bool) → (IsTrue b → ⊥) → not b ≡ true
isnt_true true never = absurd (never refl)
isnt_true false never = refl

-- where all is done, the verdict decides
pub not_serial : (v : Verdict) (told : Bool) (m : Map) (ps qs : List Program) (answers : List Answer) → list_all is_done answers ≡ true → v ≡ verdict_of (first_difference m ps) → ps ≡ qs → (IsTrue told ↔ (v ≡ Serial)) → Decides (not told) (All (λ a. IsTrue (is_done a)) answers × (AreSerial m qs → ⊥))
not_serial v told m ps qs answers done is same tells =
    let exactly = serial_exactly v m qs (is ∙ ap (λ (xs : List Program). verdict_of (first_difference m xs)) same) in
    (λ isnt. ((done_in answers).0 done, λ serial. not_both told (tells.1 (exactly.1 serial)) isnt), λ h. isnt_true told (λ t. h.1 (exactly.0 (tells.0 t))))

-- The moves --

-- where the opening map is none
pub no_map : (p : GhostProtocol) (opening : Map) (moves : List Move) (b : Bool) → (IsMap opening → IsTrue b) → b ≡ false → Decides false (GoesWrongBy p opening moves)
no_map p opening moves b tells isnt = (λ f. absurd (false≢true f), λ h. absurd (false≢true (sym isnt ∙ tells h.is_map)))

wrong_if : (p : GhostProtocol) (opening : Map) (moves : List Move) (ran : GhostRan) (wrong : Bool) → IsMap opening → IsGhostRan p opening moves ran → Decides wrong (All (λ a. IsTrue (is_done a)) ran.answers × (AreSerial opening ran.programs → ⊥)) → Decides wrong (GoesWrongBy p opening moves)
wrong_if p opening moves ran wrong is_map is decides = (there, λ h. decides.1 (subst (All (λ a. IsTrue (is_done a))) (sym is.answers) h.done, λ serial. h.not_serial (subst (AreSerial opening) is.programs serial)))
  where
    there : wrong ≡ true → GoesWrongBy p opening moves
    there so = record {
      is_map = is_map;
      done = subst (All (λ a. IsTrue (is_done a))) is.answers (decides.0 so).0;
      not_serial = λ serial. (decides.0 so).1 (subst (AreSerial opening) (sym is.programs) serial);
    }

-- else as the run does
pub wrong_where : {E : Type 0} (p : GhostProtocol) (opening : Map) (moves : List Move) (ran : GhostRan) (r : Result Bool E) → IsMap opening → IsGhostRan p opening moves ran → IfOk r (λ wrong. Decides wrong (All (λ a. IsTrue (is_done a)) ran.answers × (AreSerial opening ran.programs → ⊥))) → IfOk r (λ wrong. Decides wrong (GoesWrongBy p opening moves))
wrong_where p opening moves ran (Ok wrong) is_map is decides = wrong_if p opening moves ran wrong is_map is decides
wrong_where p opening moves ran (Err e) is_map is decides = tt
