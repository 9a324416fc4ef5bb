-- All verdicts are serializable exactly where each run is.
use Rattle.std.proofs.Common.{◌≡◌, ℕ, zero, suc, Bool, true, false, ◌&&◌, All, List, [], ◌∷◌, length, map, Option, refl, sym, ap, ◌∙◌, arith}
use Rattle.std.specs.List.{list_all}
use Rattle.kr_model.specs.Protocol.{Protocol}
use Rattle.kr_model.specs.Map.{IsMap}
use Rattle.kr_model.specs.Run.{programs}
use Rattle.kr_judge.specs.declared.verdict.Verdict.{Verdict}
use Rattle.kr_judge.specs.declared.verdict.Verdict.TheVariants.{Serial, NotSerial}
use Rattle.kr_judge.specs.Verdicts.{verdict_of_run}
use Rattle.kr_judge.proofs.Wholes.{serial_exactly}
use Rattle.kr_script.specs.Script.{Script}
use Rattle.kr_batch.specs.Names.{AreNamed}
use Rattle.kr_cli_tasks.specs.Runs.{run_of, IsSerialScript}
use Rattle.kr_cli_tasks.specs.Judges.{is_serial, verdicts_on}

told_serial : (v : Verdict) → is_serial v ≡ true → v ≡ Serial
told_serial Serial e = refl
told_serial (NotSerial t operation given serial) e = absurd (cc)

is_told : (v : Verdict) → v ≡ Serial → is_serial v ≡ true
is_told v e = rw e refl

both : (a b : Bool) → a && b ≡ true → (a ≡ true) × (b ≡ true)
both true b e = (refl, e)
both false b e = absurd (cc)

module _ (p : Protocol) where
  serial_where_told : (s : Script) → is_serial (verdict_of_run p s.opening s.steps) ≡ true → IsSerialScript p s
  serial_where_told s e = (serial_exactly (verdict_of_run p s.opening s.steps) s.opening (programs (run_of p s).history) refl).0 (told_serial (verdict_of_run p s.opening s.steps) e)

  told_where_serial : (s : Script) → IsSerialScript p s → is_serial (verdict_of_run p s.opening s.steps) ≡ true
  told_where_serial s h = is_told (verdict_of_run p s.opening s.steps) ((serial_exactly (verdict_of_run p s.opening s.steps) s.opening (programs (run_of p s).history) refl).1 h)

  -- where all verdicts are serializable, each run is
  pub all_serial : (ss : List Script) → list_all is_serial (verdicts_on p ss) ≡ true → All (IsSerialScript p) ss
  all_serial [] e k d low = absurd (omega arith)
  all_serial (s ∷ ss) e zero d low = serial_where_told s (both (is_serial (verdict_of_run p s.opening s.steps)) (list_all is_serial (verdicts_on p ss)) e).0
  all_serial (s ∷ ss) e (suc k) d low = all_serial ss (both (is_serial (verdict_of_run p s.opening s.steps)) (list_all is_serial (verdicts_on p ss)) e).1 k d (omega arith)

  -- and where each run is serializable, all verdicts are
  pub all_told : (ss : List Script) → All (IsSerialScript p) ss → list_all is_serial (verdicts_on p ss) ≡ true
  all_told [] h = refl
  all_told (s ∷ ss) h = rw (told_where_serial s (h zero s (omega arith)), all_told ss (λ k d low. h (suc k) d (omega arith)))

  -- where every run of a script is serializable, so is each run of a script that a name stands for
  pub all_named : ((s : Script) → IsMap s.opening → IsSerialScript p s) → (may_be : List ℕ → Option (List ℕ) → Type 0) (names : List (List ℕ)) (ss : List Script) → AreNamed may_be names ss → All (IsSerialScript p) ss
  all_named every may_be names [] are k d low = absurd (omega arith)
  all_named every may_be [] (s ∷ ss) are k d low = absurd are
  all_named every may_be (n ∷ ns) (s ∷ ss) are zero d low = every s are.0.0.rising
  all_named every may_be (n ∷ ns) (s ∷ ss) are (suc k) d low = all_named every may_be ns ss are.1 k d (omega arith)

-- as many scripts as names, and as many verdicts
as_many : {N : Type 0} (f : N → List ℕ) (may_be : List ℕ → Option (List ℕ) → Type 0) (names : List N) (ss : List Script) → AreNamed may_be (map f names) ss → length ss ≡ length names
as_many f may_be [] [] are = refl
as_many f may_be [] (s ∷ ss) are = absurd are
as_many f may_be (n ∷ ns) [] are = absurd are
as_many f may_be (n ∷ ns) (s ∷ ss) are = ap suc (as_many f may_be ns ss are.1)

many_verdicts : (p : Protocol) (ss : List Script) → length (verdicts_on p ss) ≡ length ss
many_verdicts p [] = refl
many_verdicts p (s ∷ ss) = ap suc (many_verdicts p ss)

pub as_many_verdicts : {N : Type 0} (f : N → List ℕ) (p : Protocol) (may_be : List ℕ → Option (List ℕ) → Type 0) (names : List N) (ss : List Script) (vs : List Verdict) → AreNamed may_be (map f names) ss → vs ≡ verdicts_on p ss → length names ≡ length vs
as_many_verdicts f p may_be names ss vs are told = sym (as_many f may_be names ss are) ∙ sym (many_verdicts p ss) ∙ ap length (sym told)
