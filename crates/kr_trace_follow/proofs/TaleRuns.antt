-- What lines say of the transactions of a run beside its log.
use Rattle.std.specs.Prelude.{◌≡◌, ℕ, true, false, not, ◌==◌, cond, List, [], ◌∷◌, ◌++◌, Some, None, unwrap_or, filter, refl, ◌⊎◌}
use Rattle.std.specs.Ordering.{nat_cmp}
use Rattle.std.specs.FinMap.{find}
use Rattle.std.proofs.lemmas.Bool.{cases_eq}
use Rattle.std.proofs.Common.{sym, ◌∙◌, ap, subst, inl, inr}
use Rattle.kr_model.specs.declared.Op.{Op}
use Rattle.kr_model.specs.declared.Op.TheVariants as op
use Rattle.kr_model.specs.declared.Reply.{Reply}
use Rattle.kr_model.specs.declared.Reply.TheVariants as reply
use Rattle.kr_model.specs.Protocol.{Protocol}
use Rattle.kr_model.specs.Log.{Log, operations_so_far, with_step, step_logged, end_logged, logged}
use Rattle.kr_model.specs.Run.{Program, is_granted}
use Rattle.kr_model.specs.State.{State, idle, active_of, standing, is_rolling}
use Rattle.kr_model.specs.Step.{Outcome, step, goes_on}
use Rattle.kr_model.proofs.Actives.{tied, untied, find_put_same, find_put_other, find_filter, find_filter_other}
use Rattle.kr_model.proofs.KindsOfSteps.{IsGranted, IsEnd, IsBack, Kind, kind_of}
use Rattle.kr_model.proofs.LogReads.{event}
use Rattle.kr_model.proofs.LogSteps.{logged_silent}
use Rattle.kr_trace_lines.specs.declared.observed.Observed.{Observed}
use Rattle.kr_trace_lines.specs.declared.observed.Observed.TheVariants as observed
use Rattle.kr_trace_lines.specs.Fits.{fits}
use Rattle.kr_trace_follow.specs.Programs.{Tale, Tales, no_tale, tale_after, with_tale, tales_after}
use Rattle.kr_trace_follow.specs.Given.{Given}
use Rattle.kr_trace_follow.proofs.ScanSteps.{GoesOn, Leaves, step_leaves}
use Rattle.kr_trace_follow.proofs.TaleLaws.{AreGiven, IsTale, tale_at}
use Rattle.kr_trace_follow.proofs.StepReplies.{rests, is_plain, adds_plain}
use Rattle.kr_trace_follow.proofs.TaleSteps.{IsSaid, plain_tale, passed_tale}

-- Tales beside a log --

-- What lines say of each transaction that doesn't roll back is what it did.
abbrev pub AreTales : State → Log → (ℕ → Tale) → Type 0
AreTales s lg f = (u : ℕ) → is_rolling s u ≡ false → IsTale (standing s u).scan (operations_so_far lg u) (f u)

-- So are the programs that have committed.
abbrev pub AreProgramsGiven : List Program → List (List Given) → Type 0
AreProgramsGiven [] [] = Unit {0}
AreProgramsGiven (q ∷ qs) (y ∷ ys) = AreGiven q.operations y × AreProgramsGiven qs ys
AreProgramsGiven _ _ = ⊥

pub record IsGivenOf (s : State) (lg : Log) (w : Tales) : Type 0 where
  pub tales : AreTales s lg w.of
  pub committed : AreProgramsGiven lg.committed w.committed

one_program_more : (qs : List Program) (ys : List (List Given)) (q : Program) (y : List Given) → AreProgramsGiven qs ys → AreGiven q.operations y → AreProgramsGiven (qs ++ q ∷ []) (ys ++ y ∷ [])
one_program_more [] [] q y h g = (g, tt)
one_program_more [] (z ∷ ys) q y h g = absurd h
one_program_more (r ∷ qs) [] q y h g = absurd h
one_program_more (r ∷ qs) (z ∷ ys) q y h g = (h.0, one_program_more qs ys q y h.1 g)

-- Of a transaction whose standing, log and tale stay.
kept_tale : (s new : State) (lg after : Log) (f g : ℕ → Tale) (u : ℕ) → active_of new u ≡ active_of s u → operations_so_far after u ≡ operations_so_far lg u → g u ≡ f u → AreTales s lg f → is_rolling new u ≡ false
    → IsTale (standing new u).scan (operations_so_far after u) (g u)
kept_tale s new lg after f g u now ops same are r =
    subst (λ z. IsTale (unwrap_or z idle).scan (operations_so_far after u) (g u)) (sym now)
    (subst (λ z. IsTale (standing s u).scan z (g u)) (sym ops)
    (subst (λ z. IsTale (standing s u).scan (operations_so_far lg u) z) (sym same)
    (are u (sym (ap (λ z. (unwrap_or z idle).rolling) now) ∙ r))))

pub with_same : (f : ℕ → Tale) (t : ℕ) (x : Tale) → with_tale f t x t ≡ x
with_same f t x = ap (λ b. cond b x (f t)) (tied t)

pub with_other : (f : ℕ → Tale) (t u : ℕ) (x : Tale) → (u ≡ t → ⊥) → with_tale f t x u ≡ f u
with_other f t u x d = ap (λ b. cond b x (f u)) (untied u t d)

-- After a step that is granted and ends no transaction.
granted_tales : (s new : State) (lg : Log) (f g : ℕ → Tale) (t : ℕ) (o : Op) (a : Reply) → IsGranted s t o a new → AreTales s lg f → ((u : ℕ) → (u ≡ t → ⊥) → g u ≡ f u)
    → IsTale (standing new t).scan (with_step (operations_so_far lg t) o a) (g t) → AreTales new (logged lg (event t o, a)) g
granted_tales s new lg f g t o a k are other here u r =
    subst (λ z. IsTale (standing new u).scan (operations_so_far z u) (g u)) (sym (k.adds.logs lg t)) (by (cases_eq u t))
  where
    by : (u ≡ t) ⊎ (u ≡ t → ⊥) → IsTale (standing new u).scan (operations_so_far (step_logged lg t o a) u) (g u)
    by (inl d) =
        subst (λ v. IsTale (standing new v).scan (operations_so_far (step_logged lg t o a) v) (g v)) (sym d)
        (subst (λ z. IsTale (standing new t).scan (unwrap_or z []) (g t)) (sym (find_put_same lg.unfinished t (with_step (operations_so_far lg t) o a))) here)
    by (inr d) =
        kept_tale s new lg (step_logged lg t o a) f g u (ap (find nat_cmp u) k.active ∙ find_put_other s.active t u k.standing d)
        (ap (λ z. unwrap_or z []) (find_put_other lg.unfinished t u (with_step (operations_so_far lg t) o a) d)) (other u d) are r

-- After one that ends t.
ended_tales : (s new : State) (lg : Log) (f g : ℕ → Tale) (t : ℕ) (o : Op) (a : Reply) (qs : List Program) → IsEnd s t o a new → AreTales s lg f → ((u : ℕ) → (u ≡ t → ⊥) → g u ≡ f u) → g t ≡ no_tale
    → AreTales new (end_logged lg t qs) g
ended_tales s new lg f g t o a qs k are other none u r = by (cases_eq u t)
  where
    gone : {X : Type 0} (es : List (ℕ × X)) → find nat_cmp t (filter (λ e. not (e.0 == t)) es) ≡ None
    gone es = find_filter es t t ∙ ap (λ b. cond (not b) (find nat_cmp t es) None) (tied t)

    by : (u ≡ t) ⊎ (u ≡ t → ⊥) → IsTale (standing new u).scan (operations_so_far (end_logged lg t qs) u) (g u)
    by (inl d) =
        subst (λ v. IsTale (standing new v).scan (operations_so_far (end_logged lg t qs) v) (g v)) (sym d)
        (subst (λ z. IsTale (unwrap_or z idle).scan (operations_so_far (end_logged lg t qs) t) (g t)) (sym (ap (find nat_cmp t) k.active ∙ gone s.active))
        (subst (λ z. IsTale None (unwrap_or z []) (g t)) (sym (gone lg.unfinished))
        (subst (λ z. IsTale None [] z) (sym none) (tt, refl))))
    by (inr d) =
        kept_tale s new lg (end_logged lg t qs) f g u (ap (find nat_cmp u) k.active ∙ find_filter_other s.active t u d)
        (ap (λ z. unwrap_or z []) (find_filter_other lg.unfinished t u d)) (other u d) are r

-- After one that takes a change of t back.
back_tales : (s new : State) (lg : Log) (f : ℕ → Tale) (t : ℕ) (o : Op) (a : Reply) → IsBack s t o a new → AreTales s lg f → AreTales new lg f
back_tales s new lg f t o a k are u r = by (cases_eq u t)
  where
    by : (u ≡ t) ⊎ (u ≡ t → ⊥) → IsTale (standing new u).scan (operations_so_far lg u) (f u)
    by (inl d) =
        let now : active_of new u ≡ Some k.standing = ap (λ v. find nat_cmp v new.active) d ∙ ap (find nat_cmp t) k.active ∙ find_put_same s.active t k.standing in
        absurd (let rolls : is_rolling new u ≡ true = ap (λ z. (unwrap_or z idle).rolling) now ∙ k.rolls in cc)
    by (inr d) = kept_tale s new lg lg f f u (ap (find nat_cmp u) k.active ∙ find_put_other s.active t u k.standing d) refl refl are r

-- What lines say after a step --

pub given_plain : (w : Tales) (t : ℕ) (said : Op) (a : Reply) (b : Observed) → is_plain a ≡ true → fits a b ≡ true → tales_after w t said b ≡ record { of = with_tale w.of t (tale_after (w.of t) said b); committed = w.committed }
given_plain w t said reply.Committed observed.Committed g f = absurd (cc)
given_plain w t said _ observed.Committed g f = absurd (cc)
given_plain w t said reply.Aborted observed.Aborted g f = absurd (cc)
given_plain w t said _ observed.Aborted g f = absurd (cc)
given_plain w t said (reply.Blocked us) (observed.Blocked named) g f = absurd (cc)
given_plain w t said _ (observed.Blocked named) g f = absurd (cc)
given_plain w t said (reply.Undone n) (observed.Undone m) g f = absurd (cc)
given_plain w t said _ (observed.Undone m) g f = absurd (cc)
given_plain w t said a _ g f = refl

pub given_silent : (w : Tales) (t : ℕ) (said : Op) (a : Reply) (b : Observed) → is_granted a ≡ false → fits a b ≡ true → tales_after w t said b ≡ w
given_silent w t said (reply.Blocked us) (observed.Blocked named) g f = refl
given_silent w t said (reply.Blocked us) _ g f = absurd (cc)
given_silent w t said (reply.Refused r) _ g f = absurd (cc)
given_silent w t said _ b g f = absurd (cc)

pub given_committed : (b : Observed) → fits reply.Committed b ≡ true → b ≡ observed.Committed
given_committed observed.Committed f = refl
given_committed _ f = absurd (cc)

pub given_aborted : (b : Observed) → fits reply.Aborted b ≡ true → b ≡ observed.Aborted
given_aborted observed.Aborted f = refl
given_aborted _ f = absurd (cc)

pub given_undone : (w : Tales) (t : ℕ) (said : Op) (n : ℕ) (b : Observed) → fits (reply.Undone n) b ≡ true → tales_after w t said b ≡ w
given_undone w t said n (observed.Undone m) f = refl
given_undone w t said n _ f = absurd (cc)

-- A step whose reply was given.
module _ (p : Protocol) (s : State) (lg : Log) (w : Tales) (t : ℕ) (said o : Op) (a : Reply) (new : State) (b : Observed)
    (is : ◌≡◌ {A = Outcome} (a, new) (step p s t o)) (k : IsGivenOf s lg w) (say : IsSaid said o (standing s t).scan) (f : fits a b ≡ true) where
  given_granted : IsGranted s t o a new → IsGivenOf new (logged lg (event t o, a)) (tales_after w t said b)
  given_granted g =
      let plain = adds_plain t o a g.adds.logs in
      let here = plain_tale p s t said (operations_so_far lg t) (w.of t) b o a new is plain say f (k.tales t g.unrolled) in
      let x = tale_after (w.of t) said b in
      subst (λ z. IsGivenOf new (logged lg (event t o, a)) z) (sym (given_plain w t said a b plain f)) record {
        tales = granted_tales s new lg w.of (with_tale w.of t x) t o a g k.tales (λ u d. with_other w.of t u x d)
            (subst (λ z. IsTale (standing new t).scan (with_step (operations_so_far lg t) o a) z) (sym (with_same w.of t x)) here);
        committed = subst (λ z. AreProgramsGiven z w.committed) (sym (ap (λ (z : Log). z.committed) (g.adds.logs lg t))) k.committed;
      }

  given_ended : IsEnd s t o a new → IsGivenOf new (logged lg (event t o, a)) (tales_after w t said b)
  given_ended g = by g.kept
    where
      rest : o ≡ op.Commit → a ≡ reply.Committed → (standing s t).scan ≡ None
      rest e c = rests p s t o (ap is_granted (sym (ap (λ (d : Outcome). d.0) is)) ∙ ap is_granted c) (ap goes_on e)

      by : ((o ≡ op.Commit) × (a ≡ reply.Committed) × (is_rolling s t ≡ false)) ⊎ (a ≡ reply.Aborted) → IsGivenOf new (logged lg (event t o, a)) (tales_after w t said b)
      by (inl h) =
          let q : Program = record { txn = t; operations = operations_so_far lg t } in
          let given_is = given_committed b (sym (ap (λ z. fits z b) h.1) ∙ f) in
          subst (λ z. IsGivenOf new (logged lg (event t o, z)) (tales_after w t said b)) (sym h.1)
          (subst (λ z. IsGivenOf new (logged lg (event t o, reply.Committed)) (tales_after w t said z)) (sym given_is) record {
            tales = ended_tales s new lg w.of (with_tale w.of t no_tale) t o a (lg.committed ++ q ∷ []) g k.tales (λ u d. with_other w.of t u no_tale d) (with_same w.of t no_tale);
            committed = one_program_more lg.committed w.committed q (w.of t).done k.committed
                (tale_at (standing s t).scan None (operations_so_far lg t) (w.of t) (rest h.0 h.1) (k.tales t h.2)).0;
          })
      by (inr h) =
          let given_is = given_aborted b (sym (ap (λ z. fits z b) h) ∙ f) in
          subst (λ z. IsGivenOf new (logged lg (event t o, z)) (tales_after w t said b)) (sym h)
          (subst (λ z. IsGivenOf new (logged lg (event t o, reply.Aborted)) (tales_after w t said z)) (sym given_is) record {
            tales = ended_tales s new lg w.of (with_tale w.of t no_tale) t o a lg.committed g k.tales (λ u d. with_other w.of t u no_tale d) (with_same w.of t no_tale);
            committed = k.committed;
          })

  pub step_given : IsGivenOf new (logged lg (event t o, a)) (tales_after w t said b)
  step_given = by (kind_of p s t o a new (inl is))
    where
      by : Kind s t o a new → IsGivenOf new (logged lg (event t o, a)) (tales_after w t said b)
      by (inl g) =
          subst (λ z. IsGivenOf z (logged lg (event t o, a)) (tales_after w t said b)) (sym g.0)
          (subst (λ z. IsGivenOf s z (tales_after w t said b)) (sym (logged_silent lg (event t o) a g.1))
          (subst (λ z. IsGivenOf s lg z) (sym (given_silent w t said a b g.1 f)) k))
      by (inr (inl g)) = given_granted g
      by (inr (inr (inl g))) = given_ended g
      by (inr (inr (inr g))) =
          subst (λ z. IsGivenOf new (logged lg (event t o, z)) (tales_after w t said b)) (sym g.undone)
          (subst (λ z. IsGivenOf new lg z) (sym (given_undone w t said g.left b (sym (ap (λ z. fits z b) g.undone) ∙ f))) record {
            tales = back_tales s new lg w.of t o a g k.tales;
            committed = k.committed;
          })

-- A scan that goes on, of which lines say nothing.
pub passed_given : (p : Protocol) (s : State) (lg : Log) (w : Tales) (t : ℕ) (o : Op) (n : ℕ) (new : State) → ◌≡◌ {A = Outcome} (reply.Going n, new) (step p s t o) → IsGivenOf s lg w
    → IsGivenOf new (logged lg (event t o, reply.Going n)) w
passed_given p s lg w t o n new is k = by (kind_of p s t o (reply.Going n) new (inl is))
  where
    left : GoesOn (standing s t).scan o n (standing new t).scan
    left = subst (λ (d : Outcome). Leaves s t o d.0 d.1) (sym is) (step_leaves p s t o)

    by : Kind s t o (reply.Going n) new → IsGivenOf new (logged lg (event t o, reply.Going n)) w
    by (inl g) = absurd (let no : true ≡ false = g.1 in cc)
    by (inr (inl g)) = record {
      tales = granted_tales s new lg w.of w.of t o (reply.Going n) g k.tales (λ u d. refl) (passed_tale p s t o n new (operations_so_far lg t) (w.of t) is left (k.tales t g.unrolled));
      committed = subst (λ z. AreProgramsGiven z w.committed) (sym (ap (λ (z : Log). z.committed) (g.adds.logs lg t))) k.committed;
    }
    by (inr (inr (inl g))) = ended g.kept
      where
        ended : ((o ≡ op.Commit) × (reply.Going n ≡ reply.Committed) × (is_rolling s t ≡ false)) ⊎ (reply.Going n ≡ reply.Aborted) → IsGivenOf new (logged lg (event t o, reply.Going n)) w
        ended (inl h) = absurd (let never : reply.Going n ≡ reply.Committed = h.1 in cc)
        ended (inr h) = absurd (cc)
    by (inr (inr (inr g))) = absurd (let no : reply.Going n ≡ reply.Undone g.left = g.undone in cc)
