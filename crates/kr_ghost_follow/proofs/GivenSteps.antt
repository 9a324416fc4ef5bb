-- What lines say of the transactions of a run with purges beside its log.
use Rattle.std.specs.Prelude.{◌≡◌, ℕ, true, false, not, ◌==◌, if◌then◌else◌, List, [], ◌∷◌, ◌++◌, Option, None, filter, unwrap_or, refl, ◌⊎◌}
use Rattle.std.specs.Ordering.{nat_cmp}
use Rattle.std.specs.FinMap.{find}
use Rattle.std.proofs.Common.{sym, ◌∙◌, ap, subst, inl, inr}
use Rattle.std.proofs.lemmas.Bool.{cases_eq}
use Rattle.kr_model.specs.declared.Op.{Op}
use Rattle.kr_model.specs.declared.Op.TheVariants as op
use Rattle.kr_model.specs.declared.Reply.{Reply}
use Rattle.kr_model.specs.declared.Reply.TheVariants as reply
use Rattle.kr_model.specs.Log.{Log, operations_so_far, with_step, logged}
use Rattle.kr_model.specs.Run.{Answered, Program, is_granted}
use Rattle.kr_model.specs.State.{Scan, State, idle, active_of, standing, is_rolling}
use Rattle.kr_model.specs.Step.{goes_on}
use Rattle.kr_model.proofs.Actives.{tied, find_put_same, find_put_other, find_filter, find_filter_other}
use Rattle.kr_model.proofs.KindsOfSteps.{IsGranted, IsEnd, IsBack, Kind}
use Rattle.kr_model.proofs.LogReads.{event}
use Rattle.kr_model.proofs.LogSteps.{logged_silent}
use Rattle.kr_ghost.specs.Protocol.{GhostProtocol}
use Rattle.kr_ghost.specs.State.{GhostState}
use Rattle.kr_ghost.specs.Step.{Outcome, step}
use Rattle.kr_ghost_run.proofs.StepKinds.{kind_of}
use Rattle.kr_trace_lines.specs.declared.observed.Observed.{Observed}
use Rattle.kr_trace_lines.specs.Fits.{fits}
use Rattle.kr_trace_follow.specs.declared.scans.Progress.{Progress}
use Rattle.kr_trace_follow.specs.Programs.{Tale, Tales, no_tale, tale_after, tales_after, with_tale}
use Rattle.kr_trace_follow.specs.Scans.{noted_after, noted_of}
use Rattle.kr_trace_follow.proofs.ScanLaws.{forgot_same, other_noted}
use Rattle.kr_trace_follow.proofs.ScanSteps.{others_stand}
use Rattle.kr_trace_follow.proofs.StepReplies.{adds_plain, is_plain, plain_granted}
use Rattle.kr_trace_follow.proofs.TaleRuns.{given_aborted, given_committed, given_plain, given_silent, given_undone, with_other, with_same}
use Rattle.kr_ghost_follow.proofs.GivenTales.{AreProgramsGiven, IsTale, none_given, one_program_more, scan_begun, scan_gone, tale_at}
use Rattle.kr_ghost_follow.proofs.StepLeaves.{IsOfScan, Leaves, LeavesBy, rests, step_leaves}
use Rattle.kr_ghost_follow.proofs.GivenScans.{IsNoted, IsSaid, both_noted, none_noted, now_gone, now_scan, own_noted, plain_tale, said_same, silent_noted, some_noted}

-- Transactions of a run --

-- What lines say of each transaction that doesn't roll back is what it did, each scan in progress is noted, and what they say of the programs that committed is what those did.
pub record IsGivenOf (s : State) (xs : List Progress) (lg : Log) (w : Tales) : Type 0 where
  pub noted : (u : ℕ) → IsNoted (standing s u).scan (noted_of xs u)
  pub tales : (u : ℕ) → is_rolling s u ≡ false → IsTale (noted_of xs u) (operations_so_far lg u) (w.of u)
  pub committed : AreProgramsGiven lg.committed w.committed

other_logged : (lg : Log) (t u : ℕ) (o : Op) (a : Reply) → (u ≡ t → ⊥) → operations_so_far (logged lg (event t o, a)) u ≡ operations_so_far lg u
other_logged lg t u o reply.Committed d = ap (λ z. unwrap_or z []) (find_filter_other lg.unfinished t u d)
other_logged lg t u o reply.Aborted d = ap (λ z. unwrap_or z []) (find_filter_other lg.unfinished t u d)
other_logged lg t u o (reply.Blocked us) d = refl
other_logged lg t u o (reply.Refused r) d = refl
other_logged lg t u o (reply.Undone n) d = refl
other_logged lg t u o a d = ap (λ z. unwrap_or z []) (find_put_other lg.unfinished t u (with_step (operations_so_far lg t) o a) d)

ended_tale_is : (n : Option Progress) (os : List Answered) (x : Tale) → n ≡ None → os ≡ [] → x ≡ no_tale → IsTale n os x
ended_tale_is n os x e f g = subst (λ z. IsTale z os x) (sym e) (subst (λ z. IsTale None z x) (sym f) (subst (λ z. IsTale None [] z) (sym g) (none_given, refl)))

-- A step of t with its reply.
module _ (p : GhostProtocol) (s : GhostState) (xs : List Progress) (lg : Log) (w : Tales) (t : ℕ) (o : Op) (a : Reply) (new : GhostState)
    (is : ◌≡◌ {A = Outcome} (a, new) (step p s t o)) (k : IsGivenOf s.state xs lg w) where
  abbrev ys : List Progress
  ys = noted_after xs t o a

  abbrev now : Log
  now = logged lg (event t o, a)

  kind : Kind s.state t o a new.state
  kind = subst (λ (d : Outcome). Kind s.state t o d.0 d.1.state) (sym is) (kind_of p s t o)

  left : Leaves s t o a new
  left = subst (λ (d : Outcome). LeavesBy s t o d) (sym is) (step_leaves p s t o)

  -- Where the other transactions have the tales that they had.
  stepped : (v : Tales) → ((u : ℕ) → (u ≡ t → ⊥) → v.of u ≡ w.of u) → (is_rolling new.state t ≡ false → IsTale (noted_of ys t) (operations_so_far now t) (v.of t)) → AreProgramsGiven now.committed v.committed
      → IsGivenOf new.state ys now v
  stepped v same own done = record {
    noted = λ u. noted_by u (cases_eq u t);
    tales = λ u r. tale_by u r (cases_eq u t);
    committed = done;
  }
    where
      others : (u : ℕ) → (u ≡ t → ⊥) → active_of new.state u ≡ active_of s.state u
      others u d = others_stand s.state t u o a new.state d kind

      noted_by : (u : ℕ) → (u ≡ t) ⊎ (u ≡ t → ⊥) → IsNoted (standing new.state u).scan (noted_of ys u)
      noted_by u (inl d) = subst (λ z. IsNoted (standing new.state z).scan (noted_of ys z)) (sym d) (own_noted s xs t o a new (k.noted t) left)
      noted_by u (inr d) =
          both_noted (standing new.state u).scan (standing s.state u).scan (noted_of ys u) (noted_of xs u) (ap (λ x. (unwrap_or x idle).scan) (others u d)) (other_noted xs t u o a d) (k.noted u)

      tale_by : (u : ℕ) → is_rolling new.state u ≡ false → (u ≡ t) ⊎ (u ≡ t → ⊥) → IsTale (noted_of ys u) (operations_so_far now u) (v.of u)
      tale_by u r (inl d) = subst (λ z. IsTale (noted_of ys z) (operations_so_far now z) (v.of z)) (sym d) (own (ap (is_rolling new.state) (sym d) ∙ r))
      tale_by u r (inr d) =
          subst (λ z. IsTale z (operations_so_far now u) (v.of u)) (sym (other_noted xs t u o a d))
          (subst (λ z. IsTale (noted_of xs u) z (v.of u)) (sym (other_logged lg t u o a d))
          (subst (λ z. IsTale (noted_of xs u) (operations_so_far lg u) z) (sym (same u d))
          (k.tales u (sym (ap (λ z. (unwrap_or z idle).rolling) (others u d)) ∙ r))))

  ops : IsGranted s.state t o a new.state → operations_so_far now t ≡ with_step (operations_so_far lg t) o a
  ops g = ap (λ z. operations_so_far z t) (g.adds.logs lg t) ∙ ap (λ z. unwrap_or z []) (find_put_same lg.unfinished t (with_step (operations_so_far lg t) o a))

  kept_programs : IsGranted s.state t o a new.state → AreProgramsGiven now.committed w.committed
  kept_programs g = subst (λ z. AreProgramsGiven z w.committed) (sym (ap (λ (z : Log). z.committed) (g.adds.logs lg t))) k.committed

  -- A step of a scan of which lines say nothing.
  pub untold : is_plain a ≡ true → (IsTale (noted_of xs t) (operations_so_far lg t) (w.of t) → IsTale (noted_of ys t) (with_step (operations_so_far lg t) o a) (w.of t)) → IsGivenOf new.state ys now w
  untold plain own = by kind
    where
      by : Kind s.state t o a new.state → IsGivenOf new.state ys now w
      by (inl g) = absurd (let yes = plain_granted a plain in let no : is_granted a ≡ false = g.1 in cc)
      by (inr (inl g)) = stepped w (λ u d. refl) (λ r. subst (λ z. IsTale (noted_of ys t) z (w.of t)) (sym (ops g)) (own (k.tales t g.unrolled))) (kept_programs g)
      by (inr (inr (inl g))) = ended g.kept
        where
          ended : ((o ≡ op.Commit) × (a ≡ reply.Committed) × (is_rolling s.state t ≡ false)) ⊎ (a ≡ reply.Aborted) → IsGivenOf new.state ys now w
          ended (inl h) = absurd (let no : is_plain a ≡ false = ap is_plain h.1 in cc)
          ended (inr h) = absurd (let no : is_plain a ≡ false = ap is_plain h in cc)
      by (inr (inr (inr g))) = absurd (let no : is_plain a ≡ false = ap is_plain g.undone in cc)

  module _ (said : Op) (b : Observed) (say : IsSaid said o (noted_of xs t)) (f : fits a b ≡ true) where
    given_granted : IsGranted s.state t o a new.state → IsGivenOf new.state ys now (tales_after w t said b)
    given_granted g =
        let plain = adds_plain t o a g.adds.logs in
        let x = tale_after (w.of t) said b in
        let here = plain_tale p s xs t said (operations_so_far lg t) (w.of t) b (k.noted t) o a new is plain say f (k.tales t g.unrolled) in
        subst (λ z. IsGivenOf new.state ys now z) (sym (given_plain w t said a b plain f))
        (stepped (record { of = with_tale w.of t x; committed = w.committed }) (λ u d. with_other w.of t u x d)
        (λ r. subst (λ z. IsTale (noted_of ys t) z (with_tale w.of t x t)) (sym (ops g)) (subst (λ z. IsTale (noted_of ys t) (with_step (operations_so_far lg t) o a) z) (sym (with_same w.of t x)) here))
        (kept_programs g))

    given_ended : IsEnd s.state t o a new.state → IsGivenOf new.state ys now (tales_after w t said b)
    given_ended g = by g.kept
      where
        gone : {X : Type 0} (es : List (ℕ × X)) → find nat_cmp t (filter (λ e. not (e.0 == t)) es) ≡ None
        gone es = find_filter es t t ∙ ap (λ c. if not c then find nat_cmp t es else None) (tied t)

        by : ((o ≡ op.Commit) × (a ≡ reply.Committed) × (is_rolling s.state t ≡ false)) ⊎ (a ≡ reply.Aborted) → IsGivenOf new.state ys now (tales_after w t said b)
        by (inl h) =
            let q : Program = record { txn = t; operations = operations_so_far lg t } in
            let rest = rests p s t o (ap is_granted (sym (ap (λ (d : Outcome). d.0) is)) ∙ ap is_granted h.1) (ap goes_on h.0) in
            let none = none_noted (standing s.state t).scan (noted_of xs t) rest (k.noted t) in
            subst (λ z. IsGivenOf new.state ys now (tales_after w t said z)) (sym (given_committed b (sym (ap (λ z. fits z b) h.1) ∙ f)))
            (stepped (record { of = with_tale w.of t no_tale; committed = w.committed ++ (w.of t).done ∷ [] }) (λ u d. with_other w.of t u no_tale d)
            (λ r. ended_tale_is (noted_of ys t) (operations_so_far now t) (with_tale w.of t no_tale t)
            (ap (λ z. noted_of (noted_after xs t o z) t) h.1 ∙ forgot_same xs t)
            (ap (λ z. operations_so_far (logged lg (event t o, z)) t) h.1 ∙ ap (λ z. unwrap_or z []) (gone lg.unfinished)) (with_same w.of t no_tale))
            (subst (λ z. AreProgramsGiven (logged lg (event t o, z)).committed (w.committed ++ (w.of t).done ∷ [])) (sym h.1)
            (one_program_more lg.committed w.committed q (w.of t).done k.committed (tale_at (noted_of xs t) None (operations_so_far lg t) (w.of t) none (k.tales t h.2)).0)))
        by (inr h) =
            subst (λ z. IsGivenOf new.state ys now (tales_after w t said z)) (sym (given_aborted b (sym (ap (λ z. fits z b) h) ∙ f)))
            (stepped (record { of = with_tale w.of t no_tale; committed = w.committed }) (λ u d. with_other w.of t u no_tale d)
            (λ r. ended_tale_is (noted_of ys t) (operations_so_far now t) (with_tale w.of t no_tale t)
            (ap (λ z. noted_of (noted_after xs t o z) t) h ∙ forgot_same xs t)
            (ap (λ z. operations_so_far (logged lg (event t o, z)) t) h ∙ ap (λ z. unwrap_or z []) (gone lg.unfinished)) (with_same w.of t no_tale))
            (subst (λ z. AreProgramsGiven (logged lg (event t o, z)).committed w.committed) (sym h) k.committed))

    given_back : IsBack s.state t o a new.state → IsGivenOf new.state ys now (tales_after w t said b)
    given_back g =
        let rolls : is_rolling new.state t ≡ true = ap (λ z. (unwrap_or z idle).rolling) (ap (find nat_cmp t) g.active ∙ find_put_same s.state.active t g.standing) ∙ g.rolls in
        subst (λ z. IsGivenOf new.state ys now z) (sym (given_undone w t said g.left b (sym (ap (λ z. fits z b) g.undone) ∙ f)))
        (stepped w (λ u d. refl) (λ r. absurd (cc)) (subst (λ z. AreProgramsGiven (logged lg (event t o, z)).committed w.committed) (sym g.undone) k.committed))

    -- A step whose reply was given.
    pub step_given : IsGivenOf new.state ys now (tales_after w t said b)
    step_given = by kind
      where
        by : Kind s.state t o a new.state → IsGivenOf new.state ys now (tales_after w t said b)
        by (inl g) =
            subst (λ z. IsGivenOf z ys now (tales_after w t said b)) (sym g.0)
            (subst (λ z. IsGivenOf s.state z now (tales_after w t said b)) (sym (silent_noted xs t o a g.1))
            (subst (λ z. IsGivenOf s.state xs z (tales_after w t said b)) (sym (logged_silent lg (event t o) a g.1))
            (subst (λ z. IsGivenOf s.state xs lg z) (sym (given_silent w t said a b g.1 f)) k)))
        by (inr (inl g)) = given_granted g
        by (inr (inr (inl g))) = given_ended g
        by (inr (inr (inr g))) = given_back g

-- A part that is read is one of a transaction that doesn't roll back, and has no scan in progress.
pub unrolled_before : (p : GhostProtocol) (s : GhostState) (xs : List Progress) (lg : Log) (w : Tales) (t lo hi : ℕ) (rows : List (ℕ × ℕ)) (new : GhostState) → ◌≡◌ {A = Outcome} (reply.Rows rows, new) (step p s t (op.Scan lo hi))
    → IsGivenOf s.state xs lg w → (is_rolling s.state t ≡ false) × (noted_of xs t ≡ None)
unrolled_before p s xs lg w t lo hi rows new is k = (
  by (subst (λ (d : Outcome). Kind s.state t (op.Scan lo hi) d.0 d.1.state) (sym is) (kind_of p s t (op.Scan lo hi))),
  none_noted (standing s.state t).scan (noted_of xs t) (rests p s t (op.Scan lo hi) (ap is_granted (sym (ap (λ (d : Outcome). d.0) is))) refl) (k.noted t),
)
  where
    by : Kind s.state t (op.Scan lo hi) (reply.Rows rows) new.state → is_rolling s.state t ≡ false
    by (inl g) = absurd (let no : true ≡ false = g.1 in cc)
    by (inr (inl g)) = g.unrolled
    by (inr (inr (inl g))) = ended g.kept
      where
        ended : ((op.Scan lo hi ≡ op.Commit) × (reply.Rows rows ≡ reply.Committed) × (is_rolling s.state t ≡ false)) ⊎ (reply.Rows rows ≡ reply.Aborted) → is_rolling s.state t ≡ false
        ended (inl h) = h.2
        ended (inr h) = absurd (cc)
    by (inr (inr (inr g))) = absurd (let no : reply.Rows rows ≡ reply.Undone g.left = g.undone in cc)

-- One that goes on with its scan.
pub passed_given : (p : GhostProtocol) (s : GhostState) (xs : List Progress) (lg : Log) (w : Tales) (t : ℕ) (o : Op) (n : ℕ) (new : GhostState) → ◌≡◌ {A = Outcome} (reply.Going n, new) (step p s t o) → IsGivenOf s.state xs lg w
    → IsGivenOf new.state (noted_after xs t o (reply.Going n)) (logged lg (event t o, reply.Going n)) w
passed_given p s xs lg w t o n new is k = untold p s xs lg w t o (reply.Going n) new is k refl (by o is left.0)
  where
    left : Leaves s t o (reply.Going n) new
    left = subst (λ (d : Outcome). LeavesBy s t o d) (sym is) (step_leaves p s t o)

    x : Tale
    x = w.of t

    by : (q : Op) → ◌≡◌ {A = Outcome} (reply.Going n, new) (step p s t q) → IsOfScan (standing s.state t).scan q → IsTale (noted_of xs t) (operations_so_far lg t) x
        → IsTale (noted_of (noted_after xs t q (reply.Going n)) t) (with_step (operations_so_far lg t) q (reply.Going n)) x
    by (op.Scan lo hi) e scans h =
        let none = none_noted (standing s.state t).scan (noted_of xs t) (rests p s t (op.Scan lo hi) (ap is_granted (sym (ap (λ (d : Outcome). d.0) e))) refl) (k.noted t) in
        scan_begun (noted_of xs t) (noted_of (noted_after xs t (op.Scan lo hi) (reply.Going n)) t) (operations_so_far lg t) x (reply.Going n) (record { txn = t; lo = lo; hi = hi; read = n }) x.scan none (now_scan xs t lo hi n)
        (inl (tale_at (noted_of xs t) None (operations_so_far lg t) x none h).1) h
    by op.Go e scans h =
        let c = some_noted scans.0 (standing s.state t).scan (noted_of xs t) scans.1 (k.noted t) in
        scan_gone (noted_of xs t) (noted_of (noted_after xs t op.Go (reply.Going n)) t) (operations_so_far lg t) x c.0 t n x.scan c.1.0 (now_gone xs t n c.0 c.1.0) (inl refl) h
    by (op.Fetch _) e scans h = absurd scans
    by (op.Insert _ _) e scans h = absurd scans
    by (op.Delete _) e scans h = absurd scans
    by (op.Update _ _) e scans h = absurd scans
    by op.Commit e scans h = absurd scans
    by op.Abort e scans h = absurd scans
    by op.Back e scans h = absurd scans

-- After it the scan that the line says is in progress.
pub said_on : (p : GhostProtocol) (s : GhostState) (xs : List Progress) (t : ℕ) (said o : Op) (n : ℕ) (new : GhostState) → ◌≡◌ {A = Outcome} (reply.Going n, new) (step p s t o) → IsSaid said o (noted_of xs t)
    → IsSaid said op.Go (noted_of (noted_after xs t o (reply.Going n)) t)
said_on p s xs t said o n new is say = by o left.0 say
  where
    left : Leaves s t o (reply.Going n) new
    left = subst (λ (d : Outcome). LeavesBy s t o d) (sym is) (step_leaves p s t o)

    by : (q : Op) → IsOfScan (standing s.state t).scan q → IsSaid said q (noted_of xs t) → IsSaid said op.Go (noted_of (noted_after xs t q (reply.Going n)) t)
    by (op.Scan lo hi) scans say = inr (refl, (record { txn = t; lo = lo; hi = hi; read = n }, (now_scan xs t lo hi n, said_same said (op.Scan lo hi) (noted_of xs t) (λ d. cc) say)))
    by op.Go scans (inl say) = inl say
    by op.Go scans (inr say) = let c : Progress = say.1.0 in inr (refl, (record { txn = t; lo = c.lo; hi = c.hi; read = n }, (now_gone xs t n c say.1.1.0, say.1.1.1)))
    by (op.Fetch _) scans say = absurd scans
    by (op.Insert _ _) scans say = absurd scans
    by (op.Delete _) scans say = absurd scans
    by (op.Update _ _) scans say = absurd scans
    by op.Commit scans say = absurd scans
    by op.Abort scans say = absurd scans
    by op.Back scans say = absurd scans
