-- Laws of the lines since which locks are held.
use Rattle.std.specs.Prelude.{◌≡◌, ℕ, zero, suc, ◌+◌, ◌-◌, ◌<◌, ◌≤◌, Bool, true, false, not, ◌==◌, ◌&&◌, cond, List, [], ◌∷◌, Option, Some, None, is_some, unwrap_or, refl, ◌⊎◌}
use Rattle.std.specs.declared.cmp.Ordering.{Ordering}
use Rattle.std.specs.declared.cmp.Ordering.TheVariants.{Less, Equal, Greater}
use Rattle.std.specs.Ordering.{eq_by_cmp, is_eq}
use Rattle.std.proofs.Common.{sym, ◌∙◌, ap, ap₂, subst, inl, inr, ⊎_elim, arith}
use Rattle.std.proofs.lemmas.Bool.Decides.{nat_tests}
use Rattle.std.proofs.Math.Path.{fun_ext}
use Rattle.std.specs.Cmp.{tied_itself}
use Rattle.std.specs.FinMap.{find}
use Rattle.kr_model.specs.declared.Event.{Event}
use Rattle.kr_model.specs.declared.Name.{Name}
use Rattle.kr_model.specs.declared.Op.{Op}
use Rattle.kr_model.specs.declared.Op.TheVariants as op
use Rattle.kr_model.specs.declared.Plan.{Plan}
use Rattle.kr_model.specs.declared.Refusal.TheVariants as refusal
use Rattle.kr_model.specs.declared.Reply.{Reply}
use Rattle.kr_model.specs.declared.Reply.TheVariants as reply
use Rattle.kr_model.specs.Protocol.{Protocol, IsLawful}
use Rattle.kr_model.specs.Locks.{Locks, Holder, Request, holder_cmp, name_cmp, own}
use Rattle.kr_model.specs.State.{State}
use Rattle.kr_model.specs.Step.{Outcome, IsStep, step}
use Rattle.kr_model.specs.WellFormed.{IsState}
use Rattle.kr_model.proofs.LockLaws.{name_total, name_exact, name_or_not}
use Rattle.kr_model.proofs.Actives.{tied, untied}
use Rattle.kr_model.proofs.Keep.{same, same_holder}
use Rattle.kr_trace_follow.specs.Lines.{Attempt}
use Rattle.kr_trace_follow.specs.Conflicts.{is_behind}
use Rattle.kr_trace_follow.specs.Steps.{is_passed, is_going, attempt_at, after_step, all_steps}
use Rattle.kr_trace_follow.specs.Since.{Since, since_after, since_along, IsSince, with_note, with_change, with_changes, without_notes, own_at, own_at_both, plan_at, has_ended, lines_of, line_of}
use Rattle.kr_trace_follow.proofs.LockSteps.{IsNotOn, Leave, Ends, Left, LeftAfter, step_left}

-- One step --

-- where no lock is held there is no line
after_none : (line : ℕ) (old new : Locks) (f : Since) (t : ℕ) (n : Name) → own new t n ≡ 0 → since_after line old new f t n ≡ 0
after_none line old new f t n e = ap (λ (m : ℕ). cond (m == 0) 0 (cond (m == own old t n) (f t n) line)) e

-- It stays so.
pub since_stays : (line : ℕ) (old new : Locks) (f : Since) → IsSince new (since_after line old new f)
since_stays line old new f t n e = after_none line old new f t n e

zero_or : (m : ℕ) → (m ≡ 0) ⊎ ((m == 0) ≡ false)
zero_or zero = inl refl
zero_or (suc m) = inr (grind (arith, nat_tests))

-- a lock in the same mode keeps its line
after_same : (line : ℕ) (old new : Locks) (f : Since) → IsSince old f → (t : ℕ) (n : Name) → own new t n ≡ own old t n → since_after line old new f t n ≡ f t n
after_same line old new f was t n e = ⊎_elim none some (zero_or (own new t n))
  where
    none : own new t n ≡ 0 → since_after line old new f t n ≡ f t n
    none z = after_none line old new f t n z ∙ sym (was t n (sym e ∙ z))

    some : (own new t n == 0) ≡ false → since_after line old new f t n ≡ f t n
    some b = ap₂ (λ x y. cond x 0 (cond y (f t n) line)) b (ap (λ m. own new t n == m) (sym e) ∙ tied (own new t n))

-- one in another mode is held since this line
after_other : (line : ℕ) (old new : Locks) (f : Since) (t : ℕ) (n : Name) → (own new t n ≡ 0 → own old t n ≡ 0) → (own new t n ≡ own old t n → ⊥) → since_after line old new f t n ≡ line
after_other line old new f t n holds other = ⊎_elim none some (zero_or (own new t n))
  where
    none : own new t n ≡ 0 → since_after line old new f t n ≡ line
    none z = absurd (other (z ∙ sym (holds z)))

    some : (own new t n == 0) ≡ false → since_after line old new f t n ≡ line
    some b = ap₂ (λ x y. cond x 0 (cond y (f t n) line)) b (untied (own new t n) (own old t n) other)

-- Notes --

same_name : (n : Name) → eq_by_cmp name_cmp n n ≡ true
same_name n = ap is_eq (tied_itself name_total n)

equal_of : (o : Ordering) → is_eq o ≡ true → o ≡ Equal
equal_of Less e = absurd (cc)
equal_of Equal e = refl
equal_of Greater e = absurd (cc)

apart : (b : Bool) → (b ≡ true → ⊥) → b ≡ false
apart true h = absurd (h refl)
apart false h = refl

other_name : (m n : Name) → (n ≡ m → ⊥) → eq_by_cmp name_cmp m n ≡ false
other_name m n d = apart (eq_by_cmp name_cmp m n) (λ e. d (sym (name_exact m n (equal_of (name_cmp m n) e))))

-- what is noted of a name that was looked at
note_other_txn : (f : Since) (t : ℕ) (m : Name) (line u : ℕ) (n : Name) → (u ≡ t → ⊥) → with_note f t m line u n ≡ f u n
note_other_txn f t m line u n d = ap (λ b. cond (b && eq_by_cmp name_cmp m n) line (f u n)) (untied u t d)

and_false : (b : Bool) → (b && false) ≡ false
and_false true = refl
and_false false = refl

note_other_name : (f : Since) (t : ℕ) (m : Name) (line u : ℕ) (n : Name) → (n ≡ m → ⊥) → with_note f t m line u n ≡ f u n
note_other_name f t m line u n d = ap (λ b. cond ((u == t) && b) line (f u n)) (other_name m n d) ∙ ap (λ b. cond b line (f u n)) (and_false (u == t))

note_here : (f : Since) (t : ℕ) (line : ℕ) (n : Name) → with_note f t n line t n ≡ line
note_here f t line n = ap₂ (λ a b. cond (a && b) line (f t n)) (tied t) (same_name n)

-- What a look at a request leaves: another transaction's line, that of a name that it isn't on, and that of a name with the same mode stay.
change_other_txn : (line : ℕ) (old new : Locks) (t : ℕ) (c : Option Request) (f : Since) (u : ℕ) (n : Name) → (u ≡ t → ⊥) → with_change line new t (own_at old t c) f u n ≡ f u n
change_other_txn line old new t None f u n d = refl
change_other_txn line old new t (Some r) f u n d = by (own new t r.0 == own old t r.0)
  where
    by : (b : Bool) → cond b f (with_note f t r.0 line) u n ≡ f u n
    by true = refl
    by false = note_other_txn f t r.0 line u n d

change_other_name : (line : ℕ) (old new : Locks) (t : ℕ) (c : Option Request) (f : Since) (u : ℕ) (n : Name) → IsNotOn n c → with_change line new t (own_at old t c) f u n ≡ f u n
change_other_name line old new t None f u n d = refl
change_other_name line old new t (Some r) f u n d = by (own new t r.0 == own old t r.0)
  where
    by : (b : Bool) → cond b f (with_note f t r.0 line) u n ≡ f u n
    by true = refl
    by false = note_other_name f t r.0 line u n d

change_same : (line : ℕ) (old new : Locks) (t : ℕ) (c : Option Request) (f : Since) (u : ℕ) (n : Name) → own new t n ≡ own old t n → with_change line new t (own_at old t c) f u n ≡ f u n
change_same line old new t None f u n e = refl
change_same line old new t (Some r) f u n e = ⊎_elim here away (name_or_not n r.0)
  where
    here : n ≡ r.0 → with_change line new t (own_at old t (Some r)) f u n ≡ f u n
    here same =
        let equal : own new t r.0 ≡ own old t r.0 = subst (λ z. own new t z ≡ own old t z) same e in
        ap (λ b. cond b f (with_note f t r.0 line) u n) (ap (λ m. own new t r.0 == m) (sym equal) ∙ tied (own new t r.0))

    away : (n ≡ r.0 → ⊥) → with_change line new t (own_at old t (Some r)) f u n ≡ f u n
    away d = change_other_name line old new t (Some r) f u n d

-- that of a name with another mode, which it is on, is this line
change_here : (line : ℕ) (old new : Locks) (t : ℕ) (r : Request) (f : Since) (n : Name) → n ≡ r.0 → (own new t n ≡ own old t n → ⊥) → with_change line new t (own_at old t (Some r)) f t n ≡ line
change_here line old new t r f n same d =
    ap (λ b. cond b f (with_note f t r.0 line) t n) (untied (own new t r.0) (own old t r.0) (subst (λ z. own new t z ≡ own old t z → ⊥) same d))
    ∙ ap (λ z. with_note f t z line t n) (sym same) ∙ note_here f t line n

-- and this line stays
change_keeps : (line : ℕ) (old new : Locks) (t : ℕ) (c : Option Request) (f : Since) (n : Name) → f t n ≡ line → with_change line new t (own_at old t c) f t n ≡ line
change_keeps line old new t None f n e = e
change_keeps line old new t (Some r) f n e = by (own new t r.0 == own old t r.0)
  where
    noted : (d : Bool) → cond d line (f t n) ≡ line
    noted true = refl
    noted false = e

    by : (b : Bool) → cond b f (with_note f t r.0 line) t n ≡ line
    by true = e
    by false = noted ((t == t) && eq_by_cmp name_cmp r.0 n)

-- A step --

-- Whether two numbers are the same.
pub same_or : (a b : ℕ) → (a ≡ b) ⊎ (a ≡ b → ⊥)
same_or a b = grind arith

-- a request is on a name, or it isn't
is_on_or : (n : Name) (c : Option Request) → ((r : Request) × (c ≡ Some r) × (n ≡ r.0)) ⊎ IsNotOn n c
is_on_or n None = inr tt
is_on_or n (Some r) = ⊎_elim (λ e. inl (r, refl, e)) (λ d. inr d) (name_or_not n r.0)

module _ (line : ℕ) (old new : Locks) (t : ℕ) (c x : Option Request) (f : Since) (was : IsSince old f) (left : Leave old new t c x) where
  -- the notes after a look at both requests
  abbrev looked : Since
  looked = with_change line new t (own_at old t x) (with_change line new t (own_at old t c) f)

  looked_other : (u : ℕ) (n : Name) → (u ≡ t → ⊥) → looked u n ≡ since_after line old new f u n
  looked_other u n d =
      change_other_txn line old new t x (with_change line new t (own_at old t c) f) u n d ∙ change_other_txn line old new t c f u n d
      ∙ sym (after_same line old new f was u n (left.others u n d))

  looked_same : (n : Name) → own new t n ≡ own old t n → looked t n ≡ since_after line old new f t n
  looked_same n e =
      change_same line old new t x (with_change line new t (own_at old t c) f) t n e ∙ change_same line old new t c f t n e
      ∙ sym (after_same line old new f was t n e)

  looked_changed : (n : Name) → (own new t n ≡ own old t n → ⊥) → looked t n ≡ line
  looked_changed n d = ⊎_elim first (λ away. ⊎_elim second (λ no. absurd (d (left.same n away no))) (is_on_or n x)) (is_on_or n c)
    where
      first : ((r : Request) × (c ≡ Some r) × (n ≡ r.0)) → looked t n ≡ line
      first (r, e, on) =
          change_keeps line old new t x (with_change line new t (own_at old t c) f) n
          (ap (λ z. with_change line new t (own_at old t z) f t n) e ∙ change_here line old new t r f n on d)

      second : ((r : Request) × (x ≡ Some r) × (n ≡ r.0)) → looked t n ≡ line
      second (r, e, on) =
          let g : Since = with_change line new t (own_at old t c) f in
          ap (λ z. with_change line new t (own_at old t z) g t n) e ∙ change_here line old new t r g n on d

  looked_mine : (n : Name) → looked t n ≡ since_after line old new f t n
  looked_mine n =
      ⊎_elim (looked_same n) (λ d. looked_changed n d ∙ sym (after_other line old new f t n (left.holds n) d)) (same_or (own new t n) (own old t n))

  looked_is : (u : ℕ) (n : Name) → looked u n ≡ since_after line old new f u n
  looked_is u n = ⊎_elim (λ e. subst (λ z. looked z n ≡ since_after line old new f z n) (sym e) (looked_mine n)) (looked_other u n) (same_or u t)

ended_is : (line : ℕ) (old new : Locks) (t : ℕ) (f : Since) → IsSince old f → Ends old new t → (u : ℕ) (n : Name) → without_notes f t u n ≡ since_after line old new f u n
ended_is line old new t f was left u n = ⊎_elim mine other (same_or u t)
  where
    mine : u ≡ t → without_notes f t u n ≡ since_after line old new f u n
    mine e =
        ap (λ b. cond b 0 (f u n)) (ap (λ z. z == t) e ∙ tied t)
        ∙ sym (after_none line old new f u n (ap (λ z. own new z n) e ∙ left.none n))

    other : (u ≡ t → ⊥) → without_notes f t u n ≡ since_after line old new f u n
    other d = ap (λ b. cond b 0 (f u n)) (untied u t d) ∙ sym (after_same line old new f was u n (left.others u n d))

noted_by : (line : ℕ) (old new : Locks) (t : ℕ) (plan : Option Plan) (ends : Bool) (f : Since) → IsSince old f → Left old new t plan ends
    → with_changes line new t (own_at_both old t plan) ends f ≡ since_after line old new f
noted_by line old new t plan true f was left = fun_ext (λ u. fun_ext (λ n. ended_is line old new t f was left u n))
noted_by line old new t None false f was left = fun_ext (λ u. fun_ext (λ n. looked_is line old new t None None f was left u n))
noted_by line old new t (Some plan) false f was left = fun_ext (λ u. fun_ext (λ n. looked_is line old new t plan.current plan.next f was left u n))

-- What is noted after a step is since which lines locks are held after it.
noted_step : (p : Protocol) → IsLawful p → (s : State) (t : ℕ) (o : Op) (line : ℕ) (f : Since) (r : Reply) (new : State) → IsState p s → IsSince s.locks f → ◌≡◌ {A = Outcome} (r, new) (step p s t o)
    → with_changes line new.locks t (own_at_both s.locks t (plan_at p s t o)) (has_ended r) f ≡ since_after line s.locks new.locks f
noted_step p laws s t o line f r new is was done =
    noted_by line s.locks new.locks t (plan_at p s t o) (has_ended r) f was (subst (λ z. LeftAfter s t (plan_at p s t o) z) (sym done) (step_left p laws s t is o))

-- The same of a step that memory wasn't refused to.
pub since_stepped : (p : Protocol) → IsLawful p → (s : State) (t : ℕ) (o : Op) (line : ℕ) (f : Since) (r : Reply) (new : State) → IsState p s → IsSince s.locks f → IsStep p s t o r new → (r ≡ reply.Refused refusal.Memory → ⊥)
    → with_changes line new.locks t (own_at_both s.locks t (plan_at p s t o)) (has_ended r) f ≡ since_after line s.locks new.locks f
since_stepped p laws s t o line f r new is was (inl e) had = noted_step p laws s t o line f r new is was e
since_stepped p laws s t o line f r new is was (inr m) had = absurd (had m.0)

-- Lists --

-- The line that is listed, where a lock is held.
pub listed : (h : Locks) (f : Since) (t : ℕ) (n : Name) → line_of (lines_of h f) t n ≡ cond (is_some (find holder_cmp (n, t) h)) (f t n) 0
listed [] f t n = refl
listed (l ∷ ls) f t n = by (same (n, t) l.0) refl (listed ls f t n)
  where
    by : (b : Bool) → same (n, t) l.0 ≡ b → line_of (lines_of ls f) t n ≡ cond (is_some (find holder_cmp (n, t) ls)) (f t n) 0
        → unwrap_or (cond b (Some (f l.0.1 l.0.0)) (find holder_cmp (n, t) (lines_of ls f))) 0 ≡ cond (is_some (cond b (Some l.1) (find holder_cmp (n, t) ls))) (f t n) 0
    by true e rest = ap (λ (k : Holder). f k.1 k.0) (sym (same_holder (n, t) l.0 e))
    by false e rest = rest

listed_by : (x : Option ℕ) (line : ℕ) → (unwrap_or x 0 ≡ 0 → line ≡ 0) → cond (is_some x) line 0 ≡ line
listed_by None line none = sym (none refl)
listed_by (Some m) line none = refl

-- Each line is listed.
pub lines_back : (h : Locks) (f : Since) → IsSince h f → line_of (lines_of h f) ≡ f
lines_back h f is = fun_ext (λ t. fun_ext (λ n. listed h f t n ∙ listed_by (find holder_cmp (n, t) h) (f t n) (is t n)))

-- The steps of a line --

not_behind : (b g : Bool) → (not b && g) ≡ true → b ≡ false
not_behind true g e = absurd (cc)
not_behind false g e = refl

-- the event of a step
abbrev event_of : ℕ → Attempt → Event
event_of t a = record { txn = t; op = a.op }

-- Of a step that isn't done there is none.
pub since_waits : (p : Protocol) (queue : Locks) (t line : ℕ) (a : Attempt) (f : Since) → is_behind p queue t a ≡ true → since_along p line a.before (all_steps p queue t 0 a) f ≡ f
since_waits p queue t line a f behind = ap (λ b. since_along p line a.before (cond b [] (event_of t a ∷ [])) f) behind

-- Of one that is done there is itself.
pub since_done : (p : Protocol) (queue : Locks) (t line : ℕ) (a : Attempt) (f : Since) → is_behind p queue t a ≡ false
    → since_along p line a.before (all_steps p queue t 0 a) f ≡ since_after line a.before.locks (let new = after_step p t a in new.locks) f
since_done p queue t line a f behind = ap (λ b. since_along p line a.before (cond b [] (event_of t a ∷ [])) f) behind

-- A scan that goes on has those that follow behind its first step.
pub goes_since : (p : Protocol) (queue : Locks) (t n k line : ℕ) (a : Attempt) (new : State) (f now : Since) → k < n → is_passed p queue t a ≡ true → new ≡ after_step p t a
    → now ≡ since_along p line a.before (all_steps p queue t 0 a) f
    → since_along p line new (all_steps p queue t (n - (k + 1)) (attempt_at new op.Go)) now ≡ since_along p line a.before (all_steps p queue t (n - k) a) f
goes_since p queue t n k line a new f now lt passed is noted =
    let more : n - k ≡ suc (n - (k + 1)) = omega arith in
    let behind : is_behind p queue t a ≡ false = not_behind (is_behind p queue t a) (is_going (step p a.before t a.op).0) passed in
    let next : State = after_step p t a in
    let rest : List Event = all_steps p queue t (n - (k + 1)) (attempt_at next op.Go) in
    ap₂ (λ (s : State) (g : Since). since_along p line s (all_steps p queue t (n - (k + 1)) (attempt_at s op.Go)) g) is (noted ∙ since_done p queue t line a f behind)
    ∙ sym (ap (λ j. since_along p line a.before (all_steps p queue t j a) f) more
    ∙ ap₂ (λ b g. since_along p line a.before (cond b [] (event_of t a ∷ cond g rest [])) f) behind passed)

-- One that doesn't go on has no more.
pub stops_since : (p : Protocol) (queue : Locks) (t n k line : ℕ) (a : Attempt) (f : Since) → k < n → is_passed p queue t a ≡ false
    → since_along p line a.before (all_steps p queue t (n - k) a) f ≡ since_along p line a.before (all_steps p queue t 0 a) f
stops_since p queue t n k line a f lt stops =
    let more : n - k ≡ suc (n - (k + 1)) = omega arith in
    let rest : List Event = all_steps p queue t (n - (k + 1)) (attempt_at (after_step p t a) op.Go) in
    ap (λ j. since_along p line a.before (all_steps p queue t j a) f) more
    ∙ ap (λ g. since_along p line a.before (cond (is_behind p queue t a) [] (event_of t a ∷ cond g rest [])) f) stops

-- Nor where no more steps may follow.
pub ends_since : (p : Protocol) (queue : Locks) (t n k line : ℕ) (a : Attempt) (f : Since) → n ≤ k
    → since_along p line a.before (all_steps p queue t (n - k) a) f ≡ since_along p line a.before (all_steps p queue t 0 a) f
ends_since p queue t n k line a f le = let none : n - k ≡ 0 = omega arith in ap (λ j. since_along p line a.before (all_steps p queue t j a) f) none
