-- Laws of the steps of a line.
use Rattle.std.specs.Prelude.{◌≡◌, ℕ, zero, suc, ◌+◌, ◌-◌, ◌<◌, ◌≤◌, Bool, true, false, not, ◌&&◌, ◌==◌, cond, List, [], ◌∷◌, Option, length, refl}
use Rattle.std.proofs.Common.{sym, ◌∙◌, ap, ap₂, subst, arith}
use Rattle.std.proofs.lemmas.Bool.Decides.{nat_tests}
use Rattle.kr_model.specs.declared.Event.{Event}
use Rattle.kr_model.specs.declared.Op.{Op}
use Rattle.kr_model.specs.declared.Op.TheVariants as op
use Rattle.kr_model.specs.declared.Reply.{Reply}
use Rattle.kr_model.specs.declared.Reply.TheVariants as reply
use Rattle.kr_model.specs.Covers.{is_empty}
use Rattle.kr_model.specs.Protocol.{Protocol}
use Rattle.kr_model.specs.Locks.{Locks}
use Rattle.kr_model.specs.Run.{run}
use Rattle.kr_model.specs.State.{Scan, State, standing}
use Rattle.kr_model.specs.Step.{Outcome, step}
use Rattle.kr_trace_lines.specs.declared.observed.Observed.{Observed}
use Rattle.kr_trace_follow.specs.declared.scans.Progress.{Progress}
use Rattle.kr_trace_follow.specs.Conflicts.{ahead_of, is_behind}
use Rattle.kr_trace_follow.specs.Lines.{Attempt}
use Rattle.kr_trace_follow.specs.Scans.{noted_of, AreAt, AreNoted}
use Rattle.kr_trace_follow.specs.Steps.{taken, is_same_scan, first_op, in_turn, is_going, is_passed, attempt_at, after_step, last_step, all_steps}
use Rattle.kr_trace_follow.proofs.ScanSteps.{blocked_stays}

-- A step in its turn --

reply_by : (r : Reply) (s new : State) (b : Bool) → (let d : Outcome = cond b (r, s) (r, new) in d.0) ≡ r
reply_by r s new true = refl
reply_by r s new false = refl

-- Whether it is done or not, the reply is the table's.
pub turn_reply : (p : Protocol) (queue : Locks) (t : ℕ) (a : Attempt) → (in_turn p queue t a).0 ≡ (step p a.before t a.op).0
turn_reply p queue t a = reply_by (step p a.before t a.op).0 a.before (step p a.before t a.op).1 (is_behind p queue t a)

-- Where nobody waits ahead it is done.
pub turn_done : (p : Protocol) (queue : Locks) (t : ℕ) (a : Attempt) → is_behind p queue t a ≡ false → in_turn p queue t a ≡ step p a.before t a.op
turn_done p queue t a e = ap (λ b. let d : Outcome = cond b ((step p a.before t a.op).0, a.before) (step p a.before t a.op) in d) e

-- Where somebody does it isn't.
pub turn_waits : (p : Protocol) (queue : Locks) (t : ℕ) (a : Attempt) → is_behind p queue t a ≡ true → (in_turn p queue t a).1 ≡ a.before
turn_waits p queue t a e = ap (λ b. let d : Outcome = cond b ((step p a.before t a.op).0, a.before) (step p a.before t a.op) in d.1) e

blocked_by : (p : Protocol) (t : ℕ) (a : Attempt) (us : List ℕ) (new : State) (b : Bool) → ◌≡◌ {A = Outcome} (reply.Blocked us, new) (cond b ((step p a.before t a.op).0, a.before) (step p a.before t a.op)) → new ≡ a.before
blocked_by p t a us new true e = ap (λ (d : Outcome). d.1) e
blocked_by p t a us new false e = blocked_stays p a.before t a.op us new e

-- Where the table blocks it the state is as before.
pub turn_blocked : (p : Protocol) (queue : Locks) (t : ℕ) (a : Attempt) (us : List ℕ) (new : State) → ◌≡◌ {A = Outcome} (reply.Blocked us, new) (in_turn p queue t a) → new ≡ a.before
turn_blocked p queue t a us new e = blocked_by p t a us new (is_behind p queue t a) e

-- Nobody waits ahead --

pub behind_none : (p : Protocol) (queue : Locks) (t : ℕ) (a : Attempt) (ahead : List ℕ) → ahead ≡ ahead_of p queue t a → ahead ≡ [] → is_behind p queue t a ≡ false
behind_none p queue t a ahead is none = ap (λ xs. not (is_empty xs)) (sym is ∙ none)

behind_cons : (xs : List ℕ) → (xs ≡ [] → ⊥) → not (is_empty xs) ≡ true
behind_cons [] h = absurd (h refl)
behind_cons (x ∷ xs) h = refl

pub behind_some : (p : Protocol) (queue : Locks) (t : ℕ) (a : Attempt) (ahead : List ℕ) → ahead ≡ ahead_of p queue t a → (ahead ≡ [] → ⊥) → is_behind p queue t a ≡ true
behind_some p queue t a ahead is some = ap (λ xs. not (is_empty xs)) (sym is) ∙ behind_cons ahead some

-- A list of no length is empty, and one of another isn't.
pub empty_list : (xs : List ℕ) (n : ℕ) (b : Bool) → b ≡ (n == 0) → n ≡ length xs → b ≡ true → xs ≡ []
empty_list [] n b e l t = refl
empty_list (x ∷ xs) n b e l t = absurd (grind (arith, nat_tests))

pub some_list : (xs : List ℕ) (n : ℕ) (b : Bool) → b ≡ (n == 0) → n ≡ length xs → b ≡ false → xs ≡ [] → ⊥
some_list [] n b e l t none = grind (arith, nat_tests)
some_list (x ∷ xs) n b e l t none = cc

-- The last step of a scan --

-- A scan that goes on has its last step among those that follow.
pub goes_last : (p : Protocol) (queue : Locks) (t n k : ℕ) (a : Attempt) (new : State) → k < n → is_passed p queue t a ≡ true → new ≡ after_step p t a
    → last_step p queue t (n - (k + 1)) (attempt_at new op.Go) ≡ last_step p queue t (n - k) a
goes_last p queue t n k a new lt passed is =
    let more : n - k ≡ suc (n - (k + 1)) = omega arith in
    ap (λ s. last_step p queue t (n - (k + 1)) (attempt_at s op.Go)) is
    ∙ sym (ap (λ j. last_step p queue t j a) more ∙ ap (λ b. let it : Attempt = cond b (last_step p queue t (n - (k + 1)) (attempt_at (after_step p t a) op.Go)) a in it) passed)

-- One that doesn't go on is its last step.
pub stops_last : (p : Protocol) (queue : Locks) (t n k : ℕ) (a : Attempt) → k < n → is_passed p queue t a ≡ false → last_step p queue t (n - k) a ≡ a
stops_last p queue t n k a lt stops =
    let more : n - k ≡ suc (n - (k + 1)) = omega arith in
    ap (λ j. last_step p queue t j a) more ∙ ap (λ b. let it : Attempt = cond b (last_step p queue t (n - (k + 1)) (attempt_at (after_step p t a) op.Go)) a in it) stops

-- Where no more steps may follow it is too.
pub ends_last : (p : Protocol) (queue : Locks) (t n k : ℕ) (a : Attempt) → n ≤ k → last_step p queue t (n - k) a ≡ a
ends_last p queue t n k a le = let none : n - k ≡ 0 = omega arith in ap (λ j. last_step p queue t j a) none

-- What was done goes on: nobody waits ahead, and the reply says so.
pub passes : (p : Protocol) (queue : Locks) (t : ℕ) (a : Attempt) (ahead : List ℕ) (r : Reply) → ahead ≡ ahead_of p queue t a → ahead ≡ [] → r ≡ (in_turn p queue t a).0 → is_going r ≡ true → is_passed p queue t a ≡ true
passes p queue t a ahead r ahead_is none r_is going =
    ap₂ (λ b x. not b && is_going x) (behind_none p queue t a ahead ahead_is none) (sym (turn_reply p queue t a) ∙ sym r_is) ∙ going

and_false : (b : Bool) → (b && false) ≡ false
and_false true = refl
and_false false = refl

pub stops_going : (p : Protocol) (queue : Locks) (t : ℕ) (a : Attempt) (r : Reply) → r ≡ (in_turn p queue t a).0 → is_going r ≡ false → is_passed p queue t a ≡ false
stops_going p queue t a r r_is stops =
    ap (λ x. not (is_behind p queue t a) && is_going x) (sym (turn_reply p queue t a) ∙ sym r_is) ∙ ap (λ b. not (is_behind p queue t a) && b) stops ∙ and_false (not (is_behind p queue t a))

pub stops_behind : (p : Protocol) (queue : Locks) (t : ℕ) (a : Attempt) (ahead : List ℕ) → ahead ≡ ahead_of p queue t a → (ahead ≡ [] → ⊥) → is_passed p queue t a ≡ false
stops_behind p queue t a ahead is some =
    ap (λ b. not b && is_going (step p a.before t a.op).0) (behind_some p queue t a ahead is some)

-- The run of the steps of a line --

one_ran : (p : Protocol) (t : ℕ) (a : Attempt) (b : Bool)
    → (let r = run p a.before (cond b [] (record { txn = t; op = a.op } ∷ [])) in r.state) ≡ (let d : Outcome = cond b ((step p a.before t a.op).0, a.before) (step p a.before t a.op) in d.1)
one_ran p t a true = refl
one_ran p t a false = refl

more_ran : (p : Protocol) (queue : Locks) (t n : ℕ) (a : Attempt) (b g : Bool) → is_behind p queue t a ≡ b
    → (let r = run p (after_step p t a) (all_steps p queue t n (attempt_at (after_step p t a) op.Go)) in r.state) ≡ (in_turn p queue t (last_step p queue t n (attempt_at (after_step p t a) op.Go))).1
    → (let r = run p a.before (cond b [] (record { txn = t; op = a.op } ∷ cond (not b && g) (all_steps p queue t n (attempt_at (after_step p t a) op.Go)) [])) in r.state)
    ≡ (in_turn p queue t (cond (not b && g) (last_step p queue t n (attempt_at (after_step p t a) op.Go)) a)).1
more_ran p queue t n a true g e h = sym (turn_waits p queue t a e)
more_ran p queue t n a false true e h = h
more_ran p queue t n a false false e h = sym (ap (λ (d : Outcome). d.1) (turn_done p queue t a e))

-- It ends where the last step does.
pub all_ran : (p : Protocol) (queue : Locks) (t n : ℕ) (a : Attempt) → (let r = run p a.before (all_steps p queue t n a) in r.state) ≡ (in_turn p queue t (last_step p queue t n a)).1
all_ran p queue t zero a = one_ran p t a (is_behind p queue t a)
all_ran p queue t (suc n) a =
    more_ran p queue t n a (is_behind p queue t a) (is_going (step p a.before t a.op).0) refl (all_ran p queue t n (attempt_at (after_step p t a) op.Go))

-- The first step of a line --

pub begins : (s : State) (n : ℕ) (e : Event) (o : Observed) (xs : List Progress) (x : Option Progress) (began : Op) (same : Bool) → AreNoted s xs → x ≡ noted_of xs e.txn → began ≡ taken e.op o
    → ((scan : Option Scan) → AreAt scan x → same ≡ is_same_scan scan began) → cond same op.Go began ≡ first_op s (record { number = n; event = e; observed = o })
begins s n e o xs x began same are noted is tells =
    let scan = (standing s e.txn).scan in
    let at : AreAt scan x = subst (λ z. AreAt scan z) (sym noted) (are e.txn) in
    ap₂ (λ b z. cond b op.Go z) (tells scan at ∙ ap (is_same_scan scan) is) is
