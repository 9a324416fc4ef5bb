-- What the definitions say of a step, by the parts that the machine finds.
use Rattle.std.proofs.Common.{◌≡◌, ℕ, Bool, true, false, cond, Option, Some, None, List, [], ◌∷◌, ap, sym, ◌∙◌, refl, length, is_some, suc, ◌-◌, ◌<◌, reverse, arith}
use Rattle.std.specs.Prelude.{nat_le, not, ◌==◌, unwrap_or}
use Rattle.std.specs.List.{list_any, filter}
use Rattle.std.proofs.lemmas.List.{length-reverse}
use Rattle.std.specs.Ordering.{nat_cmp}
use Rattle.std.specs.FinMap.{find, put}
use Rattle.kr_model.specs.declared.Op.{Op}
use Rattle.kr_model.specs.declared.Op.TheVariants as op
use Rattle.kr_model.specs.declared.Refusal.TheVariants.{Ended, Full, NoScan}
use Rattle.kr_model.specs.declared.Reply.{Reply}
use Rattle.kr_model.specs.declared.Reply.TheVariants as reply
use Rattle.kr_model.specs.Protocol.{Protocol}
use Rattle.kr_model.specs.declared.Plan.{Plan}
use Rattle.kr_model.specs.Map.{Map, Changes, get}
use Rattle.kr_model.specs.Locks.{Locks, Request, blockers}
use Rattle.kr_model.specs.State.{State, Active, Scan, idle, standing, is_rolling, has_nothing_left}
use Rattle.kr_model.specs.Covers.{is_empty}
use Rattle.kr_model.specs.Plan.{requests, plan_of}
use Rattle.kr_model.specs.declared.Name.{Name}
use Rattle.kr_model.specs.declared.Name.TheVariants.{Key, End}
use Rattle.kr_model.specs.declared.Step.{Step}
use Rattle.kr_model.specs.declared.Step.TheVariants as attempt
use Rattle.kr_model.specs.Step.{Outcome, Effect, fetched, inserted, deleted, updated, row_read, looked, name_to_look, is_full, refusal_of, step, granted_or_blocked, attempted, attempted_scan, unless_refused, after_effect, performed, one_taken_back}
use Rattle.std.specs.Option.{option_map}
use Rattle.kr_touch.specs.declared.parts.Ending.{Ending}
use Rattle.kr_touch.specs.declared.parts.Ending.TheVariants as ending
use Rattle.kr_touch.specs.declared.parts.KeyTouch.TheVariants as key
use Rattle.kr_touch.specs.declared.parts.Touch.{Touch}
use Rattle.kr_touch.specs.declared.parts.Touch.TheVariants as touch
use Rattle.kr_touch.specs.Parts.{ended_by, op_of_touch, end_reply}
use Rattle.kr_touch.specs.Attempts.{begun, look_of, attempt_of}
use Rattle.kr_plan.specs.Refusals.{refusal_in}
use Rattle.kr_touch.specs.Effects.{rows_of, reply_of, look_effect, effect_of, map_back, changes_back, standing_back}
use Rattle.kr_machine.specs.Pending.{after_op}

-- Where a scan that begins isn't refused, no scan is in progress.
begins_alone : (v x y z w : Bool) (c : Option Scan) (lo hi : ℕ) → cond x (Some Ended) (cond y (Some Full) (refusal_in v z (is_some c) w (op.Scan lo hi))) ≡ None → rows_of c ≡ []
begins_alone v true y z w c lo hi h = absurd (cc)
begins_alone v false true z w c lo hi h = absurd (cc)
begins_alone v false false true w c lo hi h = absurd (cc)
begins_alone v false false false w None lo hi h = refl
begins_alone v false false false w (Some c) lo hi h = absurd (cc)

performs : (p : Protocol) (s : State) (t : ℕ) (o : Op) → refusal_of p s t o ≡ None → step p s t o ≡ performed p s t o
performs p s t o allowed = ap (unless_refused p s t o) allowed

-- What an attempt does, whose effect is e where it is granted. To go on where no scan is in progress is refused.
abbrev attempted_by : Protocol → State → ℕ → Effect → Option Step → Outcome
attempted_by p s t e None = (reply.Refused NoScan, s)
attempted_by p s t e (Some a) = attempted p s t a e

module _ (p : Protocol) (s : State) (t : ℕ) where
  by_look : (c : Option Scan) → attempted_scan p s t c ≡ attempted_by p s t (look_effect s.map (standing s t) c) (look_of s.map c)
  by_look None = refl
  by_look (Some c) = refl

  by_touch : (x : Touch) → performed p s t (op_of_touch x) ≡ attempted_by p s t (effect_of s.map (standing s t) (op_of_touch x)) (attempt_of s.map (standing s t).scan (op_of_touch x))
  by_touch (touch.Key (key.Fetch k)) = refl
  by_touch (touch.Key (key.Insert k v)) = refl
  by_touch (touch.Key (key.Delete k)) = refl
  by_touch (touch.Key (key.Update k v)) = refl
  by_touch (touch.Scan lo hi) = refl
  by_touch touch.Go = by_look (standing s t).scan

  -- The requests of an attempt.
  abbrev asked : Step → List Request
  asked a = requests (plan_of p s.map s.locks t a)

  -- Where no refusal applies, an attempt is granted or blocked.
  attempts : (x : Touch) (a : Step) → refusal_of p s t (op_of_touch x) ≡ None → attempt_of s.map (standing s t).scan (op_of_touch x) ≡ Some a
      → step p s t (op_of_touch x) ≡ granted_or_blocked p s t (asked a) (effect_of s.map (standing s t) (op_of_touch x)) (blockers p s.locks t (asked a))
  attempts x a allowed is = performs p s t (op_of_touch x) allowed ∙ by_touch x ∙ ap (attempted_by p s t (effect_of s.map (standing s t) (op_of_touch x))) is

  -- To go on where no scan is in progress is refused.
  pub nothing_attempted : (x : Touch) → refusal_of p s t (op_of_touch x) ≡ None → attempt_of s.map (standing s t).scan (op_of_touch x) ≡ None → step p s t (op_of_touch x) ≡ (reply.Refused NoScan, s)
  nothing_attempted x allowed none = performs p s t (op_of_touch x) allowed ∙ by_touch x ∙ ap (attempted_by p s t (effect_of s.map (standing s t) (op_of_touch x))) none

  -- An attempt that nobody blocks has its effect.
  pub granted_step : (x : Touch) (a : Step) → refusal_of p s t (op_of_touch x) ≡ None → attempt_of s.map (standing s t).scan (op_of_touch x) ≡ Some a → blockers p s.locks t (asked a) ≡ []
      → step p s t (op_of_touch x) ≡ after_effect p s t (asked a) (effect_of s.map (standing s t) (op_of_touch x))
  granted_step x a allowed is none = attempts x a allowed is ∙ ap (granted_or_blocked p s t (asked a) (effect_of s.map (standing s t) (op_of_touch x))) none

fetch_reply : (m : Map) (a b : Active) (g : Option ℕ) → (fetched m a g).reply ≡ (fetched m b g).reply
fetch_reply m a b None = refl
fetch_reply m a b (Some v) = refl

insert_reply : (m : Map) (a b : Active) (k v w : ℕ) (g : Option ℕ) → (inserted m a k v g).reply ≡ (inserted m b k w g).reply
insert_reply m a b k v w None = refl
insert_reply m a b k v w (Some u) = refl

delete_reply : (m : Map) (a b : Active) (k : ℕ) (g : Option ℕ) → (deleted m a k g).reply ≡ (deleted m b k g).reply
delete_reply m a b k None = refl
delete_reply m a b k (Some w) = refl

update_reply : (m : Map) (a b : Active) (k v w : ℕ) (g : Option ℕ) → (updated m a k v g).reply ≡ (updated m b k w g).reply
update_reply m a b k v w None = refl
update_reply m a b k v w (Some u) = refl

read_reply : (m : Map) (a b : Active) (l n hi k v : ℕ) (rows : List (ℕ × ℕ)) (x : Bool) → k == hi ≡ x → (row_read m a (record { lo = l; hi = hi; rows = rows }) k v).reply ≡ (row_read m b (record { lo = n; hi = hi; rows = rows }) k v).reply
read_reply m a b l n hi k v rows true e = rw e refl
read_reply m a b l n hi k v rows false e = rw e refl

-- What a scan's step answers goes by its upper end and its rows alone.
pub look_reply : (m : Map) (a b : Active) (l k hi : ℕ) (rows : List (ℕ × ℕ)) (n : Name) → (looked m a (record { lo = l; hi = hi; rows = rows }) n).reply ≡ (looked m b (record { lo = k; hi = hi; rows = rows }) n).reply
look_reply m a b l j hi rows End = refl
look_reply m a b l j hi rows (Key k) = by (nat_le k hi) refl
  where
    by : (x : Bool) → nat_le k hi ≡ x → (looked m a (record { lo = l; hi = hi; rows = rows }) (Key k)).reply ≡ (looked m b (record { lo = j; hi = hi; rows = rows }) (Key k)).reply
    by true e = rw e (read_reply m a b l j hi k (unwrap_or (get m k) 0) rows (k == hi) refl)
    by false e = rw e refl

pub some_step : (a b : Step) → ◌≡◌ {A = Option Step} (Some a) (Some b) → a ≡ b
some_step a b e = cc

go_reply : (m : Map) (a : Active) (c : Option Scan) (x : Step) → look_of m c ≡ Some x → reply_of m (rows_of c) x ≡ (look_effect m a c).reply
go_reply m a None x is = absurd (cc)
go_reply m a (Some c) x is = ap (reply_of m c.rows) (sym (some_step (attempt.Look (name_to_look m c) c.hi) x is)) ∙ look_reply m idle a 0 c.lo c.hi c.rows (name_to_look m c)

-- The reply of an operation goes by its attempt, and by the rows of the scan in progress.
module _ (p : Protocol) (s : State) (t : ℕ) where
  abbrev reply_now : Step → Reply
  reply_now = reply_of s.map (rows_of (standing s t).scan)

  pub reply_is : (x : Touch) (a : Step) → refusal_of p s t (op_of_touch x) ≡ None → attempt_of s.map (standing s t).scan (op_of_touch x) ≡ Some a → reply_now a ≡ (effect_of s.map (standing s t) (op_of_touch x)).reply
  reply_is (touch.Key (key.Fetch k)) a allowed is = ap reply_now (sym (some_step (attempt.Fetch k) a is)) ∙ fetch_reply s.map idle (standing s t) (get s.map k)
  reply_is (touch.Key (key.Insert k v)) a allowed is = ap reply_now (sym (some_step (attempt.Insert k) a is)) ∙ insert_reply s.map idle (standing s t) k 0 v (get s.map k)
  reply_is (touch.Key (key.Delete k)) a allowed is = ap reply_now (sym (some_step (attempt.Delete k) a is)) ∙ delete_reply s.map idle (standing s t) k (get s.map k)
  reply_is (touch.Key (key.Update k v)) a allowed is = ap reply_now (sym (some_step (attempt.Update k) a is)) ∙ update_reply s.map idle (standing s t) k 0 v (get s.map k)
  reply_is (touch.Scan lo hi) a allowed is =
      ap (λ rows. reply_of s.map rows a) (begins_alone p.updates (list_any (λ u. u == t) s.ended) (is_full s t) (is_rolling s t) (has_nothing_left s t) (standing s t).scan lo hi allowed)
      ∙ go_reply s.map (standing s t) (Some (begun lo hi)) a is
  reply_is touch.Go a allowed is = go_reply s.map (standing s t) (standing s t).scan a is

  -- The reply of a granted attempt.
  pub granted_reply : (x : Touch) (a : Step) (plan : Plan) → refusal_of p s t (op_of_touch x) ≡ None → attempt_of s.map (standing s t).scan (op_of_touch x) ≡ Some a → plan ≡ plan_of p s.map s.locks t a → blockers p s.locks t (requests plan) ≡ []
      → reply_now a ≡ (step p s t (op_of_touch x)).0
  granted_reply x a plan allowed is is_plan none =
      reply_is x a allowed is ∙ sym (ap (λ (x : Outcome). x.0) (granted_step p s t x a allowed is (ap (λ pl. blockers p s.locks t (requests pl)) (sym is_plan) ∙ none)))

-- The state after the end of a transaction, by what the machine has taken for it.
pub stepped_end : (p : Protocol) (m : Map) (h : Locks) (ended : List ℕ) (es : List (ℕ × Active)) (t : ℕ) (a : Active) (x : Ending)
    → refusal_of p (record { map = m; locks = h; ended = ended; active = es }) t (ended_by x) ≡ None → a ≡ unwrap_or (find nat_cmp t es) idle
    → ◌≡◌ {A = State} (let o = step p (record { map = m; locks = h; ended = ended; active = es }) t (ended_by x) in o.1) (after_op m h ended (filter (λ e. not (e.0 == t)) es) t a (ended_by x))
stepped_end p m h ended es t a ending.Commit allowed is_a = ap (λ (x : Outcome). x.1) (performs p (record { map = m; locks = h; ended = ended; active = es }) t op.Commit allowed)
stepped_end p m h ended es t a ending.Abort allowed is_a =
    ap (λ (x : Outcome). x.1) (performs p (record { map = m; locks = h; ended = ended; active = es }) t op.Abort allowed) ∙ ap (λ b. after_op m h ended (filter (λ e. not (e.0 == t)) es) t b op.Abort) (sym is_a)

-- What the end of a transaction answers.
pub end_answers : (p : Protocol) (s : State) (t : ℕ) (x : Ending) → refusal_of p s t (ended_by x) ≡ None → end_reply (ended_by x) ≡ (step p s t (ended_by x)).0
end_answers p s t ending.Commit allowed = sym (ap (λ (x : Outcome). x.0) (performs p s t op.Commit allowed))
end_answers p s t ending.Abort allowed = sym (ap (λ (x : Outcome). x.0) (performs p s t op.Abort allowed))

blocked_by : (p : Protocol) (s : State) (t : ℕ) (rs : List Request) (e : Effect) (us : List ℕ) → (us ≡ [] → ⊥) → granted_or_blocked p s t rs e us ≡ (reply.Blocked us, s)
blocked_by p s t rs e [] h = absurd (h refl)
blocked_by p s t rs e (u ∷ us) h = refl

-- An attempt that somebody blocks answers who, and leaves the state.
pub blocked_step : (p : Protocol) (s : State) (t : ℕ) (x : Touch) (a : Step) (plan : Plan) (us : List ℕ) → refusal_of p s t (op_of_touch x) ≡ None → attempt_of s.map (standing s t).scan (op_of_touch x) ≡ Some a → plan ≡ plan_of p s.map s.locks t a → us ≡ blockers p s.locks t (requests plan) → (blockers p s.locks t (requests plan) ≡ [] → ⊥) → ◌≡◌ {A = Outcome} (reply.Blocked us, s) (step p s t (op_of_touch x))
blocked_step p s t x a plan us allowed is is_plan is_us some =
    let here = ap (λ pl. blockers p s.locks t (requests pl)) is_plan in
    ap (λ l. (reply.Blocked l, s)) (is_us ∙ here)
    ∙ sym (attempts p s t x a allowed is ∙ blocked_by p s t (asked p s t a) (effect_of s.map (standing s t) (op_of_touch x)) (blockers p s.locks t (asked p s t a)) (λ none. some (here ∙ none)))

-- A choice is empty where what is made of it is.
pub nothing_open : {A B : Type 0} (f : A → B) (o : Option A) → option_map f o ≡ None → o ≡ None
nothing_open f None h = refl
nothing_open f (Some a) h = cc

-- A change undone --

-- A back that isn't refused has a change to undo.
back_needs_change : (v x y z w u : Bool) → cond x (Some Ended) (cond y (Some Full) (refusal_in v z w u op.Back)) ≡ None → u ≡ false
back_needs_change v true y z w u h = absurd (cc)
back_needs_change v false true z w u h = absurd (cc)
back_needs_change v false false z w false h = refl
back_needs_change v false false true true true h = absurd (cc)
back_needs_change v false false true false true h = absurd (cc)
back_needs_change v false false false true true h = absurd (cc)
back_needs_change v false false false false true h = absurd (cc)

one_fewer : (n : ℕ) → suc n - 1 ≡ n
one_fewer n = omega arith

some_length : (cs : Changes) → is_empty cs ≡ false → 0 < length cs
some_length [] h = absurd (cc)
some_length (c ∷ cs) h = omega arith

back_state : (s : State) (t : ℕ) (cs : Changes) → is_empty cs ≡ false
    → ◌≡◌ {A = State} (let o = one_taken_back s t cs in o.1) (record { map = map_back s.map cs; locks = s.locks; ended = s.ended; active = put nat_cmp t (record { scan = None; changes = changes_back cs; rolling = true }) s.active })
back_state s t [] h = absurd (cc)
back_state s t (c ∷ cs) h = refl

back_answer : (s : State) (t : ℕ) (cs : Changes) → is_empty cs ≡ false → (let o = one_taken_back s t cs in o.0) ≡ reply.Undone (length cs - 1)
back_answer s t [] h = absurd (cc)
back_answer s t (c ∷ cs) h = ap (λ n. reply.Undone n) (sym (one_fewer (length cs)))

module _ (p : Protocol) (m : Map) (h : Locks) (ended : List ℕ) (es : List (ℕ × Active)) (t : ℕ) (allowed : refusal_of p (record { map = m; locks = h; ended = ended; active = es }) t op.Back ≡ None) where
  abbrev here : State
  here = record { map = m; locks = h; ended = ended; active = es }

  some_change : is_empty (standing here t).changes ≡ false
  some_change = back_needs_change p.updates (list_any (λ u. u == t) ended) (is_full here t) (is_rolling here t) (is_some (standing here t).scan) (is_empty (standing here t).changes) allowed

  -- So its transaction is active, and has changes.
  pub back_is_active : find nat_cmp t es ≡ None → ⊥
  back_is_active none = true_false (ap (λ o. is_empty (unwrap_or o idle).changes) (sym none) ∙ some_change)
    where
      true_false : true ≡ false → ⊥
      true_false e = cc

  pub back_has_changes : (cs : Changes) → reverse cs ≡ (standing here t).changes → 0 < length cs
  back_has_changes cs is = let some = some_length (reverse cs) (ap is_empty is ∙ some_change) in let same = length-reverse cs in omega (arith, some, same)

  -- Its answer, and the state after it, by what the machine has taken for it.
  pub back_answers : (cs : Changes) → reverse cs ≡ (standing here t).changes → (step p here t op.Back).0 ≡ reply.Undone (length cs - 1)
  back_answers cs is =
      ap (λ (x : Outcome). x.0) (performs p here t op.Back allowed) ∙ back_answer here t (standing here t).changes some_change
      ∙ ap (λ n. reply.Undone (n - 1)) (sym (ap (λ l. length l) is) ∙ length-reverse cs)

  pub stepped_back : (rest : List (ℕ × Active)) (a : Active) → a ≡ unwrap_or (find nat_cmp t es) idle → ((x : Active) → put nat_cmp t x rest ≡ put nat_cmp t x es)
      → ◌≡◌ {A = State} (let o = step p here t op.Back in o.1) (after_op m h ended rest t a op.Back)
  stepped_back rest a is_a put_same =
      ap (λ (x : Outcome). x.1) (performs p here t op.Back allowed) ∙ back_state here t (standing here t).changes some_change
      ∙ ap (λ ts. record { map = map_back m (standing here t).changes; locks = h; ended = ended; active = ts }) (sym (put_same (standing_back (standing here t))))
      ∙ ap (λ b. after_op m h ended rest t b op.Back) (sym is_a)
