-- An attempt that is done at once.
use Rattle.std.proofs.Common.{◌≡◌, ℕ, true, false, ap, sym, subst, ◌∙◌, refl, Some, None, List, [], ◌⊎◌, inl, inr, is_some, ◌&&◌}
use Rattle.std.specs.Prelude.{IsTrue, not}
use Rattle.std.specs.Ordering.{nat_cmp}
use Rattle.std.specs.FinMap.{put}
use Rattle.kr_model.specs.Protocol.{Protocol}
use Rattle.kr_model.specs.Map.{Map}
use Rattle.kr_model.specs.Locks.{Locks, blockers, kept}
use Rattle.kr_model.specs.Plan.{requests, plan_of}
use Rattle.kr_model.specs.State.{State, Active, active_of, standing}
use Rattle.kr_model.specs.Run.{is_granted}
use Rattle.kr_model.specs.Step.{Effect, IsStep, refusal_of, step, after_effect, takes_no_memory, may_lack_memory}
use Rattle.kr_model.specs.declared.Op.{Op}
use Rattle.kr_model.specs.declared.Plan.{Plan}
use Rattle.kr_model.specs.declared.Refusal.TheVariants.{NoScan, Memory}
use Rattle.kr_model.specs.declared.Reply.{Reply}
use Rattle.kr_model.specs.declared.Reply.TheVariants.{Blocked, Refused}
use Rattle.kr_model.specs.declared.Step.{Step}
use Rattle.kr_machine.specs.Accepted.{LacksMemoryOr, TellsWhy}
use Rattle.kr_machine.specs.declared.accepted.NotDone.{NotDone}
use Rattle.kr_machine.specs.declared.accepted.NotDone.TheVariants.{NotGranted, Declined}
use Rattle.kr_touch.specs.declared.parts.KeyTouch.TheVariants as key
use Rattle.kr_touch.specs.declared.parts.Touch.{Touch}
use Rattle.kr_touch.specs.declared.parts.Touch.TheVariants as touch
use Rattle.kr_touch.specs.Parts.{op_of_touch}
use Rattle.kr_touch.specs.Attempts.{attempt_of}
use Rattle.kr_touch.specs.Effects.{effect_of, reply_of, rows_of}
use Rattle.kr_machine.proofs.Steps.{granted_step, reply_is, blocked_step, nothing_attempted}

-- Who is blocked or has no memory isn't granted.
pub not_granted : (r : Reply) (us : List ℕ) → (r ≡ Blocked us) ⊎ (r ≡ Refused Memory) → is_granted r ≡ false
not_granted r us (inl is) = ap is_granted is
not_granted r us (inr is) = ap is_granted is

-- Where memory was refused or the reply declined, that is why the step isn't done.
pub lacks_or_declined : {E : Type 0} (p : Protocol) (s : State) (t : ℕ) (o : Op) (D Declines : E → Type 0) (n : NotDone E) → IsStep p s t o (Refused Memory) s → is_granted (step p s t o).0 ≡ true → ((e : E) → D e → Declines e) → LacksMemoryOr D n → TellsWhy p s t o Declines n
lacks_or_declined p s t o D Declines (NotGranted r) lacks granted same is = (subst (λ (z : Reply). IsStep p s t o z s) (sym is) lacks, ap is_granted is)
lacks_or_declined p s t o D Declines (Declined e) lacks granted same is = (granted, same e is)

takes_memory : (x : Touch) → takes_no_memory (op_of_touch x) ≡ false
takes_memory (touch.Key (key.Fetch k)) = refl
takes_memory (touch.Key (key.Insert k v)) = refl
takes_memory (touch.Key (key.Delete k)) = refl
takes_memory (touch.Key (key.Update k v)) = refl
takes_memory (touch.Scan lo hi) = refl
takes_memory touch.Go = refl

module _ (p : Protocol) (s : State) (t : ℕ) (x : Touch) (allowed : refusal_of p s t (op_of_touch x) ≡ None) where
  -- What it does.
  abbrev done : Effect
  done = effect_of s.map (standing s t) (op_of_touch x)

  -- The state with these parts, in which the same transactions have ended.
  abbrev made : Map → Locks → List (ℕ × Active) → State
  made m h es = record { map = m; locks = h; ended = s.ended; active = es }

  may_lack : IsTrue (may_lack_memory p s t (op_of_touch x))
  may_lack = ap (λ r. not (is_some r) && not (takes_no_memory (op_of_touch x) && is_some (active_of s t))) allowed ∙ ap (λ b. not (b && is_some (active_of s t))) (takes_memory x)

  -- Where memory is refused, nothing changes.
  pub lacks_memory : IsStep p s t (op_of_touch x) (Refused Memory) s
  lacks_memory = inr (refl, refl, may_lack)

  -- Where there is nothing to attempt, that is the answer.
  pub attempts_nothing : attempt_of s.map (standing s t).scan (op_of_touch x) ≡ None → IsStep p s t (op_of_touch x) (Refused NoScan) s
  attempts_nothing none = inl (sym (nothing_attempted p s t x allowed none))

  module _ (a : Step) (is : attempt_of s.map (standing s t).scan (op_of_touch x) ≡ Some a) (plan : Plan) (is_plan : plan ≡ plan_of p s.map s.locks t a) where
    -- Where somebody blocks it, they are named, unless memory is refused.
    pub is_blocked : (r : Reply) → (blockers p s.locks t (requests plan) ≡ [] → ⊥) → (r ≡ Blocked (blockers p s.locks t (requests plan))) ⊎ (r ≡ Refused Memory) → IsStep p s t (op_of_touch x) r s
    is_blocked r some (inl named) = inl (ap (λ (z : Reply). (z, s)) named ∙ blocked_step p s t x a plan (blockers p s.locks t (requests plan)) allowed is is_plan refl some)
    is_blocked r some (inr refused) = inr (refused, refl, may_lack)

    -- What the step is, where nobody blocks it.
    granted_is : blockers p s.locks t (requests plan) ≡ [] → step p s t (op_of_touch x) ≡ after_effect p s t (requests plan) done
    granted_is none =
        let free = ap (λ pl. blockers p s.locks t (requests pl)) (sym is_plan) ∙ none in
        granted_step p s t x a allowed is free ∙ ap (λ pl. after_effect p s t (requests pl) done) (sym is_plan)

    -- What it answers then.
    pub answers : (r : Reply) → blockers p s.locks t (requests plan) ≡ [] → r ≡ reply_of s.map (rows_of (standing s t).scan) a → r ≡ (step p s t (op_of_touch x)).0
    answers r none replies = replies ∙ reply_is p s t x a allowed is ∙ sym (ap (λ z. z.0) (granted_is none))

    -- Where index, locks and transactions are what its effect makes of them, that is the step.
    pub at_once : (r : Reply) (m : Map) (h : Locks) (es : List (ℕ × Active)) → blockers p s.locks t (requests plan) ≡ []
        → r ≡ reply_of s.map (rows_of (standing s t).scan) a → m ≡ done.map → h ≡ kept p s.locks t (requests plan) → es ≡ put nat_cmp t done.standing s.active
        → step p s t (op_of_touch x) ≡ (r, made m h es)
    at_once r m h es none replies maps locks actives =
        let told : r ≡ done.reply = replies ∙ reply_is p s t x a allowed is in
        sym (ap (λ (z : Reply). (z, made m h es)) told
        ∙ ap (λ (z : Map). (done.reply, made z h es)) maps
        ∙ ap (λ (z : Locks). (done.reply, made done.map z es)) locks
        ∙ ap (λ (z : List (ℕ × Active)). (done.reply, made done.map (kept p s.locks t (requests plan)) z)) actives
        ∙ sym (granted_is none))
