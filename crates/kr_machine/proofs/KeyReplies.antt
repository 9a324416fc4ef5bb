-- What a step that reads or changes one key answers, and that a log with room may note it.
use Rattle.std.proofs.Common.{◌≡◌, ℕ, true, false, Option, Some, None, List, [], ◌∷◌, ap, sym, subst, refl, inl, inr}
use Rattle.kr_model.specs.declared.Event.{Event}
use Rattle.kr_model.specs.declared.Refusal.{Refusal}
use Rattle.kr_model.specs.declared.Reply.{Reply}
use Rattle.kr_model.specs.declared.Reply.TheVariants as reply
use Rattle.kr_model.specs.declared.Step.{Step}
use Rattle.kr_model.specs.declared.Step.TheVariants as attempt
use Rattle.kr_model.specs.Protocol.{Protocol}
use Rattle.kr_model.specs.Map.{Map, get}
use Rattle.kr_model.specs.Locks.{Request, blockers}
use Rattle.kr_model.specs.Plan.{plan_of, requests}
use Rattle.kr_model.specs.State.{State, Active, standing}
use Rattle.kr_model.specs.Step.{Outcome, Effect, IsStep, refusal_of, fetched, inserted, deleted, updated, granted_or_blocked, performed, unless_refused}
use Rattle.kr_model.specs.Run.{is_granted}
use Rattle.kr_txn.specs.Logs.{LogWithRoom, MayNote}
use Rattle.kr_touch.specs.declared.parts.KeyTouch.{KeyTouch}
use Rattle.kr_touch.specs.declared.parts.KeyTouch.TheVariants as key
use Rattle.kr_touch.specs.Parts.{op_of_key}
use Rattle.kr_machine.specs.Logged.{has_list}

-- A log that has had room made for a transaction may note any reply to it.
pub may_note : (l : LogWithRoom) (e : Event) (a : Reply) → l.ready ≡ Some e.txn → MayNote l e a
may_note l e (reply.Found v) h = h
may_note l e reply.None h = h
may_note l e (reply.Going k) h = h
may_note l e (reply.Rows rows) h = h
may_note l e reply.Done h = h
may_note l e reply.Duplicate h = h
may_note l e (reply.Deleted v) h = h
may_note l e reply.Absent h = h
may_note l e (reply.Updated v) h = h
may_note l e reply.Committed h = inl h
may_note l e reply.Aborted h = tt
may_note l e (reply.Undone left) h = tt
may_note l e (reply.Blocked us) h = tt
may_note l e (reply.Refused r) h = tt

-- A reply that has a list isn't that of a granted step.
abbrev pub IsPlain : Reply → Type 0
IsPlain a = has_list a ≡ true → is_granted a ≡ false

without_list : (a : Reply) → has_list a ≡ false → IsPlain a
without_list a h e = cc

fetched_plain : (m : Map) (a : Active) (old : Option ℕ) → has_list (fetched m a old).reply ≡ false
fetched_plain m a (Some w) = refl
fetched_plain m a None = refl

inserted_plain : (m : Map) (a : Active) (k v : ℕ) (old : Option ℕ) → has_list (inserted m a k v old).reply ≡ false
inserted_plain m a k v (Some w) = refl
inserted_plain m a k v None = refl

deleted_plain : (m : Map) (a : Active) (k : ℕ) (old : Option ℕ) → has_list (deleted m a k old).reply ≡ false
deleted_plain m a k (Some w) = refl
deleted_plain m a k None = refl

updated_plain : (m : Map) (a : Active) (k v : ℕ) (old : Option ℕ) → has_list (updated m a k v old).reply ≡ false
updated_plain m a k v (Some w) = refl
updated_plain m a k v None = refl

module _ (p : Protocol) (s : State) (t : ℕ) where
  attempt_plain : (rs : List Request) (e : Effect) (us : List ℕ) → has_list e.reply ≡ false → IsPlain (granted_or_blocked p s t rs e us).0
  attempt_plain rs e [] h = without_list e.reply h
  attempt_plain rs e (u ∷ us) h = λ _. refl

  attempted_plain : (a : Step) (e : Effect) → has_list e.reply ≡ false → IsPlain (let rs = requests (plan_of p s.map s.locks t a) in (granted_or_blocked p s t rs e (blockers p s.locks t rs)).0)
  attempted_plain a e h = let rs = requests (plan_of p s.map s.locks t a) in attempt_plain rs e (blockers p s.locks t rs) h

  performed_plain : (x : KeyTouch) → IsPlain (performed p s t (op_of_key x)).0
  performed_plain (key.Fetch k) = attempted_plain (attempt.Fetch k) (fetched s.map (standing s t) (get s.map k)) (fetched_plain s.map (standing s t) (get s.map k))
  performed_plain (key.Insert k v) = attempted_plain (attempt.Insert k) (inserted s.map (standing s t) k v (get s.map k)) (inserted_plain s.map (standing s t) k v (get s.map k))
  performed_plain (key.Delete k) = attempted_plain (attempt.Delete k) (deleted s.map (standing s t) k (get s.map k)) (deleted_plain s.map (standing s t) k (get s.map k))
  performed_plain (key.Update k v) = attempted_plain (attempt.Update k) (updated s.map (standing s t) k v (get s.map k)) (updated_plain s.map (standing s t) k v (get s.map k))

  unless_plain : (x : KeyTouch) (r : Option Refusal) → IsPlain (unless_refused p s t (op_of_key x) r).0
  unless_plain x (Some r) = λ _. refl
  unless_plain x None = performed_plain x

  -- The reply to an operation that reads or changes one key has a list only where the step isn't granted.
  pub key_plain : (x : KeyTouch) (r : Reply) (new : State) → IsStep p s t (op_of_key x) r new → has_list r ≡ true → is_granted r ≡ false
  key_plain x r new (inl e) = subst IsPlain (sym (ap (λ (o : Outcome). o.0) e)) (unless_plain x (refusal_of p s t (op_of_key x)))
  key_plain x r new (inr m) = λ _. ap is_granted m.0
