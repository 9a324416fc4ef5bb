-- Who blocks an operation, by what it requests.
use Rattle.std.proofs.Common.{◌≡◌, ℕ, Bool, true, false, Option, Some, None, List, [], ◌∷◌, ap, sym, ◌∙◌, refl}
use Rattle.std.specs.Prelude.{nat_le, ◌==◌, unwrap_or}
use Rattle.std.specs.Option.{IfSome, option_map}
use Rattle.kr_model.specs.declared.Op.{Op}
use Rattle.kr_model.specs.declared.Op.TheVariants as op
use Rattle.kr_model.specs.declared.Refusal.{Refusal}
use Rattle.kr_model.specs.declared.Name.{Name}
use Rattle.kr_model.specs.declared.Name.TheVariants.{Key, End}
use Rattle.kr_model.specs.declared.Plan.{Plan}
use Rattle.kr_model.specs.declared.Step.{Step}
use Rattle.kr_model.specs.declared.Step.TheVariants as attempt
use Rattle.kr_model.specs.Protocol.{Protocol}
use Rattle.kr_model.specs.Map.{Map, Changes, get}
use Rattle.kr_model.specs.Locks.{Request, blockers}
use Rattle.kr_model.specs.State.{State, Active, Scan, standing}
use Rattle.kr_model.specs.Plan.{requests, plan_of}
use Rattle.kr_model.specs.Step.{Effect, fetched, inserted, deleted, updated, row_read, looked, name_to_look, granted_or_blocked, one_taken_back, performed, unless_refused, refusal_of, step, blockers_in}
use Rattle.kr_touch.specs.Attempts.{attempt_of, begun, look_of}
use Rattle.kr_machine.proofs.Steps.{some_step}

-- What is granted names nobody --

fetched_names : (m : Map) (a : Active) (g : Option ℕ) → blockers_in (fetched m a g).reply ≡ []
fetched_names m a None = refl
fetched_names m a (Some v) = refl

inserted_names : (m : Map) (a : Active) (k v : ℕ) (g : Option ℕ) → blockers_in (inserted m a k v g).reply ≡ []
inserted_names m a k v None = refl
inserted_names m a k v (Some w) = refl

deleted_names : (m : Map) (a : Active) (k : ℕ) (g : Option ℕ) → blockers_in (deleted m a k g).reply ≡ []
deleted_names m a k None = refl
deleted_names m a k (Some w) = refl

updated_names : (m : Map) (a : Active) (k v : ℕ) (g : Option ℕ) → blockers_in (updated m a k v g).reply ≡ []
updated_names m a k v None = refl
updated_names m a k v (Some w) = refl

read_names : (m : Map) (a : Active) (c : Scan) (k v : ℕ) (x : Bool) → k == c.hi ≡ x → blockers_in (row_read m a c k v).reply ≡ []
read_names m a c k v true e = rw e refl
read_names m a c k v false e = rw e refl

looked_names : (m : Map) (a : Active) (c : Scan) (n : Name) → blockers_in (looked m a c n).reply ≡ []
looked_names m a c End = refl
looked_names m a c (Key k) = by (nat_le k c.hi) refl
  where
    by : (x : Bool) → nat_le k c.hi ≡ x → blockers_in (looked m a c (Key k)).reply ≡ []
    by true e = rw e (read_names m a c k (unwrap_or (get m k) 0) (k == c.hi) refl)
    by false e = rw e refl

back_names : (s : State) (t : ℕ) (cs : Changes) → blockers_in (one_taken_back s t cs).0 ≡ []
back_names s t [] = refl
back_names s t (c ∷ cs) = refl

module _ (p : Protocol) (s : State) (t : ℕ) where
  -- Who blocks an attempt.
  abbrev in_its_way : Step → List ℕ
  in_its_way a = blockers p s.locks t (requests (plan_of p s.map s.locks t a))

  by_list : (rs : List Request) (e : Effect) (us : List ℕ) → blockers_in e.reply ≡ [] → blockers_in (granted_or_blocked p s t rs e us).0 ≡ us
  by_list rs e [] nobody = nobody
  by_list rs e (u ∷ us) nobody = refl

  attempted_names : (a b : Step) (e : Effect) → blockers_in e.reply ≡ [] → a ≡ b → blockers_in (granted_or_blocked p s t (requests (plan_of p s.map s.locks t a)) e (in_its_way a)).0 ≡ in_its_way b
  attempted_names a b e nobody is = by_list (requests (plan_of p s.map s.locks t a)) e (in_its_way a) nobody ∙ ap in_its_way is

  performed_names : (o : Op) (a : Step) → attempt_of s.map (standing s t).scan o ≡ Some a → blockers_in (performed p s t o).0 ≡ in_its_way a
  performed_names (op.Fetch k) a is = attempted_names (attempt.Fetch k) a (fetched s.map (standing s t) (get s.map k)) (fetched_names s.map (standing s t) (get s.map k)) (some_step (attempt.Fetch k) a is)
  performed_names (op.Insert k v) a is = attempted_names (attempt.Insert k) a (inserted s.map (standing s t) k v (get s.map k)) (inserted_names s.map (standing s t) k v (get s.map k)) (some_step (attempt.Insert k) a is)
  performed_names (op.Delete k) a is = attempted_names (attempt.Delete k) a (deleted s.map (standing s t) k (get s.map k)) (deleted_names s.map (standing s t) k (get s.map k)) (some_step (attempt.Delete k) a is)
  performed_names (op.Update k v) a is = attempted_names (attempt.Update k) a (updated s.map (standing s t) k v (get s.map k)) (updated_names s.map (standing s t) k v (get s.map k)) (some_step (attempt.Update k) a is)
  performed_names (op.Scan lo hi) a is =
      let c = begun lo hi in
      attempted_names (attempt.Look (name_to_look s.map c) hi) a (looked s.map (standing s t) c (name_to_look s.map c)) (looked_names s.map (standing s t) c (name_to_look s.map c)) (some_step (attempt.Look (name_to_look s.map c) hi) a is)
  performed_names op.Go a is = by (standing s t).scan refl
    where
      by : (c : Option Scan) → (standing s t).scan ≡ c → blockers_in (performed p s t op.Go).0 ≡ in_its_way a
      by None e = absurd (cc (e, is))
      by (Some c) e =
          rw e (attempted_names (attempt.Look (name_to_look s.map c) c.hi) a (looked s.map (standing s t) c (name_to_look s.map c)) (looked_names s.map (standing s t) c (name_to_look s.map c)) (some_step (attempt.Look (name_to_look s.map c) c.hi) a (ap (look_of s.map) (sym e) ∙ is)))
  performed_names op.Commit a is = absurd (cc)
  performed_names op.Abort a is = absurd (cc)
  performed_names op.Back a is = absurd (cc)

  performed_alone : (o : Op) → attempt_of s.map (standing s t).scan o ≡ None → blockers_in (performed p s t o).0 ≡ []
  performed_alone (op.Fetch k) is = absurd (cc)
  performed_alone (op.Insert k v) is = absurd (cc)
  performed_alone (op.Delete k) is = absurd (cc)
  performed_alone (op.Update k v) is = absurd (cc)
  performed_alone (op.Scan lo hi) is = absurd (cc)
  performed_alone op.Go is = by (standing s t).scan refl
    where
      by : (c : Option Scan) → (standing s t).scan ≡ c → blockers_in (performed p s t op.Go).0 ≡ []
      by None e = rw e refl
      by (Some c) e = absurd (cc (e, is))
  performed_alone op.Commit is = refl
  performed_alone op.Abort is = refl
  performed_alone op.Back is = back_names s t (standing s t).changes

  -- An operation that is refused is blocked by nobody.
  pub refused_names : (o : Op) (r : Refusal) → refusal_of p s t o ≡ Some r → blockers_in (step p s t o).0 ≡ []
  refused_names o r is = ap (λ x. blockers_in (unless_refused p s t o x).0) is

  -- Another one is blocked by those whose locks conflict with what it requests, if it requests something.
  pub requested_names : (o : Op) (plan : Option Plan) → refusal_of p s t o ≡ None → plan ≡ option_map (plan_of p s.map s.locks t) (attempt_of s.map (standing s t).scan o)
      → IfSome plan (λ x. blockers_in (step p s t o).0 ≡ blockers p s.locks t (requests x))
  requested_names o plan allowed is = by (attempt_of s.map (standing s t).scan o) refl plan is
    where
      some_plan : (x y : Plan) → ◌≡◌ {A = Option Plan} (Some y) (Some x) → x ≡ y
      some_plan x y e = cc

      by : (a : Option Step) → attempt_of s.map (standing s t).scan o ≡ a → (x : Option Plan) → x ≡ option_map (plan_of p s.map s.locks t) a → IfSome x (λ y. blockers_in (step p s t o).0 ≡ blockers p s.locks t (requests y))
      by a e None h = tt
      by None e (Some y) h = absurd (cc)
      by (Some a) e (Some y) h =
          ap (λ x. blockers_in (unless_refused p s t o x).0) allowed ∙ performed_names o a e ∙ ap (λ x. blockers p s.locks t (requests x)) (some_plan (plan_of p s.map s.locks t a) y h)

  -- One that requests nothing is blocked by nobody.
  pub unrequested_names : (o : Op) (plan : Option Plan) → refusal_of p s t o ≡ None → plan ≡ option_map (plan_of p s.map s.locks t) (attempt_of s.map (standing s t).scan o) → plan ≡ None → blockers_in (step p s t o).0 ≡ []
  unrequested_names o plan allowed is none = by (attempt_of s.map (standing s t).scan o) refl (sym none ∙ is)
    where
      by : (a : Option Step) → attempt_of s.map (standing s t).scan o ≡ a → None ≡ option_map (plan_of p s.map s.locks t) a → blockers_in (step p s t o).0 ≡ []
      by None e h = ap (λ x. blockers_in (unless_refused p s t o x).0) allowed ∙ performed_alone o e
      by (Some a) e h = absurd (cc)
