-- Who is in the way of an operation is whom it waits for.
use Rattle.std.proofs.Common.{◌≡◌, ℕ, ◌==◌, ◌||◌, Bool, true, false, cond, List, [], ◌∷◌, ◌++◌, refl, ap, sym, ◌∙◌, subst, arith}
use Rattle.std.specs.List.{Contains, list_any}
use Rattle.std.proofs.lemmas.Bool.{eqb-true, eq-eqb, false≢true}
use Rattle.kr_model.specs.declared.Event.{Event}
use Rattle.kr_model.specs.declared.Op.{Op}
use Rattle.kr_model.specs.Protocol.{Protocol}
use Rattle.kr_model.specs.State.{State}
use Rattle.kr_deadlock.specs.Waits.{IsChain, IsCycle}
use Rattle.kr_records.specs.Histories.{event}
use Rattle.kr_records.specs.Waits.{in_the_way, blockers_now, Waits, WaitOn, IsWaitCycle}

none_blocks : (u : ℕ) → Contains [] u → ⊥
none_blocks u c = omega (arith, c.1)

-- Those in the way of t's operation are those for whom it waits.
pub waits_of : (p : Protocol) (s : State) (es : List Event) (t u : ℕ) → Contains (blockers_now (in_the_way p s) es t) u → Waits p s es t u
waits_of p s [] t u c = absurd (none_blocks u c)
waits_of p s (e ∷ es) t u c = by (e.txn == t) refl (waits_of p s es t u)
  where
    at : (b : Bool) → (e.txn == t) ≡ b → Contains (cond b (in_the_way p s e) (blockers_now (in_the_way p s) es t)) u
    at b is = subst (λ (x : Bool). Contains (cond x (in_the_way p s e) (blockers_now (in_the_way p s) es t)) u) is c

    by : (b : Bool) → (e.txn == t) ≡ b → (Contains (blockers_now (in_the_way p s) es t) u → Waits p s es t u) → Waits p s (e ∷ es) t u
    by true is later =
        let same : e.txn ≡ t = eqb-true e.txn t is in
        record { before = []; op = e.op; after = es; list = λ i. event (same i) e.op ∷ es; first = refl; waits = subst (λ (n : ℕ). Contains (in_the_way p s (event n e.op)) u) same (at true is) }
    by false is later =
        let w = later (at false is) in
        record { before = e ∷ w.before; op = w.op; after = w.after; list = ap (λ l. e ∷ l) w.list; first = ap (λ b. b || list_any (λ (d : Event). d.txn == t) w.before) is ∙ w.first; waits = w.waits }

now_at : (f : Event → List ℕ) (before : List Event) (t : ℕ) (o : Op) (after : List Event) → list_any (λ e. e.txn == t) before ≡ false → blockers_now f (before ++ event t o ∷ after) t ≡ f (event t o)
now_at f [] t o after none = ap (λ b. cond b (f (event t o)) (blockers_now f after t)) (eq-eqb t t refl)
now_at f (e ∷ es) t o after none = by (e.txn == t) refl none (now_at f es t o after)
  where
    by : (b : Bool) → (e.txn == t) ≡ b → (b || list_any (λ d. d.txn == t) es) ≡ false → (list_any (λ d. d.txn == t) es ≡ false → blockers_now f (es ++ event t o ∷ after) t ≡ f (event t o))
        → cond (e.txn == t) (f e) (blockers_now f (es ++ event t o ∷ after) t) ≡ f (event t o)
    by true is none later = absurd (false≢true (sym none))
    by false is none later = ap (λ b. cond b (f e) (blockers_now f (es ++ event t o ∷ after) t)) is ∙ later none

pub waits_back : (p : Protocol) (s : State) (es : List Event) (t u : ℕ) → Waits p s es t u → Contains (blockers_now (in_the_way p s) es t) u
waits_back p s es t u w =
    subst (λ l. Contains l u) (sym (ap (λ l. blockers_now (in_the_way p s) l t) w.list ∙ now_at (in_the_way p s) w.before t w.op w.after w.first)) w.waits

chain_waits : (p : Protocol) (s : State) (es : List Event) (t : ℕ) (us : List ℕ) (end : ℕ) → IsChain (blockers_now (in_the_way p s) es) t us end → WaitOn (Waits p s es) t us end
chain_waits p s es t [] end c = waits_of p s es t end c
chain_waits p s es t (u ∷ us) end c = (waits_of p s es t u c.0, chain_waits p s es u us end c.1)

chain_back : (p : Protocol) (s : State) (es : List Event) (t : ℕ) (us : List ℕ) (end : ℕ) → WaitOn (Waits p s es) t us end → IsChain (blockers_now (in_the_way p s) es) t us end
chain_back p s es t [] end w = waits_back p s es t end w
chain_back p s es t (u ∷ us) end w = (waits_back p s es t u w.0, chain_back p s es u us end w.1)

-- A cycle of those in the way is a cycle of transactions that wait for one another, and the other way round.
pub cycle_waits : (p : Protocol) (s : State) (es : List Event) (t : ℕ) (cycle : List ℕ) → IsCycle (blockers_now (in_the_way p s) es) t cycle → IsWaitCycle p s es t cycle
cycle_waits p s es t [] c = absurd c.blocked
cycle_waits p s es t (u ∷ us) c = record { first = c.first; distinct = c.distinct; waits = chain_waits p s es u us t c.blocked }

pub cycle_back : (p : Protocol) (s : State) (es : List Event) (t : ℕ) (cycle : List ℕ) → IsWaitCycle p s es t cycle → IsCycle (blockers_now (in_the_way p s) es) t cycle
cycle_back p s es t [] c = absurd c.waits
cycle_back p s es t (u ∷ us) c = record { first = c.first; distinct = c.distinct; blocked = chain_back p s es u us t c.waits }
