-- Runs under two tables that have a closed set have the same history.
use Rattle.std.proofs.Common.{ℕ, ◌≡◌, inl, refl, sym, ap, List, [], ◌∷◌, IsTrue, subst}
use Rattle.kr_model.specs.declared.Event.{Event}
use Rattle.kr_model.specs.declared.Op.{Op}
use Rattle.kr_model.specs.declared.Row.{Row}
use Rattle.kr_model.specs.declared.Side.{Side}
use Rattle.kr_model.specs.Protocol.{Protocol, IsLawful}
use Rattle.kr_model.specs.Locks.{Locks}
use Rattle.kr_model.specs.State.{State, start}
use Rattle.kr_model.specs.Step.{Outcome, step}
use Rattle.kr_model.specs.Map.{Map}
use Rattle.kr_model.specs.Run.{Entry, Trace, programs, run}
use Rattle.kr_model.specs.Serial.{AreSerial, IsSerialRun, RunsAreSerial, all_operations, map_left, rolled_back}
use Rattle.std.specs.List.Sorted.{IsPermutation}
use Rattle.kr_alike.specs.Alike.{Alike, IsSameRun}
use Rattle.kr_alike.specs.declared.modes.Modes.{Modes}
use Rattle.kr_alike.specs.Closed.{IsClosedFor, IsClosed, HasClosedSet}
use Rattle.kr_alike.proofs.Held.{modes, AreIn}
use Rattle.kr_alike.proofs.Steps.{with_locks, Comes, IsSame, step_same}

-- An invariant I of the steps under the first table says what requests may come.
module _ (p q : Protocol) (lawful : IsLawful p) (lawful_too : IsLawful q) (updates : p.updates ≡ q.updates) (May : Row → Side → ℕ → ℕ → ℕ → Type 0) (R : Modes → Modes → Type 0) (closed : IsClosedFor p q May R)
    (I : State → Type 0) (keeps : (s : State) (t : ℕ) (o : Op) → I s → let x = step p s t o in I x.1) (comes : (s : State) (t : ℕ) → I s → Comes p May s t) where
  -- By induction on the events.
  pub run_same : (es : List Event) (s : State) (k : Locks) → I s → AreIn R (modes s.locks k) → IsSameRun (run p s es) (run q (with_locks s k) es)
  run_same [] s k i are = record { history = refl; map = refl; active = refl }
  run_same (e ∷ es) s k i are =
      let o = step p s e.txn e.op in
      let is : IsSame R o (step q (with_locks s k) e.txn e.op) = step_same p q lawful lawful_too updates May R closed s k are e.txn (comes s e.txn i) e.op in
      let rest : IsSameRun (run p o.1 es) (run q (with_locks o.1 is.locks) es) = run_same es o.1 is.locks (keeps s e.txn e.op i) is.held in
      let one : Outcome → Trace = λ x. let r = run q x.1 es in record { history = (e, x.0) ∷ r.history; state = r.state } in
      subst (λ (x : Outcome). IsSameRun (run p s (e ∷ es)) (one x)) (sym is.same) (record { history = ap (λ (h : List Entry). (e, o.0) ∷ h) rest.history; map = rest.map; active = rest.active })

  -- From the start no lock is held.
  pub run_same_from : (opening : Map) (events : List Event) → I (start opening) → IsSameRun (run p (start opening) events) (run q (start opening) events)
  run_same_from opening events i = run_same events (start opening) [] i (λ t u n ne. closed.start)

-- Where each request is thought to come.
abbrev Any : Row → Side → ℕ → ℕ → ℕ → Type 0
Any r s x n y = Unit {0}

any_closed : (p q : Protocol) (R : Modes → Modes → Type 0) → IsClosed p q R → IsClosedFor p q Any R
any_closed p q R closed = record { within = closed.within; start = closed.start; turn = closed.turn; leave = closed.leave; answer = λ r s x y n may. closed.answer r s x y n; move = λ r s x y n may. closed.move r s x y n }

pub closed_is_alike : (p q : Protocol) → IsLawful p → IsLawful q → HasClosedSet p q → Alike p q
closed_is_alike p q lawful lawful_too set opening events =
    run_same_from p q lawful lawful_too set.updates Any (λ x y. IsTrue (set.has x y)) (any_closed p q (λ x y. IsTrue (set.has x y)) set.closed)
    (λ s. Unit {0}) (λ s t o i. tt) (λ s t i forward a is u ne. record { next = λ n e. tt; current = inl (λ n e. tt) }) opening events tt

pub serial_too : (opening : Map) (a b : Trace) → IsSameRun a b → IsSerialRun opening a → IsSerialRun opening b
serial_too opening a b same (serial, left) = (
  subst (λ h. AreSerial opening (programs h)) same.history serial,
  λ unfinished is. subst (λ m. rolled_back m unfinished ≡ map_left opening (all_operations (programs b.history))) same.map
      (subst (λ h. rolled_back a.state.map unfinished ≡ map_left opening (all_operations (programs h))) same.history
      (left unfinished (subst (λ l. IsPermutation l unfinished) (sym same.active) is))),
)

pub alike_are_serial : (p q : Protocol) → Alike p q → RunsAreSerial p → RunsAreSerial q
alike_are_serial p q alike serial opening events is = serial_too opening (run p (start opening) events) (run q (start opening) events) (alike opening events) (serial opening events is)
