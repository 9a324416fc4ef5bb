-- What is known of a step of a script by the run before it.
use Rattle.std.specs.Prelude.{◌≡◌, ◌<◌, ℕ, Some, Contains}
use Rattle.kr_model.specs.declared.Cover.{Cover}
use Rattle.kr_model.specs.declared.Name.{Name}
use Rattle.kr_model.specs.Covers.{must_conflict}
use Rattle.kr_model.specs.Plan.{Access, access}
use Rattle.kr_model.specs.Protocol.{Protocol}
use Rattle.kr_explain_runs.specs.declared.counterexample.Counterexample.{Counterexample}
use Rattle.kr_explain_runs.specs.declared.marks.Marks.{Marks}
use Rattle.kr_explain_runs.specs.declared.moment.Moment.{Moment}
use Rattle.kr_explain_runs.specs.Marks.{IsAside, access_at, state_before}
use Rattle.kr_explain_runs.specs.Requests.{IsOn, name_at, txn_at}

-- The moment is that of the step at its place, which requests locks.
pub record IsMoment (p : Protocol) (c : Counterexample) (m : Moment) : Type 0 where
  pub txn : txn_at c.events.items m.place ≡ Some m.txn
  pub access : access_at p c.opening.items c.events.items m.place ≡ Some (access m.access.0 m.access.1 m.access.2)
  pub locks : m.locks ≡ (let s = state_before p c.opening.items c.events.items m.place in s.locks)

-- The moment is that of the step at this place.
pub record IsMomentAt (p : Protocol) (c : Counterexample) (place : ℕ) (m : Moment) : Type 0 where
  pub at : m.place ≡ place
  pub moment : IsMoment p c m

-- The steps behind the one whose lock is too weak, and before this place, request nothing of the holder's on the name.
abbrev pub AreAside : Protocol → Counterexample → Name → ℕ → Type 0
AreAside p c n place = (k : ℕ) → c.weak < k → k < place → IsAside p c n k

-- The step goes by the row of the script, its lock at the script's side is on the name, and a lock with the cover must conflict with it.
pub record IsLetIn (p : Protocol) (cover : Cover) (c : Counterexample) (through : Access) (name : Name) : Type 0 where
  pub row : through.row ≡ c.row
  pub at_side : name_at c.side through ≡ Some name
  pub kept_out : Contains (must_conflict p cover) (c.row, c.side)

-- The marks are those of the script: the two steps are on one name, the one whose lock is too weak comes first, and a lock with the cover must conflict with the other.
pub record AreMarksOf (p : Protocol) (cover : Cover) (c : Counterexample) (m : Marks) : Type 0 where
  pub through : IsMomentAt p c c.let_in m.through
  pub own : IsMomentAt p c c.weak m.own
  pub let_in : IsLetIn p cover c (access m.through.access.0 m.through.access.1 m.through.access.2) m.name
  pub before : c.weak < c.let_in
  pub on_name : IsOn m.name (access m.own.access.0 m.own.access.1 m.own.access.2)
