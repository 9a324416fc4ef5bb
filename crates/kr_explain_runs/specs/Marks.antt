-- The marked steps of a script that was made from a failed case: the one whose lock is too weak, and the one that comes through.
use Rattle.std.specs.Prelude.{◌≡◌, ◌≢◌, ◌⊎◌, ◌<◌, ◌+◌, ℕ, List, Option, Some, Contains, option_and_then, slice_get, take}
use Rattle.kr_model.specs.declared.Event.{Event}
use Rattle.kr_model.specs.declared.FailedCase.{FailedCase}
use Rattle.kr_model.specs.declared.Name.{Name}
use Rattle.kr_model.specs.declared.Side.{Side}
use Rattle.kr_model.specs.Protocol.{Protocol}
use Rattle.kr_model.specs.Map.{Map}
use Rattle.kr_model.specs.Covers.{must_conflict}
use Rattle.kr_model.specs.Locks.{own}
use Rattle.kr_model.specs.Plan.{Access}
use Rattle.kr_model.specs.State.{State, start}
use Rattle.kr_model.specs.Run.{run}
use Rattle.kr_explain_runs.specs.declared.counterexample.Counterexample.{Counterexample}
use Rattle.kr_explain_runs.specs.declared.fit.Fit.{Fit}
use Rattle.kr_explain_runs.specs.declared.fit.Fit.TheVariants as fit
use Rattle.kr_theorem.specs.Wrong.{GoesWrong}
use Rattle.kr_explain_runs.specs.Requests.{IsOn, IsRequestOf, access_in, name_at, txn_at}

-- Steps --

-- The state before the step at this place, from 0, of a run.
abbrev pub state_before : Protocol → Map → List Event → ℕ → State
state_before p opening events place = let r = run p (start opening) (take place events) in r.state

-- The row and the names of the step at this place.
abbrev pub access_at : Protocol → Map → List Event → ℕ → Option Access
access_at p opening events place = option_and_then (λ e. access_in (let s = state_before p opening events place in s.map) e.op) (slice_get events place)

-- The mode that the holder of a script has on a name before the step at this place.
abbrev pub mode_before : Protocol → Counterexample → Name → ℕ → ℕ
mode_before p c n place = own (let s = state_before p c.opening.items c.events.items place in s.locks) c.holder n

-- The step at this place isn't the holder's, or it requests locks, and none on the name.
abbrev pub IsAside : Protocol → Counterexample → Name → ℕ → Type 0
IsAside p c n place = txn_at c.events.items place ≡ Some c.holder → (a : Access) × ((access_at p c.opening.items c.events.items place ≡ Some a) × (IsOn n a → ⊥))

-- The lock that is too weak --

-- The step at this place is the holder's, and its request on the name is the one that the case is about.
pub record Takes (p : Protocol) (f : FailedCase) (c : Counterexample) (n : Name) (place : ℕ) : Type 0 where
  pub holders : txn_at c.events.items place ≡ Some c.holder
  pub access : Access
  pub access_is : access_at p c.opening.items c.events.items place ≡ Some access
  pub side : Side
  pub at_side : name_at side access ≡ Some n
  pub request : IsRequestOf p f.case f.from (let s = state_before p c.opening.items c.events.items place in s.locks) c.holder n side access

-- The marked step takes the lock as the case says, and by it the holder has the case's mode.
pub record IsTaken (p : Protocol) (f : FailedCase) (c : Counterexample) (n : Name) : Type 0 where
  pub takes : Takes p f c n c.weak
  pub mode : mode_before p c n c.let_in ≡ f.mode

-- The step before the marked one takes the lock as the case says, by it the holder has the case's mode, and the marked one changes that.
pub record IsChanged (p : Protocol) (f : FailedCase) (c : Counterexample) (n : Name) : Type 0 where
  pub place : ℕ
  pub next : place + 1 ≡ c.weak
  pub takes : Takes p f c n place
  pub mode : mode_before p c n c.weak ≡ f.mode
  pub changed : mode_before p c n c.let_in ≢ f.mode

-- The lock that is too weak is the case's: taken as the case says; or, where that isn't asked, the holder has come to the case's mode in any way.
abbrev pub IsCasesLock : Protocol → FailedCase → Fit → Counterexample → Name → Type 0
IsCasesLock p f fit.Case c n = IsTaken p f c n ⊎ IsChanged p f c n
IsCasesLock p f fit.Mode c n = mode_before p c n c.let_in ≡ f.mode

-- The marks --

-- The marks of a script that was made from a failed case of p are those of its run under p.
pub record AreMarked (p : Protocol) (f : FailedCase) (fit : Fit) (c : Counterexample) : Type 0 where
  -- the step that comes through goes by the row of the script
  pub through : Access
  pub through_is : access_at p c.opening.items c.events.items c.let_in ≡ Some through
  pub row : through.row ≡ c.row
  -- its lock is on this name at the side of the script
  pub name : Name
  pub at_side : name_at c.side through ≡ Some name
  -- a lock with the case's cover must conflict with it
  pub kept_out : Contains (must_conflict p f.cover) (c.row, c.side)
  -- the step whose lock is too weak comes before it, and requests a lock on the same name
  pub before : c.weak < c.let_in
  pub own : Access
  pub own_is : access_at p c.opening.items c.events.items c.weak ≡ Some own
  pub on_name : IsOn name own
  -- in between the holder requests none there
  pub last : (place : ℕ) → c.weak < place → place < c.let_in → IsAside p c name place
  -- and the lock that it has there is the case's
  pub lock : IsCasesLock p f fit c name

-- The script goes wrong under p, and its marks are those of its run.
pub record IsShown (p : Protocol) (f : FailedCase) (fit : Fit) (c : Counterexample) : Type 0 where
  pub wrong : GoesWrong p c.opening.items c.events.items
  pub marked : AreMarked p f fit c
