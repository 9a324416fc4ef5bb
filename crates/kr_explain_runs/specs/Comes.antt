-- What the closure of a table says of the table.
use Rattle.std.specs.Prelude.{◌≡◌, List, Some, IsTrue, All}
use Rattle.kr_model.specs.declared.Event.{Event}
use Rattle.kr_model.specs.declared.FailedCase.{FailedCase}
use Rattle.kr_model.specs.declared.Name.{Name}
use Rattle.kr_model.specs.declared.Op.{Op}
use Rattle.kr_model.specs.declared.Side.{Side}
use Rattle.kr_model.specs.Protocol.{Protocol}
use Rattle.kr_model.specs.Map.{Map, IsMap}
use Rattle.kr_model.specs.Plan.{Access}
use Rattle.kr_model.specs.State.{start}
use Rattle.kr_model.specs.Run.{Trace, run, replies_of, is_granted}
use Rattle.kr_explain_runs.specs.declared.closure.Closure.{Closure}
use Rattle.kr_explain_runs.specs.Requests.{IsRequestOf, access_in, name_at}
use Rattle.kr_explain_runs.specs.Reached.{IsReached}

-- The closure is one of p: a script leads to each of its states under p.
abbrev pub IsClosureOf : Protocol → Closure → Type 0
IsClosureOf p c = All (λ r. IsReached p r.state) c.reached.items

-- A run leads transaction 1 to a case of p: all its steps are granted, and at the run's end this operation of it makes the request that the case is about.
pub record LeadsTo (p : Protocol) (f : FailedCase) (r : Trace) : Type 0 where
  pub granted : All (λ reply. IsTrue (is_granted reply)) (replies_of r.history)
  pub op : Op
  pub access : Access
  pub access_is : access_in r.state.map op ≡ Some access
  pub name : Name
  pub side : Side
  pub at_side : name_at side access ≡ Some name
  pub request : IsRequestOf p f.case f.from r.state.locks 1 name side access

-- A transaction can come to a case under p: some script leads there.
abbrev pub CanComeTo : Protocol → FailedCase → Type 0
CanComeTo p f = ∥ ((opening : Map) × ((events : List Event) × (IsMap opening × LeadsTo p f (run p (start opening) events)))) ∥₁
