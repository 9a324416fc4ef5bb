-- The first of some faults, and what it is to tell it. F are the faults, and E what a reader answers for one.
use Rattle.std.specs.Prelude.{◌≡◌, List, [], ◌∷◌, Bool, if◌then◌else◌, Option, Some, None, IfSome, Result, Ok, Err}

-- The first element of a list, if it has one.
abbrev pub first : {F : Type 0} → List F → Option F
first [] = None
first (f ∷ fs) = Some f

-- What is told is the first of these faults, or memory ran out: then it tells none.
abbrev pub Tells : {E F : Type 0} → (E → Option F) → E → List F → Type 0
Tells fault_of e fs = IfSome (fault_of e) (λ f. first fs ≡ Some f)

-- A test passes where there are none of these faults, and else tells the first.
abbrev pub Passes : {E F : Type 0} → (E → Option F) → Result (Unit {0}) E → List F → Type 0
Passes fault_of (Ok u) fs = fs ≡ []
Passes fault_of (Err e) fs = Tells fault_of e fs

-- This fault, unless the test holds.
abbrev pub unless : {F : Type 0} → Bool → F → List F
unless b f = if b then [] else f ∷ []
