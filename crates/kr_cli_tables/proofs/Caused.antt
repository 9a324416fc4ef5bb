-- What holds of a sink where output failed.
use Rattle.std.specs.Prelude.{Result, Ok, Err, IfErr}

pub caused : {T E : Type 0} (r : Result T E) (Q : E → Type 0) (A : Type 0) → A → IfErr r (λ e. Q e → A)
caused (Ok x) Q A a = tt
caused (Err e) Q A a = λ _. a
