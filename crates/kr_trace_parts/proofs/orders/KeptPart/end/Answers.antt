use Rattle.std.specs.Prelude.{◌++◌, ◌∷◌, [], ℕ, List}
use Rattle.std.proofs.Common.{ap}
use Rattle.kr_trace_parts.proofs.orders.KeptPart.end.Goals as goal

pub returns : goal.returns
returns c s h once = (c.in_ok-verdict.verdict, (c.in_ok-verdict.ensures s h once, (ap (λ (z : List ℕ). z ++ 10 ∷ []) c.in_ok-line.ensures, c.is_serial.ensures)))
