use Rattle.std.specs.Prelude.{◌++◌, ◌∷◌, [], ℕ, List}
use Rattle.std.proofs.Common.{ap}
use Rattle.kr_trace_parts.specs.Tales.{committed_in}
use Rattle.kr_trace_parts.proofs.serial.JudgingPart.end.Goals as goal

pub returns : goal.returns
returns c s h _ =
    (c.verdict_of-verdict.result, (c.verdict_of-verdict.ensures s.opening (committed_in s.steps) h.first, (ap (λ (z : List ℕ). z ++ 10 ∷ []) c.in_ok-line.ensures, c.is_serial.ensures)))
