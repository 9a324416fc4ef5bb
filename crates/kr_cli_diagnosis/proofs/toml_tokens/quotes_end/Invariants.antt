use Rattle.std.proofs.Common.{◌≤◌, ◌-◌, length}
use Rattle.kr_cli_diagnosis.proofs.toml_tokens.quotes_end.Given as goal

abbrev pub invariant-loop-end : goal.invariant-loop-end
invariant-loop-end l = l.fn.from ≤ l.end

abbrev pub decreases-loop-end : goal.decreases-loop-end
decreases-loop-end l = length l.text - l.end
