use Rattle.std.proofs.Common.{◌≡◌, ◌≤◌, ◌<◌, ◌-◌, ℕ, length, get_or}
use Rattle.kr_cli_diagnosis.proofs.place.line_end.Given as goal

abbrev pub invariant-loop-end : goal.invariant-loop-end
invariant-loop-end l = record {
  behind : l.offset ≤ l.end;
  within : l.end ≤ length l.text;
  one_line : (k : ℕ) → l.offset ≤ k → k < l.end → get_or l.text k 0 ≡ 10 → ⊥;
}

abbrev pub decreases-loop-end : goal.decreases-loop-end
decreases-loop-end l = length l.text - l.end
