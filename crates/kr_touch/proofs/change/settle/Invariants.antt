use Rattle.std.proofs.Common.{◌≡◌, ℕ, ◌+◌, ◌≤◌, length, reverse}
use Rattle.kr_touch.specs.Pins.{changes_of}
use Rattle.kr_touch.proofs.change.settle.Given as goal

-- Each change that is left has its pin, and the others have given theirs up.
abbrev pub invariant-loop-key : goal.invariant-loop-key
invariant-loop-key g l = record {
  same : g.I.Ordered.map l.index ≡ g.I.Ordered.map l.initial.index;
  pins : (q : ℕ) → g.I.Ordered.pins l.index q + changes_of (reverse l.initial.changes.items) q ≡ g.I.Ordered.pins l.initial.index q + changes_of (reverse l.changes.items) q;
  enough : (q : ℕ) → changes_of (reverse l.changes.items) q ≤ g.I.Ordered.pins l.index q;
}

-- The changes get fewer.
abbrev pub decreases-loop-key : goal.decreases-loop-key
decreases-loop-key g l = length l.changes.items
