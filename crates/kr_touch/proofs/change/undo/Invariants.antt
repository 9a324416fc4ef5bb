use Rattle.std.proofs.Common.{◌≡◌, ℕ, ◌+◌, ◌≤◌, length, reverse}
use Rattle.kr_model.specs.Map.{restore_all}
use Rattle.kr_touch.specs.Pins.{changes_of}
use Rattle.kr_touch.proofs.change.undo.Given as goal

-- To undo what is left comes to the same, and each change that is left has its pin.
abbrev pub invariant-loop-key : goal.invariant-loop-key
invariant-loop-key g l = record {
  back : restore_all (g.I.Ordered.map l.index) (reverse l.changes.items) ≡ restore_all (g.I.Ordered.map l.initial.index) (reverse l.initial.changes.items);
  pins : (q : ℕ) → g.I.Ordered.pins l.index q + changes_of (reverse l.initial.changes.items) q ≡ g.I.Ordered.pins l.initial.index q + changes_of (reverse l.changes.items) q;
  enough : (q : ℕ) → changes_of (reverse l.changes.items) q ≤ g.I.Ordered.pins l.index q;
}

-- The changes get fewer.
abbrev pub decreases-loop-key : goal.decreases-loop-key
decreases-loop-key g l = length l.changes.items
