use Rattle.std.proofs.Common.{◌≡◌, ℕ, ◌+◌, ◌≤◌, length, reverse}
use Rattle.kr_touch.specs.Pins.{changes_of}
use Rattle.kr_ghost_index.specs.Index.{changes}
use Rattle.kr_ghost_machine.proofs.ends.settle.Given as goal

-- The changes that are left are counted, and the others aren't any more.
abbrev pub invariant-loop-key : goal.invariant-loop-key
invariant-loop-key l = record {
  map : l.index.map ≡ l.initial.index.map;
  ghosts : l.index.ghosts ≡ l.initial.index.ghosts;
  counts : (q : ℕ) → changes l.index q + changes_of (reverse l.initial.changes.items) q ≡ changes l.initial.index q + changes_of (reverse l.changes.items) q;
  enough : (q : ℕ) → changes_of (reverse l.changes.items) q ≤ changes l.index q;
}

-- The changes get fewer.
abbrev pub decreases-loop-key : goal.decreases-loop-key
decreases-loop-key l = length l.changes.items
