use Rattle.std.proofs.Common.{◌≡◌, ℕ, ◌+◌, ◌≤◌, length, reverse}
use Rattle.kr_model.specs.Map.{restore_all}
use Rattle.kr_ghost.specs.State.{ghosts_restored}
use Rattle.kr_touch.specs.Pins.{changes_of}
use Rattle.kr_ghost_index.specs.Index.{changes}
use Rattle.kr_ghost_machine.proofs.ends.undo.Given as goal

-- To undo what is left comes to the same, and the changes that are left are counted.
abbrev pub invariant-loop-key : goal.invariant-loop-key
invariant-loop-key l = record {
  map : restore_all l.index.map (reverse l.changes.items) ≡ restore_all l.initial.index.map (reverse l.initial.changes.items);
  ghosts : ghosts_restored l.index.ghosts (reverse l.changes.items) ≡ ghosts_restored l.initial.index.ghosts (reverse l.initial.changes.items);
  counts : (q : ℕ) → changes l.index q + changes_of (reverse l.initial.changes.items) q ≡ changes l.initial.index q + changes_of (reverse l.changes.items) q;
  enough : (q : ℕ) → changes_of (reverse l.changes.items) q ≤ changes l.index q;
}

-- The changes get fewer.
abbrev pub decreases-loop-key : goal.decreases-loop-key
decreases-loop-key l = length l.changes.items
