use Rattle.std.proofs.Common.{◌≡◌, ◌<◌, ◌≤◌, ℕ, List, Contains, true, length, get_or}
use Rattle.kr_deadlock.specs.declared.Waiting.{Waiting}
use Rattle.kr_records.specs.Waits.{AreDeadlocked, HaveEntries, is_blocked_in}
use Rattle.kr_records.proofs.wakes.shed.Given as goal

-- those before the place are there still, and so are those that are deadlocked; nobody came; where none was taken out, those from the place on are held
abbrev pub invariant-loop-place : goal.invariant-loop-place
invariant-loop-place l = record {
  there : l.place ≤ length l.waits.items;
  few : length l.waits.items ≤ l.count;
  held : length l.waits.items ≡ l.count → (j : ℕ) → l.place ≤ j → j < length l.waits.items → (d : Waiting) → is_blocked_in l.waits.items (get_or l.waits.items j d) ≡ true;
  given : (w : Waiting) → Contains l.waits.items w → Contains l.fn.waits.items w;
  kept : (blockers : ℕ → List ℕ) (txns : List ℕ) → AreDeadlocked blockers txns → HaveEntries blockers txns l.fn.waits.items → HaveEntries blockers txns l.waits.items;
}
