use Rattle.std.proofs.Common.{ℕ, ◌<◌, ◌≡◌, true, length, IsTrue, ◌↔◌}
use Rattle.std.specs.Prelude.{slice_index_or}
use Rattle.kr_alike.specs.Coming.{MayBeLeft}
use Rattle.kr_alike.proofs.left.all_left.Given as goal

abbrev pub invariant-loop-mode : goal.invariant-loop-mode
invariant-loop-mode g l = record {
  size : length l.marks.items ≡ l.mode;
  marked : (m : ℕ) → m < l.mode → IsTrue (slice_index_or l.marks.items m true) ↔ MayBeLeft (g.P.Protocol.table l.protocol) m;
}
