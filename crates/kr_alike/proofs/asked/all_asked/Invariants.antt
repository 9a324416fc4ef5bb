use Rattle.std.proofs.Common.{ℕ, ◌<◌, ◌≡◌, length}
use Rattle.kr_alike.specs.Asked.{IsMarked}
use Rattle.kr_alike.proofs.asked.all_asked.Given as goal

abbrev pub invariant-loop-place : goal.invariant-loop-place
invariant-loop-place g l = record {
  size : length l.marks.items ≡ l.place;
  marked : (k : ℕ) → k < l.place → IsMarked (g.P.Protocol.table l.protocol) l.marks.items k;
}
