use Rattle.std.proofs.Common.{ℕ, ◌<◌, List, length, reverse}
use Rattle.kr_deadlock.specs.declared.Waiting.{Waiting}
use Rattle.kr_deadlock.specs.Search.{IsTree, IsWay}
use Rattle.kr_deadlock.proofs.path_to.Given as goal

abbrev pub invariant-loop-at : goal.invariant-loop-at
invariant-loop-at l = record {
  within : l.at < length l.found;
  way : (waits : List Waiting) (asker : ℕ) → IsTree waits asker l.found → IsWay waits l.found l.at l.last (reverse l.path.items);
}

abbrev pub decreases-loop-at : goal.decreases-loop-at
decreases-loop-at l = l.at
