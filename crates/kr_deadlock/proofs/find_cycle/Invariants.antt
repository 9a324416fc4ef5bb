use Rattle.std.proofs.Common.{◌+◌, ◌-◌, ◌≤◌, length}
use Rattle.std.specs.BTreeMap.{btree_map_len}
use Rattle.kr_deadlock.specs.Search.{IsSearch, AreFollowedBelow}
use Rattle.kr_deadlock.proofs.find_cycle.Given as goal

abbrev pub invariant-loop-next : goal.invariant-loop-next
invariant-loop-next l = record {
  search : IsSearch l.waits l.asker l.found.items l.unfound;
  within : l.next ≤ length l.found.items;
  followed : AreFollowedBelow l.waits l.asker l.found.items l.unfound l.next;
}

abbrev pub decreases-loop-next : goal.decreases-loop-next
decreases-loop-next l = length l.found.items - l.next + btree_map_len l.unfound
