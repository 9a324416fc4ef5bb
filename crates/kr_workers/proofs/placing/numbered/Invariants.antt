use Rattle.std.proofs.Common.{◌≡◌, length, take}
use Rattle.kr_workers.specs.Placed.{AreNumbers, AreCounts}
use Rattle.kr_workers.proofs.placing.numbered.Given as goal

-- the numbers of the events so far, and how many of them each transaction has
abbrev pub invariant-loop-event : goal.invariant-loop-event
invariant-loop-event l = record {
  long : length l.numbers.items ≡ l.event-index;
  numbers : AreNumbers l.numbers.items l.events;
  counts : AreCounts l.counts (take l.event-index l.events);
}
