use Rattle.std.proofs.Common.{take}
use Rattle.kr_deadlock.specs.Search.{IsFollowing}
use Rattle.kr_deadlock.proofs.follow.Given as goal

abbrev pub invariant-loop-blocker : goal.invariant-loop-blocker
invariant-loop-blocker l = IsFollowing l.waits l.asker l.fn.found.items l.fn.unfound l.found.items l.unfound (take l.blocker-index l.blocker-items)
