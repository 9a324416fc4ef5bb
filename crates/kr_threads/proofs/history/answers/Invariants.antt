use Rattle.std.proofs.Common.{◌≡◌, map}
use Rattle.kr_threads.specs.Threaded.{answered}
use Rattle.kr_threads.proofs.history.answers.Given as goal

-- the entries so far, as steps with replies
abbrev pub invariant-loop-entry : goal.invariant-loop-entry
invariant-loop-entry l = l.list.items ≡ map answered l.yielded
