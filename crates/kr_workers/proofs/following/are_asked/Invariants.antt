use Rattle.std.proofs.Common.{take}
use Rattle.std.specs.Prelude.{All}
use Rattle.kr_workers.specs.Dealt.{IsAsked}
use Rattle.kr_workers.proofs.following.are_asked.Given as goal

-- The faults so far are asked.
abbrev pub invariant-loop-fault : goal.invariant-loop-fault
invariant-loop-fault l = All (IsAsked l.script) (take l.fault-index l.faults)
