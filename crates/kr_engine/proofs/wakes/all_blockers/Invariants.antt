use Rattle.std.proofs.Common.{take}
use Rattle.std.specs.List.{AllZip}
use Rattle.kr_records.specs.Waits.{IsEntry, in_the_way}
use Rattle.kr_engine.proofs.wakes.all_blockers.Given as goal

-- there are entries so far
abbrev pub invariant-loop-event : goal.invariant-loop-event
invariant-loop-event g l = AllZip (IsEntry (in_the_way (g.P.Protocol.table l.fn.machine.protocol) l.fn.machine.state)) (take l.event-index l.noted) l.waits.items
