use Rattle.std.proofs.Common.{◌∷◌, take}
use Rattle.std.specs.List.{AllZip}
use Rattle.kr_records.specs.Waits.{IsEntry, in_the_way}
use Rattle.kr_engine.proofs.waits.entries.Given as goal

-- there are entries so far
abbrev pub invariant-loop-other : goal.invariant-loop-other
invariant-loop-other g l = AllZip (IsEntry (in_the_way (g.P.Protocol.table l.fn.machine.protocol) l.fn.machine.state)) (l.fn.event ∷ take l.other-index l.noted) l.waits.items
