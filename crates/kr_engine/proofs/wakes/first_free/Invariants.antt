use Rattle.std.proofs.Common.{◌≢◌, [], All, take}
use Rattle.kr_records.specs.Waits.{in_the_way}
use Rattle.kr_engine.proofs.wakes.first_free.Given as goal

-- the operations so far are blocked
abbrev pub invariant-loop-event : goal.invariant-loop-event
invariant-loop-event g l = All (λ e. in_the_way (g.P.Protocol.table l.fn.machine.protocol) l.fn.machine.state e ≢ []) (take l.event-index l.noted)
