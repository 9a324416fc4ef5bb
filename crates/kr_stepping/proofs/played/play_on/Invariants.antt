use Rattle.std.proofs.Common.{◌≡◌, ◌++◌, drop}
use Rattle.kr_stepping.specs.Played.{replies_from}
use Rattle.kr_stepping.proofs.played.play_on.Given as goal

-- the machine has its protocol, and the replies so far, then those to the events left, are those to all
abbrev pub invariant-loop-event : goal.invariant-loop-event
invariant-loop-event g l = record {
  index : g.M.Stepping.index l.stepper ≡ g.M.Stepping.index l.fn.stepper;
  rest : l.replies.items ++ replies_from (g.M.Stepping.index l.stepper) (g.M.Stepping.state l.stepper) (drop l.event-index l.events) ≡ replies_from (g.M.Stepping.index l.fn.stepper) (g.M.Stepping.state l.fn.stepper) l.events;
}
