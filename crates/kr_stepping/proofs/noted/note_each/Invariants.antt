use Rattle.std.proofs.Common.{◌≡◌, drop}
use Rattle.kr_stepping.proofs.Rest.{IsRest}
use Rattle.kr_stepping.proofs.noted.note_each.Given as goal

-- the machine has its protocol, and what is left of the run gives what is left to answer
abbrev pub invariant-loop-next : goal.invariant-loop-next
invariant-loop-next g l = record {
  index : g.M.Stepping.index l.stepper ≡ g.M.Stepping.index l.fn.stepper;
  rest : IsRest (g.M.Stepping.index l.fn.stepper) (g.M.Stepping.state l.fn.stepper) l.fn.log.log l.moves (g.M.Stepping.state l.stepper) l.log.log (drop l.next-index l.moves) l.given.items;
}
