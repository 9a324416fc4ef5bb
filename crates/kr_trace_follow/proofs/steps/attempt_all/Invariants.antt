use Rattle.std.proofs.Common.{◌≡◌, ◌-◌, None}
use Rattle.kr_model.specs.WellFormed.{IsState}
use Rattle.kr_trace_follow.specs.Since.{IsSince, last_noted, since_along}
use Rattle.kr_trace_follow.specs.Steps.{attempt_at, last_step, all_steps}
use Rattle.kr_trace_follow.specs.Scans.{AreNoted}
use Rattle.kr_trace_follow.proofs.steps.attempt_all.Given as goal

-- What is left ends with the last step of all, and since its steps locks are held as since all steps.
abbrev pub invariant-loop : goal.invariant-loop
invariant-loop g l = record {
  at_rest : l.stepper.pending ≡ None;
  protocol : l.stepper.protocol ≡ l.fn.stepper.protocol;
  well_formed : IsState (g.P.Protocol.table l.protocol) l.stepper.state;
  noted : AreNoted l.stepper.state l.scans.items;
  is_since : IsSince (let s = l.stepper.state in s.locks) (last_noted l.notes);
  since : since_along (g.P.Protocol.table l.protocol) l.line l.stepper.state (all_steps (g.P.Protocol.table l.protocol) l.queue l.txn (l.more - l.counter) (attempt_at l.stepper.state l.op)) (last_noted l.notes)
      ≡ since_along (g.P.Protocol.table l.protocol) l.line l.fn.stepper.state (all_steps (g.P.Protocol.table l.protocol) l.queue l.txn l.more (attempt_at l.fn.stepper.state l.fn.first)) (last_noted l.fn.notes);
  last : last_step (g.P.Protocol.table l.protocol) l.queue l.txn (l.more - l.counter) (attempt_at l.stepper.state l.op) ≡ last_step (g.P.Protocol.table l.protocol) l.queue l.txn l.more (attempt_at l.fn.stepper.state l.fn.first);
}
