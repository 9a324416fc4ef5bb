use Rattle.std.proofs.Common.{rules, ◌≡◌}
use Rattle.kr_model.specs.declared.Reply.TheVariants as reply
use Rattle.kr_model.specs.declared.Refusal.TheVariants as refusal
use Rattle.kr_stepping.proofs.GoneSteps.{stays}
use Rattle.kr_stepping.proofs.gone.GoneStepperStepping.step.Goals as goal
use Rattle.kr_stepping.proofs.gone.GoneStepperStepping.step.Goals.{in-Refused-Memory, in_default}

pub returns-clause-err : goal.returns-clause-err
returns-clause-err g c = elim c.match-step.branch [
  | in-Refused-Memory w ↦
      let is : c.step.result ≡ reply.Refused refusal.Memory = search rules in
      let machine = c.self.inside.stepper in
      let same : c.step.new.self.state ≡ machine.state = stays (g.P.Protocol.table machine.protocol) machine.state c.args.txn c.args.op c.step.result c.step.new.self.state c.step.ensures.step is in
      search rules
  | in_default w ↦ search rules
]
