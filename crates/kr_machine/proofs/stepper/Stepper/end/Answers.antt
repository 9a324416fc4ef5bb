use Rattle.std.proofs.Common.{arith}
use Rattle.std.proofs.lemmas.Grind.{common_steps}
use Rattle.std.proofs.Common.{◌∙◌}
use Rattle.kr_machine.proofs.Steps.{end_answers}
use Rattle.kr_machine.proofs.stepper.Stepper.end.Goals as goal

pub returns-in-Ok-clause-reply : goal.returns-in-Ok-clause-reply
returns-in-Ok-clause-reply g c = c.reply-reply.ensures.reply ∙ end_answers (g.P.Protocol.table c.args.self.now.protocol) c.args.self.now.state c.args.txn c.args.ending c.requires.allowed

pub invariant_of-self : goal.invariant_of-self
invariant_of-self g c = grind (arith, common_steps)

pub returns-in-Ok-clause-waits : goal.returns-in-Ok-clause-waits
returns-in-Ok-clause-waits g c = grind (arith, common_steps)
