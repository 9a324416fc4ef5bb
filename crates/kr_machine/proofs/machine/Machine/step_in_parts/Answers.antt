use Rattle.std.proofs.Common.{sym, ap, ◌∙◌}
use Rattle.kr_model.proofs.LogSteps.{logged_silent}
use Rattle.kr_machine.proofs.machine.Machine.step_in_parts.Goals as goal

pub returns-in-Err-clause-log : goal.returns-in-Err-clause-log
returns-in-Err-clause-log g c =
    ap (λ m. m.log) c.in-Err.ensures.err ∙ sym (logged_silent c.args.self.now.log (record { txn = c.args.txn; op = c.args.op }) c.in-Err.reply c.in-Err.ensures.not_granted)
