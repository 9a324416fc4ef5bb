use Rattle.std.proofs.Common.{◌∙◌, ap, sym}
use Rattle.kr_model.specs.Log.{last_answered}
use Rattle.kr_txn.proofs.LogSteps.{last_answered_pushed}
use Rattle.kr_txn.proofs.unfinished.answer_last.Goals as goal

pub returns-in-Some : goal.returns-in-Some
returns-in-Some c =
    c.push_reserved.ensures.items ∙ sym (ap (last_answered c.args.reply) c.in-Some.ensures.items ∙ last_answered_pushed c.pop.new.self.items c.in-Some.op c.in-Some.field-0-1 c.args.reply)
