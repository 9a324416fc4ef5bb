use Rattle.std.proofs.Common.{◌∙◌, List, ap}
use Rattle.std.proofs.lemmas.Result.{IfOk-weaker}
use Rattle.kr_model.specs.Log.{log_after, no_log}
use Rattle.kr_records.specs.declared.name.Entry.{Entry}
use Rattle.kr_records.specs.Histories.{events_with_replies}
use Rattle.kr_records.proofs.Histories.{programs_of_history}
use Rattle.kr_records.proofs.closing.History.programs.Goals as goal

pub returns : goal.returns
returns c = IfOk-weaker c.programs_of.result _ _ (λ ps is. λ p opening s run.
    is ∙ ap (λ (es : List Entry). (log_after no_log (events_with_replies es)).committed) c.deref.ensures.value ∙ programs_of_history p opening c.args.self.now.entries.items s run) c.programs_of.ensures
