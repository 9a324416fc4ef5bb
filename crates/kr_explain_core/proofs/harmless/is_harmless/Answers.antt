use Rattle.kr_model.specs.declared.Cover.TheVariants.{ReadKey, ReadGap, InsertedKey, DeletedGap}
use Rattle.kr_explain_core.proofs.Clear.{not_clear, all_clear}
use Rattle.kr_explain_core.proofs.harmless.is_harmless.Goals as goal

pub returns-then-not-has_none : goal.returns-then-not-has_none
returns-then-not-has_none c = not_clear c.args.survey.now c.args.failed.now c.args.cases.now ReadKey c.has_none.result c.has_none.ensures c.if-not-has_none.true

pub returns-then-not-has_none-2 : goal.returns-then-not-has_none-2
returns-then-not-has_none-2 c = not_clear c.args.survey.now c.args.failed.now c.args.cases.now ReadGap c.has_none-2.result c.has_none-2.ensures c.if-not-has_none-2.true

pub returns-then-not-has_none-3 : goal.returns-then-not-has_none-3
returns-then-not-has_none-3 c = not_clear c.args.survey.now c.args.failed.now c.args.cases.now InsertedKey c.has_none-3.result c.has_none-3.ensures c.if-not-has_none-3.true

pub returns-then-not-has_none-4 : goal.returns-then-not-has_none-4
returns-then-not-has_none-4 c = not_clear c.args.survey.now c.args.failed.now c.args.cases.now DeletedGap c.has_none-4.result c.has_none-4.ensures c.if-not-has_none-4.true

pub returns : goal.returns
returns c = all_clear c.args.survey.now c.args.failed.now c.args.cases.now c.has_none-5.result (c.has_none.ensures.0 c.if-not-has_none.false) (c.has_none-2.ensures.0 c.if-not-has_none-2.false) (c.has_none-3.ensures.0 c.if-not-has_none-3.false) (c.has_none-4.ensures.0 c.if-not-has_none-4.false) c.has_none-5.ensures
