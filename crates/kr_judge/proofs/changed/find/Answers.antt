use Rattle.std.proofs.Common.{rules, Ok, Err}
use Rattle.std.proofs.lemmas.List.Sorted.{answers_always}
use Rattle.kr_judge.proofs.Changes.{searched}
use Rattle.kr_judge.proofs.changed.find.Goals as goal

pub returns-in-Ok : goal.returns-in-Ok
returns-in-Ok c =
    let facts = c.in-Ok.ensures in
    searched c.args.pairs.now c.args.key (Ok c.in-Ok.place) c.requires facts.bound (facts.position (λ e. e.0) (answers_always _ _ _ (λ f a r g called. search rules))) (0, 0)

pub returns-in-Err : goal.returns-in-Err
returns-in-Err c =
    let facts = c.in-Err.ensures in
    searched c.args.pairs.now c.args.key (Err c.in-Err.field-0) c.requires facts.bound (facts.position (λ e. e.0) (answers_always _ _ _ (λ f a r g called. search rules)))
