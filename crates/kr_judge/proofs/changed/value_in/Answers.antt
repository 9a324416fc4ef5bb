use Rattle.std.proofs.Common.{sym, ◌∙◌, ap}
use Rattle.std.specs.Prelude.{unwrap_or}
use Rattle.kr_model.specs.Map.{get}
use Rattle.kr_judge.proofs.Changes.{get-changed}
use Rattle.kr_judge.proofs.changed.value_in.Goals as goal

pub returns-in-Some : goal.returns-in-Some
returns-in-Some c =
    let m = c.args.opening.now in
    ap (λ o. unwrap_or o (get m c.args.key)) c.in-Some.ensures.value ∙ sym (get-changed m c.args.changes.now.entries c.requires.unique c.args.key)

pub returns-in-None : goal.returns-in-None
returns-in-None c =
    let m = c.args.opening.now in
    c.find.ensures ∙ ap (λ o. unwrap_or o (get m c.args.key)) c.in-None.ensures.value ∙ sym (get-changed m c.args.changes.now.entries c.requires.unique c.args.key)
