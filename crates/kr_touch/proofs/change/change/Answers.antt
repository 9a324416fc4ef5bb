use Rattle.std.proofs.Common.{arith}
use Rattle.std.proofs.lemmas.Grind.{common_steps}
use Rattle.std.specs.Prelude.{◌≡◌, None}
use Rattle.std.proofs.Common.{sym, ◌∙◌, ap}
use Rattle.kr_model.specs.Map.{get}
use Rattle.kr_model.specs.Step.{deleted}
use Rattle.kr_txn.specs.Standings.{active_of}
use Rattle.kr_touch.specs.Parts.{op_of_key}
use Rattle.kr_touch.specs.Effects.{effect_of}
use Rattle.kr_touch.proofs.Absent.{without_absent}
use Rattle.kr_touch.proofs.change.change.Goals as goal

-- A delete of an absent key takes nothing away.
pub returns-in-None-clause-map : goal.returns-in-None-clause-map
returns-in-None-clause-map g c =
    let m = g.I.Ordered.map c.args.index.now in
    let a = active_of c.args.standing in
    let key = c.in-Delete-Delete.key in
    let absent : get m key ≡ None = sym c.take.ensures.value ∙ c.in-None.is in
    c.unpin.ensures.map ∙ c.take.ensures.map ∙ without_absent m key absent
    ∙ sym (ap (λ x. (effect_of m a (op_of_key x)).map) c.in-Delete-Delete.is-0 ∙ ap (λ o. (deleted m a key o).map) absent)

pub returns-in-Insert-Insert-clause-standing : goal.returns-in-Insert-Insert-clause-standing
returns-in-Insert-Insert-clause-standing g c = grind (arith, common_steps)
