use Rattle.std.proofs.Common.{◌≡◌, Option, Some, List, [], ap, sym, ◌∙◌, subst, unwrap_or}
use Rattle.std.specs.Ordering.{nat_cmp}
use Rattle.std.specs.FinMap.{find, put}
use Rattle.kr_model.specs.Run.{Answered}
use Rattle.kr_model.specs.Log.{with_step}
use Rattle.kr_txn.specs.declared.unfinished.Unfinished.{Unfinished}
use Rattle.kr_txn.specs.Logs.{number_of, operations_of, entries, HasRoomForOne}
use Rattle.kr_txn.proofs.Lists.{found}
use Rattle.kr_txn.proofs.InPlace.{put_at_place}
use Rattle.kr_txn.proofs.unfinished.do_step_at.Goals as goal

pub add_step-requires : goal.add_step-requires
add_step-requires c = subst HasRoomForOne (sym c.index_mut.ensures.value) (c.requires.memory.operation c.index_mut.result.now)

pub returns-clause-items : goal.returns-clause-items
returns-clause-items c =
    let at = c.requires.memory.place in
    let us = c.args.list.now.items in
    let x = c.index_mut.result.now in
    let y = c.add_step.new.unfinished in
    let is_x : find nat_cmp c.args.txn (entries us) ≡ Some (operations_of x) = found number_of operations_of c.args.txn us c.args.place at.within at.others at.here x ∙ ap (λ (z : Unfinished). Some (operations_of z)) (sym c.index_mut.ensures.value) in
    let same_txn : number_of y ≡ c.args.txn = c.add_step.ensures.txn ∙ ap number_of c.index_mut.ensures.value ∙ at.here x in
    put_at_place number_of operations_of y us c.args.place at.within (λ d. at.here d ∙ sym same_txn) c.requires.in_order
    ∙ ap (λ k. put nat_cmp k (operations_of y) (entries us)) same_txn
    ∙ ap (λ os. put nat_cmp c.args.txn os (entries us)) (c.add_step.ensures.operations ∙ ap (λ (o : Option (List Answered)). with_step (unwrap_or o []) c.args.op c.args.reply) (sym is_x))
