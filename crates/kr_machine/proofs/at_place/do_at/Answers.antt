use Rattle.std.proofs.Common.{◌+◌, ap, sym, ◌∙◌, subst, unwrap_or}
use Rattle.std.specs.Prelude.{IsTrue}
use Rattle.std.specs.Ordering.{nat_cmp}
use Rattle.std.specs.FinMap.{find, is_sorted}
use Rattle.kr_model.specs.State.{idle}
use Rattle.kr_txn.specs.Standings.{active_of, entries, number_of, IsInOrder}
use Rattle.kr_txn.proofs.Lists.{in_order-put}
use Rattle.kr_touch.specs.Parts.{op_of_touch}
use Rattle.kr_touch.specs.Effects.{effect_of}
use Rattle.kr_touch.specs.Pins.{all_changes_of, taken_pins}
use Rattle.kr_txn.proofs.InPlace.{same_position}
use Rattle.kr_machine.proofs.InPlace.{placed_machine}
use Rattle.kr_machine.proofs.at_place.do_at.Goals as goal

pub perform_at-requires-clause-place : goal.perform_at-requires-clause-place
perform_at-requires-clause-place g c = same_position number_of active_of c.args.txn c.make_room_at.new.active.items c.args.active.now.items c.args.place c.make_room_at.ensures.same c.requires.place

pub returns-in-Ok-clause-at_rest : goal.returns-in-Ok-clause-at_rest
returns-in-Ok-clause-at_rest g c =
    let p = g.P.Protocol.table c.args.protocol.now in
    let t = c.args.txn in
    let o = op_of_touch c.args.touch in
    let before = g.I.Ordered.pins c.args.index.now in
    let es = entries c.make_room_at.new.active.items in
    let a = (effect_of (g.I.Ordered.map c.pin_and_hold.new.index) (unwrap_or (find nat_cmp t es) idle) o).standing in
    let sorted : IsTrue (is_sorted nat_cmp es) = subst (λ xs. IsTrue (is_sorted nat_cmp xs)) (sym c.make_room_at.ensures.same) c.requires.at_rest.standing in
    let order : IsInOrder c.perform_at.new.active.items = subst (λ xs. IsTrue (is_sorted nat_cmp xs)) (sym c.perform_at.ensures.standing) (in_order-put t es sorted a) in
    placed_machine p (g.I.Ordered.map c.args.index.now) (g.I.Ordered.map c.perform_at.new.index) before (g.I.Ordered.pins c.perform_at.new.index) (λ q. taken_pins o c.args.sight.row q)
    (g.L.Holdings.locks c.args.locks.now) (g.L.Holdings.locks c.pin_and_hold.new.locks) c.args.ended.now c.args.active.now c.perform_at.new.active
    c.requires.at_rest c.pin_and_hold.ensures.in_order c.pin_and_hold.ensures.within c.pin_and_hold.ensures.no_none order (c.perform_at.ensures.len ∙ c.make_room_at.ensures.len)
    (λ q. c.perform_at.ensures.pins q ∙ c.in_ok-current_was.ensures.pins q ∙ ap (λ x. before q + taken_pins x c.args.sight.row q) c.op-op.ensures)
    (λ q. c.perform_at.ensures.noted q ∙ ap (λ xs. all_changes_of xs q + taken_pins o c.args.sight.row q) c.make_room_at.ensures.same)
