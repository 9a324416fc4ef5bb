use Rattle.std.proofs.Common.{◌≡◌, Option, Some, ap, sym, ◌∙◌, subst, unwrap_or}
use Rattle.std.specs.Prelude.{slice_set}
use Rattle.std.specs.Ordering.{nat_cmp}
use Rattle.std.specs.FinMap.{find, put}
use Rattle.kr_model.specs.State.{Active, idle}
use Rattle.kr_txn.specs.declared.Standing.{Standing}
use Rattle.kr_txn.specs.Standings.{active_of, entries, number_of}
use Rattle.kr_txn.proofs.Lists.{found}
use Rattle.kr_touch.specs.Parts.{op_of_touch}
use Rattle.kr_touch.specs.Room.{HasRoomIn}
use Rattle.kr_touch.specs.Attempts.{attempt_of}
use Rattle.kr_touch.specs.Effects.{effect_of}
use Rattle.kr_touch.specs.Pins.{all_changes_of, taken_pins}
use Rattle.kr_txn.proofs.InPlace.{put_at_place}
use Rattle.kr_touch.proofs.InPlace.{noted-over}
use Rattle.kr_touch.proofs.effects.perform_at.Goals as goal

pub perform-requires-clause-attempt : goal.perform-requires-clause-attempt
perform-requires-clause-attempt g c =
    let at = c.requires.place in
    let x = c.index_mut.result.now in
    let is_x = found number_of active_of c.args.txn c.args.active.now.items c.args.place at.within at.others at.here x ∙ ap (λ (z : Standing). Some (active_of z)) (sym c.index_mut.ensures.value) in
    ap (λ (o : Option Active). attempt_of (g.I.Ordered.map c.args.index.now) (unwrap_or o idle).scan (op_of_touch c.args.touch)) (sym is_x) ∙ c.requires.attempt

pub perform-requires-clause-room : goal.perform-requires-clause-room
perform-requires-clause-room g c = subst (λ (s : Standing). HasRoomIn s (op_of_touch c.args.touch)) (sym c.index_mut.ensures.value) (c.requires.room c.index_mut.result.now)

pub returns-clause-map : goal.returns-clause-map
returns-clause-map g c =
    let at = c.requires.place in
    let x = c.index_mut.result.now in
    let is_x = found number_of active_of c.args.txn c.args.active.now.items c.args.place at.within at.others at.here x ∙ ap (λ (z : Standing). Some (active_of z)) (sym c.index_mut.ensures.value) in
    c.perform.ensures.map ∙ ap (λ (o : Option Active). (effect_of (g.I.Ordered.map c.args.index.now) (unwrap_or o idle) (op_of_touch c.args.touch)).map) (sym is_x)

pub returns-clause-noted : goal.returns-clause-noted
returns-clause-noted g c q =
    let at = c.requires.place in
    let x = c.index_mut.result.now in
    let y = c.perform.new.standing in
    let es = entries c.args.active.now.items in
    let is_x : find nat_cmp c.args.txn es ≡ Some (active_of x) = found number_of active_of c.args.txn c.args.active.now.items c.args.place at.within at.others at.here x ∙ ap (λ (z : Standing). Some (active_of z)) (sym c.index_mut.ensures.value) in
    let same_txn : number_of y ≡ c.args.txn = c.perform.ensures.txn ∙ ap number_of c.index_mut.ensures.value ∙ at.here x in
    let placed : entries (slice_set c.args.active.now.items c.args.place y) ≡ put nat_cmp (number_of y) (active_of y) es = put_at_place number_of active_of y c.args.active.now.items c.args.place at.within (λ d. at.here d ∙ sym same_txn) c.requires.order in
    ap (λ xs. all_changes_of xs q) (placed ∙ ap (λ k. put nat_cmp k (active_of y) es) same_txn)
    ∙ noted-over c.args.txn es (active_of x) (active_of y) q (taken_pins (op_of_touch c.args.touch) c.args.sight.row q) c.requires.order is_x (c.perform.ensures.noted q)

pub returns-clause-standing : goal.returns-clause-standing
returns-clause-standing g c =
    let at = c.requires.place in
    let x = c.index_mut.result.now in
    let y = c.perform.new.standing in
    let es = entries c.args.active.now.items in
    let is_x : find nat_cmp c.args.txn es ≡ Some (active_of x) = found number_of active_of c.args.txn c.args.active.now.items c.args.place at.within at.others at.here x ∙ ap (λ (z : Standing). Some (active_of z)) (sym c.index_mut.ensures.value) in
    let same_txn : number_of y ≡ c.args.txn = c.perform.ensures.txn ∙ ap number_of c.index_mut.ensures.value ∙ at.here x in
    let placed : entries (slice_set c.args.active.now.items c.args.place y) ≡ put nat_cmp (number_of y) (active_of y) es = put_at_place number_of active_of y c.args.active.now.items c.args.place at.within (λ d. at.here d ∙ sym same_txn) c.requires.order in
    placed
    ∙ ap (λ k. put nat_cmp k (active_of y) es) same_txn
    ∙ ap (λ a. put nat_cmp c.args.txn a es) c.perform.ensures.standing
    ∙ ap (λ (o : Option Active). put nat_cmp c.args.txn (effect_of (g.I.Ordered.map c.args.index.now) (unwrap_or o idle) (op_of_touch c.args.touch)).standing es) (sym is_x)
