use Rattle.std.proofs.Common.{◌==◌, ◌<◌, length, List, ap, ◌∙◌, sym, is_some, arith}
use Rattle.kr_records.specs.declared.numbers.Number.{Number}
use Rattle.kr_records.specs.Numbers.{begun_by, is_begun, nobody, IsPlace}
use Rattle.kr_records.proofs.Lists.{get_or-default}
use Rattle.kr_records.proofs.Begun.{found_begun, is_place, seat_there, never_begun_by}
use Rattle.kr_records.proofs.numbers.Numbers.is_of.Goals as goal

pub index-requires : goal.index-requires
index-requires c =
    let there : c.in-Some.field-0.now < length c.self.inside.list.items = (is_place c.self.inside.places c.self.inside.list.items c.args.txn c.in-Some.field-0.now c.self.invariant (sym c.in-Some.ensures.value)).within in
    omega arith

pub returns-in-Some : goal.returns-in-Some
returns-in-Some c =
    let ns = c.self.inside.list.items in
    let at = c.in-Some.field-0.now in
    let there : IsPlace ns c.args.txn at = is_place c.self.inside.places ns c.args.txn at c.self.invariant (sym c.in-Some.ensures.value) in
    ap (λ (n : Number). n.seat == c.args.seat) (c.index.ensures ∙ get_or-default ns at c.index.result.now nobody there.within)
    ∙ seat_there ns c.args.txn c.args.seat at there ∙ ap (λ (v : List Number). is_begun (begun_by v) c.args.txn c.args.seat) c.self.view_is

pub returns-in-None : goal.returns-in-None
returns-in-None c =
    let ns = c.self.inside.list.items in
    let never = never_begun_by ns c.args.txn c.args.seat (sym (found_begun c.self.inside.places ns c.args.txn c.self.invariant) ∙ ap is_some (sym c.in-None.ensures.value)) in
    sym never ∙ ap (λ (v : List Number). is_begun (begun_by v) c.args.txn c.args.seat) c.self.view_is
