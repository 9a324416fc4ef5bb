use Rattle.std.proofs.Common.{◌≡◌, ◌<◌, List, length, is_some, ap, ◌∙◌, sym, subst, true}
use Rattle.kr_records.specs.declared.numbers.Number.{Number}
use Rattle.kr_records.specs.Numbers.{nobody, number_at, begun_by, ends_kept}
use Rattle.kr_records.proofs.Lists.{get_or-default}
use Rattle.kr_records.proofs.Begun.{places_stay}
use Rattle.kr_records.proofs.Ends.{begun_stays, kept_less}
use Rattle.kr_records.proofs.numbers.Numbers.take_end.Goals as goal

pub invariant_of-self : goal.invariant_of-self
invariant_of-self c =
    let ns = c.self.inside.list.items in
    let within : c.args.place < length ns = subst (λ (v : List Number). c.args.place < length v) (sym c.self.view_is) c.requires.within in
    let same = c.index_mut.ensures.value ∙ get_or-default ns c.args.place c.index_mut.result.now nobody within in
    places_stay c.self.inside.places ns c.args.place (record { txn = c.index_mut.result.now.txn; seat = c.index_mut.result.now.seat; end = c.take.new.self }) c.self.invariant (ap (λ (n : Number). n.txn) same)

pub returns-clause-begun : goal.returns-clause-begun
returns-clause-begun c =
    let ns = c.self.inside.list.items in
    let within : c.args.place < length ns = subst (λ (v : List Number). c.args.place < length v) (sym c.self.view_is) c.requires.within in
    let same = c.index_mut.ensures.value ∙ get_or-default ns c.args.place c.index_mut.result.now nobody within in
    begun_stays ns c.args.place (record { txn = c.index_mut.result.now.txn; seat = c.index_mut.result.now.seat; end = c.take.new.self }) within (ap (λ (n : Number). n.txn) same) (ap (λ (n : Number). n.seat) same) ∙ ap begun_by c.self.view_is

pub returns-clause-kept : goal.returns-clause-kept
returns-clause-kept c =
    let ns = c.self.inside.list.items in
    let within : c.args.place < length ns = subst (λ (v : List Number). c.args.place < length v) (sym c.self.view_is) c.requires.within in
    let there : is_some (number_at ns c.args.place).end ≡ true = ap (λ (v : List Number). is_some (number_at v c.args.place).end) c.self.view_is ∙ c.requires.there in
    ap ends_kept (sym c.self.view_is) ∙ kept_less ns c.args.place (record { txn = c.index_mut.result.now.txn; seat = c.index_mut.result.now.seat; end = c.take.new.self }) within there (ap is_some c.take.ensures.after)
