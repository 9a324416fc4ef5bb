use Rattle.std.proofs.Common.{◌≡◌, ◌∙◌, ◌++◌, ap, ap₂, sym, subst, append-nil}
use Rattle.std.specs.Map.Iter.{deref_pair}
use Rattle.std.proofs.lemmas.Map.Iter.{rest_more}
use Rattle.kr_model.specs.Map.{IsMap}
use Rattle.kr_judge.proofs.Wholes.{up_to, from, between_is, is_map-from, up_to-past}
use Rattle.kr_judge.proofs.whole.between.Goals as goal

pub loop-key-init : goal.loop-key-init
loop-key-init c =
    let is : c.into_iter-key-iterator.result ≡ from c.args.lo c.args.map.now.entries = c.into_iter-key-iterator.ensures.into_iter_gives ∙ c.range-key-items.ensures.between tt in
    record {
      is_map = subst IsMap (sym is) (is_map-from c.args.map.now.entries c.args.lo c.requires);
      pairs = ap₂ (λ x z. x ++ up_to c.args.hi z) c.new-list.ensures.items is ∙ sym (between_is c.args.map.now.entries c.args.lo c.args.hi);
    }

pub returns-then-key-hi : goal.returns-then-key-hi
returns-then-key-hi c =
    let is = rest_more deref_pair c.loop-key.key-iterator c.next.new.self c.next.result (c.in-Some.key, c.in-Some.value) c.in-Some.is c.next.ensures.steps in
    let past = ap (up_to c.args.hi) is ∙ up_to-past c.next.new.self (c.in-Some.key.now, c.in-Some.value.now) c.args.hi (subst IsMap is c.loop-key.invariant.is_map) c.if-key-hi.true in
    c.from_vec.ensures ∙ sym (append-nil c.loop-key.list.items) ∙ sym (ap (λ z. c.loop-key.list.items ++ z) past) ∙ c.loop-key.invariant.pairs
