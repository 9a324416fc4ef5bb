use Rattle.std.proofs.Common.{◌≡◌, ◌∙◌, ap, sym, subst, arith, drop, length, suc, ◌<◌, ◌≢◌, ◌&&◌}
use Rattle.std.specs.Map.Iter.{deref_pair}
use Rattle.std.proofs.lemmas.Map.Iter.{rest_more, rest_all}
use Rattle.kr_model.specs.Map.{IsMap}
use Rattle.kr_model.specs.Difference.{same_pairs}
use Rattle.kr_judge.proofs.Wholes.{up_to, from, between_is, is_map-from, up_to-past, up_to-within, same_at_end, none_left, row_compared, not_true}
use Rattle.kr_judge.proofs.whole.are_between.Goals as goal
use Rattle.kr_judge.proofs.whole.are_between.Goals.{then-i-rows-via-then-i-rows, then-i-rows-via-else-i-rows+then-ne}

pub loop-key-init : goal.loop-key-init
loop-key-init c =
    let is : c.into_iter-key-iterator.result ≡ from c.args.lo c.args.map.now.entries = c.into_iter-key-iterator.ensures.into_iter_gives ∙ c.range-key-items.ensures.between tt in
    record {
      within = omega arith;
      is_map = subst IsMap (sym is) (is_map-from c.args.map.now.entries c.args.lo c.requires);
      same = ap (λ z. same_pairs c.args.rows.now (up_to c.args.hi z)) is ∙ sym (ap (same_pairs c.args.rows.now) (between_is c.args.map.now.entries c.args.lo c.args.hi));
    }

pub returns-then-key-hi : goal.returns-then-key-hi
returns-then-key-hi c =
    let is = rest_more deref_pair c.loop-key.key-iterator c.next.new.self c.next.result (c.in-Some.key, c.in-Some.value) c.in-Some.is c.next.ensures.steps in
    let past = ap (up_to c.args.hi) is ∙ up_to-past c.next.new.self (c.in-Some.key.now, c.in-Some.value.now) c.args.hi (subst IsMap is c.loop-key.invariant.is_map) c.if-key-hi.true in
    sym (same_at_end c.args.rows.now c.loop-key.i c.loop-key.invariant.within) ∙ sym (ap (same_pairs (drop c.loop-key.i c.args.rows.now)) past) ∙ c.loop-key.invariant.same

pub returns-then-i-rows : goal.returns-then-i-rows
returns-then-i-rows c =
    let is = rest_more deref_pair c.loop-key.key-iterator c.next.new.self c.next.result (c.in-Some.key, c.in-Some.value) c.in-Some.is c.next.ensures.steps in
    let left = up_to c.args.hi c.next.new.self in
    let within = ap (same_pairs (drop c.loop-key.i c.args.rows.now)) (ap (up_to c.args.hi) is ∙ up_to-within c.next.new.self (c.in-Some.key.now, c.in-Some.value.now) c.args.hi c.if-key-hi.false) in
    elim c.then-i-rows.branch [
      | then-i-rows-via-then-i-rows w ↦ sym (none_left c.args.rows.now c.loop-key.i (c.in-Some.key.now, c.in-Some.value.now) left w.if-i-rows.true) ∙ sym within ∙ c.loop-key.invariant.same
      | then-i-rows-via-else-i-rows+then-ne w ↦
          let lt : c.loop-key.i < length c.args.rows.now = let n : c.loop-key.i ≢ length c.args.rows.now = w.if-i-rows.false in omega arith in
          sym (row_compared c.args.rows.now c.loop-key.i (c.in-Some.key.now, c.in-Some.value.now) (0, 0) left lt ∙ ap (λ b. b && same_pairs (drop (suc c.loop-key.i) c.args.rows.now) left) (not_true _ (sym w.ne.ensures ∙ w.if-ne.true)))
          ∙ sym within ∙ c.loop-key.invariant.same
    ]

pub returns : goal.returns
returns c =
    let is = rest_all deref_pair c.loop-key.key-iterator c.next.new.self c.next.result c.in-None.is c.next.ensures.steps in
    sym (same_at_end c.args.rows.now c.loop-key.i c.loop-key.invariant.within) ∙ sym (ap (λ z. same_pairs (drop c.loop-key.i c.args.rows.now) (up_to c.args.hi z)) is) ∙ c.loop-key.invariant.same
