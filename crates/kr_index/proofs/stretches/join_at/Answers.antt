use Rattle.std.proofs.Common.{◌≡◌, arith, ◌∙◌, ◌-◌, sym, subst, ap, get_or, set, IsTrue}
use Rattle.std.proofs.lemmas.List.{get_or_default}
use Rattle.kr_index.specs.declared.stretches.Stretch.{Stretch}
use Rattle.kr_index.specs.Stretches.{AreMarked}
use Rattle.kr_index.proofs.StretchLaws.{marked-join}
use Rattle.kr_index.proofs.stretches.join_at.Goals as goal
use Rattle.kr_index.proofs.stretches.join_at.Goals.{then-before, else-before}

before_is : (c : goal.After-stretches-1) (d : Stretch) → c.index-before.result.now ≡ get_or c.args.stretches.now.items (c.args.place - 1) d
before_is c d = c.index-before.ensures ∙ get_or_default c.args.stretches.now.items (c.args.place - 1) _ d (omega (arith, c.requires.in_range))

joined_is : (c : goal.After-stretches-1) (d : Stretch) → c.index-joined.result.now ≡ get_or c.args.stretches.now.items c.args.place d
joined_is c d = c.index-joined.ensures ∙ get_or_default c.args.stretches.now.items c.args.place _ d c.requires.in_range

-- the joined one is marked as bare only where both are
left : (c : goal.After-stretches-1) → IsTrue c.if-before.value → IsTrue c.index-before.result.now.is_bare
left c is = elim c.if-before.branch [
  | then-before w ↦ w.if-before.true
  | else-before w ↦ absurd (cc (is, w.value-is))
]

right : (c : goal.After-stretches-1) → IsTrue c.if-before.value → IsTrue c.index-joined.result.now.is_bare
right c is = elim c.if-before.branch [
  | then-before w ↦ sym w.value-is ∙ is
  | else-before w ↦ absurd (cc (is, w.value-is))
]

pub returns-clause-marked : goal.returns-clause-marked
returns-clause-marked c m marked =
    let ss = c.args.stretches.now.items in
    let p = c.args.place in
    let s : Stretch = record { from = c.index-before.result.now.from; is_bare = c.if-before.value; slots = c.saturating_add.result; present = c.saturating_add-2.result } in
    subst (λ l. AreMarked (set l (p - 1) s) m) (sym c.remove.ensures.items) (marked-join ss p s c.requires.place c.requires.in_range (λ d. ap (λ (x : Stretch). x.from) (before_is c d)) (λ is d. subst (λ (x : Stretch). IsTrue x.is_bare) (before_is c d) (left c is)) (λ is d. subst (λ (x : Stretch). IsTrue x.is_bare) (joined_is c d) (right c is)) m marked)
