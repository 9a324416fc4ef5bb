use Rattle.std.proofs.Common.{◌≡◌, ◌+◌, ◌-◌, ◌<◌, ◌≤◌, length, get_or, set, take, sym, ◌∙◌, ap, subst, refl, arith}
use Rattle.std.proofs.lemmas.Grind.{common_steps}
use Rattle.std.proofs.lemmas.List.{get_or-set_same, get_or-set_other, length-set, length-take-le}
use Rattle.kr_txn.proofs.Unions.{placed-taken, all_below}
use Rattle.kr_txn.proofs.ended.merge.Goals.{else-left-gt0-via-then-left-gt0+else-recent-more, else-left-gt0-via-else-left-gt0}
use Rattle.kr_txn.proofs.ended.merge.Goals as goal

pub loop-more-preserved : goal.loop-more-preserved
loop-more-preserved c =
    let left = c.loop-more.left in
    let more = c.loop-more.more in
    let zs = c.loop-more.places in
    let xs = c.args.recent.now in
    let ys = take c.args.first c.args.places.now in
    let at = left + more - 1 in
    let r = get_or xs (more - 1) 0 in
    let within : left + more ≤ length zs = c.loop-more.invariant.in_places in
    let in_range : more ≤ length xs = c.loop-more.invariant.in_recent in
    let first : length ys ≡ c.args.first = length-take-le c.args.first c.args.places.now (omega arith) in
    let last : 0 < left → get_or zs (left - 1) 0 ≤ r = elim c.else-left-gt0.branch [ else-left-gt0-via-then-left-gt0+else-recent-more w ↦ λ _. omega arith | else-left-gt0-via-else-left-gt0 w ↦ λ some. absurd (omega arith) ] in
    let below = all_below ys xs zs left (more - 1) r c.requires.ended (omega arith) (omega arith) refl c.loop-more.invariant.kept last in
    let next : left + more < length zs → r < get_or zs (left + more) 0 = c.loop-more.invariant.next (omega arith) in
    let same : length (set zs at r) ≡ length zs = length-set zs at r in
    record {
      in_first = c.loop-more.invariant.in_first;
      in_recent = omega arith;
      in_places = omega arith;
      numbers = placed-taken xs zs left more (more - 1) at r (omega arith) (omega arith) within in_range refl below next ∙ c.loop-more.invariant.numbers;
      kept = λ k lt. get_or-set_other zs at k r 0 (omega arith) ∙ c.loop-more.invariant.kept k lt;
      next = λ some lt.
          let rise : get_or xs (more - 1 - 1) 0 < get_or xs (more - 1 - 1 + 1) 0 = c.requires.ended.recent_rise (more - 1 - 1) (omega arith) in
          let up : more - 1 - 1 + 1 ≡ more - 1 = omega arith in
          let here : left + (more - 1) ≡ at = omega arith in
          let put : get_or (set zs at r) (left + (more - 1)) 0 ≡ r = ap (λ k. get_or (set zs at r) k 0) here ∙ get_or-set_same zs at r 0 (omega arith) in
          subst (λ x. get_or xs (more - 1 - 1) 0 < x) (ap (λ k. get_or xs k 0) up ∙ sym put) rise;
    }

pub loop-more-init : goal.loop-more-init
loop-more-init c = grind (arith, common_steps)

pub loop-more-preserved-then-recent-more : goal.loop-more-preserved-then-recent-more
loop-more-preserved-then-recent-more c = grind (arith, common_steps)

pub returns : goal.returns
returns c = grind (arith, common_steps)
