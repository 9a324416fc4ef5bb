use Rattle.std.proofs.Common.{[], ◌∷◌, ◌++◌, ◌∙◌, ap, arith, reverse}
use Rattle.std.proofs.lemmas.List.{reverse-append}
use Rattle.kr_deadlock.specs.Search.{found_at}
use Rattle.kr_deadlock.proofs.Way.{way_alone, way_more, path_from_way}
use Rattle.kr_deadlock.proofs.path_to.Goals as goal

pub loop-at-init : goal.loop-at-init
loop-at-init c = record {
  within = c.requires.within;
  way = λ ws asker tree. way_alone tree c.args.last _ c.requires.within (ap reverse (c.in_ok-push.ensures.items ∙ ap (λ ts. ts ++ (found_at c.args.found.now c.args.last).txn ∷ []) c.new-path.ensures.items));
}

pub loop-at-preserved : goal.loop-at-preserved
loop-at-preserved c = record {
  within = omega (arith, c.requires.before c.loop-at.at c.loop-at-test.true c.loop-at.invariant.within, c.loop-at.invariant.within);
  way = λ ws asker tree. way_more tree c.loop-at.at c.args.last _ _ c.loop-at-test.true c.loop-at.invariant.within (c.loop-at.invariant.way ws asker tree) (ap reverse c.in_ok-push-2.ensures.items ∙ reverse-append c.loop-at.path.items _);
}

pub returns : goal.returns
returns c = λ ws asker tree. path_from_way tree c.loop-at.at c.args.last _ _ c.loop-at-test.false (c.loop-at.invariant.way ws asker tree) c.reverse.ensures.items
