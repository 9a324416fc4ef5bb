use Rattle.std.proofs.Common.{◌≡◌, [], sym, subst, rules}
use Rattle.kr_deadlock.specs.Waits.{blockers_of}
use Rattle.kr_deadlock.specs.Search.{HasPlace}
use Rattle.kr_deadlock.proofs.Way.{cycle_from_path}
use Rattle.kr_deadlock.proofs.Ends.{no_cycle, no_cycle_alone, followed_next}
use Rattle.kr_deadlock.proofs.find_cycle.Goals as goal

pub returns-in_default-clause-none : goal.returns-in_default-clause-none
returns-in_default-clause-none c =
    let none : blockers_of c.args.waits.now c.args.asker ≡ [] = subst (HasPlace c.args.waits.now (blockers_of c.args.waits.now c.args.asker)) (sym c.in_default.ensures.value) (c.in_ok-unfound.ensures c.args.asker) in
    no_cycle_alone c.args.waits.now c.args.asker none

pub returns-then-branch-clause-cycle : goal.returns-then-branch-clause-cycle
returns-then-branch-clause-cycle c = cycle_from_path c.loop-next.next c.in_ok-cycle.cycle.items c.in_ok-follow.ensures.search.tree c.in_ok-follow.ensures.goes_on (search rules) (c.in_ok-follow.ensures.asker c.if-branch.true) c.deref.ensures.value c.in_ok-cycle.ensures

pub loop-next-preserved : goal.loop-next-preserved
loop-next-preserved c = record {
  search = c.in_ok-follow.ensures.search;
  within = search rules;
  followed = followed_next c.args.waits.now c.args.asker c.loop-next.next c.loop-next.invariant.followed c.in_ok-follow.ensures.goes_on (search rules) (c.in_ok-follow.ensures.others c.if-branch.false);
}

pub returns-clause-none : goal.returns-clause-none
returns-clause-none c = no_cycle c.loop-next.invariant.search (λ k l. c.loop-next.invariant.followed k (search rules))
