use Rattle.std.proofs.Common.{◌≡◌, ◌+◌, ◌∙◌, ap, sym, subst, take}
use Rattle.std.specs.List.{Contains}
use Rattle.kr_deadlock.specs.Search.{blockers_at, IsFollowing}
use Rattle.std.proofs.lemmas.List.{take_all}
use Rattle.kr_deadlock.proofs.Finding.{blockers_read, following_found, following_known}
use Rattle.kr_deadlock.proofs.follow.Goals as goal
use Rattle.kr_deadlock.proofs.follow.Goals.{in-Some+in_ok-push, in_default}

pub loop-blocker-preserved : goal.loop-blocker-preserved
loop-blocker-preserved c =
    let same : c.deref-blocker-items.result.now ≡ blockers_at c.args.waits.now c.args.found.now.items c.args.from = blockers_read c.args.from c.index.result.now c.index-waits-place.result c.deref-blocker-items.result.now c.requires.search c.requires.within c.index.ensures c.deref-blocker-items.ensures.value in
    elim c.match-remove.branch [
      | in-Some+in_ok-push w ↦ following_found c.loop-blocker.invariant c.requires.within same c.loop-blocker-test.true c.if-blocker-asker.false w.in-Some.ensures.updates w.in-Some.place _ (sym w.in-Some.ensures.value) w.in-Some.ensures.len (ap (λ v. v.items) w.found-is ∙ w.in_ok-push.ensures.items)
      | in_default w ↦ subst (λ v. IsFollowing c.args.waits.now c.args.asker c.args.found.now.items c.args.unfound.now v.items c.remove.new.self (take (c.loop-blocker.blocker-index + 1) c.deref-blocker-items.result.now)) (sym w.found-is) (following_known c.loop-blocker.invariant c.requires.within same c.loop-blocker-test.true c.if-blocker-asker.false (sym w.in_default.ensures.value) w.in_default.ensures.unchanged)
    ]

pub returns-clause-others : goal.returns-clause-others
returns-clause-others c =
    let same : c.deref-blocker-items.result.now ≡ blockers_at c.args.waits.now c.args.found.now.items c.args.from = blockers_read c.args.from c.index.result.now c.index-waits-place.result c.deref-blocker-items.result.now c.requires.search c.requires.within c.index.ensures c.deref-blocker-items.ensures.value in
    λ _ u h. c.loop-blocker.invariant.followed u (subst (λ ts. Contains ts u) (sym (take_all _ _ c.loop-blocker-test.false ∙ same)) h)
