use Rattle.std.proofs.Common.{◌≡◌, ◌∙◌, ap, sym, subst}
use Rattle.std.proofs.lemmas.List.{drop_all}
use Rattle.kr_model.specs.Locks.{Locks, IsLocks, HasNoNone}
use Rattle.kr_ghost_machine.proofs.Copied.{all_kept, all_kept_are}
use Rattle.kr_ghost_machine.proofs.copies.locks.Goals as goal

pub returns : goal.returns
returns g c =
    let ls : Locks = c.deref-name-items.result.now in
    let same : ls ≡ g.L.Holdings.locks c.args.locks.now = c.deref-name-items.ensures.value ∙ c.in_ok-list.ensures in
    sym (ap (all_kept c.loop-name.copy) (drop_all c.loop-name.name-index ls c.loop-name-test.false)) ∙ c.loop-name.invariant
    ∙ all_kept_are ls (subst IsLocks (sym same) c.requires.order) (subst HasNoNone (sym same) c.requires.no_none) ∙ same
