use Rattle.std.proofs.Common.{sym, ◌∙◌, arith}
use Rattle.kr_model.specs.declared.Name.TheVariants.{Key}
use Rattle.kr_ghost_machine.proofs.Listed.{nobody_locks}
use Rattle.kr_ghost_machine.proofs.Purgeable.{nobody, somebody}
use Rattle.kr_ghost_machine.proofs.purges.is_locked.Goals as goal

pub returns-then-own-ne0 : goal.returns-then-own-ne0
returns-then-own-ne0 g c =
    let h = g.L.Holdings.locks c.args.locks.now in
    sym (somebody h (Key c.args.key) c.standing-item.result.txn (λ none. c.if-own-ne0.true (c.own.ensures ∙ none)))

pub returns : goal.returns
returns g c =
    let h = g.L.Holdings.locks c.args.locks.now in
    let n = Key c.args.key in
    sym (nobody h n (λ u. nobody_locks h n c.args.active.now (λ j d lt. c.loop-standing.invariant j d (omega arith)) u (λ out. c.requires u out n)))
