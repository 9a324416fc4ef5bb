use Rattle.std.proofs.Common.{◌+◌, ap, sym, ◌∙◌}
use Rattle.std.specs.Ordering.{nat_cmp}
use Rattle.std.specs.FinMap.{put}
use Rattle.kr_txn.specs.Standings.{active_of, entries}
use Rattle.kr_txn.proofs.Lists.{put_back}
use Rattle.kr_touch.specs.Pins.{changes_of, all_changes_of}
use Rattle.kr_touch.proofs.Pins.{noted-without}
use Rattle.kr_ghost_machine.proofs.standings.stand.Goals as goal

pub returns-in-Some-clause-back : goal.returns-in-Some-clause-back
returns-in-Some-clause-back c =
    let a = active_of c.in-Some.standing in
    ap (λ es. put nat_cmp c.args.txn a es) c.take_out.ensures.rest ∙ put_back c.args.txn (entries c.args.active.now.items) c.requires a (sym c.in-Some.ensures.found)

pub returns-in-Some-clause-noted : goal.returns-in-Some-clause-noted
returns-in-Some-clause-noted c q =
    let es = entries c.args.active.now.items in
    let a = active_of c.in-Some.standing in
    noted-without c.args.txn es a q c.requires (sym c.in-Some.ensures.found)
    ∙ ap (λ rest. all_changes_of rest q + changes_of a.changes q) (sym c.take_out.ensures.rest)
