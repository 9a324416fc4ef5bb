use Rattle.std.proofs.Common.{◌+◌, ap, sym, ◌∙◌}
use Rattle.kr_txn.specs.Standings.{active_of, entries}
use Rattle.kr_touch.specs.Pins.{changes_of, all_changes_of}
use Rattle.kr_touch.proofs.Pins.{noted-without}
use Rattle.kr_ghost_machine.proofs.ends.take_leave.Goals as goal

pub returns-in-Some-clause-noted : goal.returns-in-Some-clause-noted
returns-in-Some-clause-noted c q =
    let es = entries c.args.active.now.items in
    let a = active_of c.in-Some.standing in
    noted-without c.args.txn es a q c.requires.order (sym c.in-Some.ensures.found)
    ∙ ap (λ rest. all_changes_of rest q + changes_of a.changes q) (sym c.take_out.ensures.rest)
