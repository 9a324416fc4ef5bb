use Rattle.std.proofs.Common.{ap, sym, ◌∙◌}
use Rattle.std.specs.Ordering.{nat_cmp}
use Rattle.std.specs.FinMap.{put}
use Rattle.kr_txn.specs.Standings.{active_of, entries}
use Rattle.kr_txn.proofs.Lists.{find-without, put_back, put-rest, in_order-without}
use Rattle.std.proofs.Common.{◌+◌}
use Rattle.kr_touch.specs.Pins.{changes_of, all_changes_of}
use Rattle.kr_touch.proofs.Pins.{noted-without}
use Rattle.kr_touch.proofs.standings.stand.Goals as goal

pub put_in-requires-clause-others : goal.put_in-requires-clause-others
put_in-requires-clause-others c = rw (c.in-Err.ensures.txn, c.in-Some.ensures.txn, c.take_out.ensures.rest) (find-without c.args.txn (entries c.args.active.now.items))

pub returns-in-Err-clause-err : goal.returns-in-Err-clause-err
returns-in-Err-clause-err c = c.put_in.ensures.items ∙ rw (c.in-Err.ensures.same, c.in-Err.ensures.txn, c.in-Some.ensures.txn, c.take_out.ensures.rest) (put_back c.args.txn (entries c.args.active.now.items) c.requires.order (active_of c.in-Some.standing) (sym c.in-Some.ensures.found))

pub returns-in-Ok-clause-apart : goal.returns-in-Ok-clause-apart
returns-in-Ok-clause-apart c = rw c.take_out.ensures.rest (find-without c.args.txn (entries c.args.active.now.items))

pub returns-in-Ok-clause-over : goal.returns-in-Ok-clause-over
returns-in-Ok-clause-over c x = ap (λ es. put nat_cmp c.args.txn x es) c.take_out.ensures.rest ∙ put-rest c.args.txn (entries c.args.active.now.items) c.requires.order x

pub returns-in-Ok-clause-back : goal.returns-in-Ok-clause-back
returns-in-Ok-clause-back c = rw (c.in-Ok.ensures.same, c.take_out.ensures.rest) (put_back c.args.txn (entries c.args.active.now.items) c.requires.order (active_of c.in-Some.standing) (sym c.in-Some.ensures.found))

pub returns-in-Ok-clause-order : goal.returns-in-Ok-clause-order
returns-in-Ok-clause-order c = rw c.take_out.ensures.rest (in_order-without c.args.txn (entries c.args.active.now.items) c.requires.order)

pub returns-in-Ok-clause-noted : goal.returns-in-Ok-clause-noted
returns-in-Ok-clause-noted c q =
    let es = entries c.args.active.now.items in
    let a = active_of c.in-Some.standing in
    noted-without c.args.txn es a q c.requires.order (sym c.in-Some.ensures.found)
    ∙ ap (λ rest. all_changes_of rest q + changes_of a.changes q) (sym c.take_out.ensures.rest)
    ∙ ap (λ b. all_changes_of (entries c.take_out.new.list.items) q + changes_of b.changes q) (sym c.in-Ok.ensures.same)
