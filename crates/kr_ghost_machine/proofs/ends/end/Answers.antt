use Rattle.std.proofs.Common.{◌≤◌, sym, subst, arith}
use Rattle.std.specs.Vec.{vec_len}
use Rattle.kr_model.proofs.Requests.{AreLocks, released_locks}
use Rattle.kr_txn.specs.Standings.{active_of}
use Rattle.kr_touch.specs.Pins.{changes_of}
use Rattle.kr_ghost_machine.proofs.Resting.{ended_rest}
use Rattle.kr_ghost_machine.proofs.ends.end.Goals as goal

pub returns-then-aborts-clause-at_rest : goal.returns-then-aborts-clause-at_rest
returns-then-aborts-clause-at_rest g c =
    let h = g.L.Holdings.locks c.args.locks.now in
    let room : vec_len c.take_leave.new.active ≤ c.leave.new.ended.room = omega (arith, c.in_ok-standing.ensures.room, c.leave.ensures.room) in
    ended_rest c.args.index.now c.undo.new.index h (g.L.Holdings.locks c.leave.new.locks) c.args.ended.now c.leave.new.ended c.args.active.now c.take_leave.new.active c.args.txn (λ q. changes_of (active_of c.in_ok-standing.standing).changes q) c.requires.at_rest c.in_ok-standing.ensures.rest c.leave.ensures.locks room c.in_ok-standing.ensures.noted c.undo.ensures.changes

pub returns-then-aborts-clause-locks : goal.returns-then-aborts-clause-locks
returns-then-aborts-clause-locks g c p l = subst (AreLocks p) (sym c.leave.ensures.locks) (released_locks p (g.L.Holdings.locks c.args.locks.now) c.args.txn l)

pub returns-else-aborts-clause-at_rest : goal.returns-else-aborts-clause-at_rest
returns-else-aborts-clause-at_rest g c =
    let h = g.L.Holdings.locks c.args.locks.now in
    let room : vec_len c.take_leave.new.active ≤ c.leave.new.ended.room = omega (arith, c.in_ok-standing.ensures.room, c.leave.ensures.room) in
    ended_rest c.args.index.now c.settle.new.index h (g.L.Holdings.locks c.leave.new.locks) c.args.ended.now c.leave.new.ended c.args.active.now c.take_leave.new.active c.args.txn (λ q. changes_of (active_of c.in_ok-standing.standing).changes q) c.requires.at_rest c.in_ok-standing.ensures.rest c.leave.ensures.locks room c.in_ok-standing.ensures.noted c.settle.ensures.changes

pub returns-else-aborts-clause-locks : goal.returns-else-aborts-clause-locks
returns-else-aborts-clause-locks g c p l = subst (AreLocks p) (sym c.leave.ensures.locks) (released_locks p (g.L.Holdings.locks c.args.locks.now) c.args.txn l)
