use Rattle.std.proofs.Common.{◌≤◌, sym, subst}
use Rattle.kr_model.specs.declared.LockState.{LockState}
use Rattle.kr_decide.proofs.Growing.{after_within, modes_of}
use Rattle.kr_decide.proofs.finding.Found.add_move.Goals as goal

pub add-requires-clause-own : goal.add-requires-clause-own
add-requires-clause-own g c =
    let p = g.P.Protocol.table c.args.protocol.now in
    let modes = modes_of p c.args.self.now c.args.spot c.requires.found c.requires.spot in
    subst (λ (z : LockState). z.mode ≤ p.count) (sym c.after.ensures)
    (after_within p (g.met.P.Protocol.lawful c.args.protocol.now) c.args.row c.args.side c.args.spot.pair.own c.args.spot.above.state modes.own modes.next)

pub may_ask-requires : goal.may_ask-requires
may_ask-requires g c = let modes = modes_of (g.P.Protocol.table c.args.protocol.now) c.args.self.now c.args.spot c.requires.found c.requires.spot in modes.own

pub may_beside-requires : goal.may_beside-requires
may_beside-requires g c = let modes = modes_of (g.P.Protocol.table c.args.protocol.now) c.args.self.now c.args.spot c.requires.found c.requires.spot in modes.other

pub is_blocked-requires : goal.is_blocked-requires
is_blocked-requires g c = let modes = modes_of (g.P.Protocol.table c.args.protocol.now) c.args.self.now c.args.spot c.requires.found c.requires.spot in record { own = modes.own; next = modes.next; other = modes.other }

pub after-requires : goal.after-requires
after-requires g c = let modes = modes_of (g.P.Protocol.table c.args.protocol.now) c.args.self.now c.args.spot c.requires.found c.requires.spot in record { own = modes.own; next = modes.next }

pub add-requires-clause-other : goal.add-requires-clause-other
add-requires-clause-other g c = let modes = modes_of (g.P.Protocol.table c.args.protocol.now) c.args.self.now c.args.spot c.requires.found c.requires.spot in modes.other

pub add-requires-clause-found : goal.add-requires-clause-found
add-requires-clause-found g c = c.requires.found
