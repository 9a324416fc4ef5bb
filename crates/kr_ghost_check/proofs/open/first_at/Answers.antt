use Rattle.std.proofs.Common.{suc, map, sym, ◌∙◌, arith}
use Rattle.kr_ghost.specs.Covers.{requester, is_open}
use Rattle.kr_cases.proofs.Firsts.{element_found, element_none, none_of_all}
use Rattle.kr_ghost_check.proofs.open.first_at.Goals as goal

pub returns-then-is_open : goal.returns-then-is_open
returns-then-is_open g c =
    let p = g.P.GhostProtocol.ghosts c.args.protocol.now in
    sym (element_found (is_open p c.args.held) (requester c.args.access) (suc p.table.count) c.loop-own.own (omega arith) c.loop-own.invariant (sym c.is_open.ensures ∙ c.if-is_open.true))

pub loop-own-preserved : goal.loop-own-preserved
loop-own-preserved g c =
    let p = g.P.GhostProtocol.ghosts c.args.protocol.now in
    element_none (is_open p c.args.held) (requester c.args.access) c.loop-own.own c.loop-own.invariant (sym c.is_open.ensures ∙ c.if-is_open.false)

pub returns : goal.returns
returns g c =
    let p = g.P.GhostProtocol.ghosts c.args.protocol.now in
    sym (none_of_all (is_open p c.args.held) (map (requester c.args.access)) (suc p.table.count) c.loop-own.own (omega arith) c.loop-own.invariant)
