use Rattle.std.proofs.Common.{suc, map, sym, ◌∙◌, arith}
use Rattle.kr_model.specs.Covers.{requester, is_open}
use Rattle.kr_model.specs.declared.Side.TheVariants.{Current}
use Rattle.kr_cases.proofs.Firsts.{element_found, element_none, none_of_all}
use Rattle.kr_cases.proofs.holes.first_holding.Goals as goal

pub returns-then-is_open : goal.returns-then-is_open
returns-then-is_open g c =
    let p = g.P.Protocol.table c.args.protocol.now in
    sym (element_found (is_open p c.args.held) (λ o. requester (c.args.row, Current) c.args.own o) (suc p.count) c.loop-own_next.own_next (omega arith) c.loop-own_next.invariant (sym c.is_open.ensures ∙ c.if-is_open.true))

pub loop-own_next-preserved : goal.loop-own_next-preserved
loop-own_next-preserved g c =
    let p = g.P.Protocol.table c.args.protocol.now in
    element_none (is_open p c.args.held) (λ o. requester (c.args.row, Current) c.args.own o) c.loop-own_next.own_next c.loop-own_next.invariant (sym c.is_open.ensures ∙ c.if-is_open.false)

pub returns : goal.returns
returns g c =
    let p = g.P.Protocol.table c.args.protocol.now in
    sym (none_of_all (is_open p c.args.held) (map (λ o. requester (c.args.row, Current) c.args.own o)) (suc p.count) c.loop-own_next.own_next (omega arith) c.loop-own_next.invariant)
