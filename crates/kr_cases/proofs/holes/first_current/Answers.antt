use Rattle.std.proofs.Common.{suc, map, sym, ◌∙◌, arith}
use Rattle.std.specs.List.{flat_map}
use Rattle.kr_model.specs.Covers.{requester, is_open, modes_or_none}
use Rattle.kr_model.specs.declared.Side.TheVariants.{Current}
use Rattle.kr_cases.proofs.Firsts.{counted_found, counted_none, none_of_all}
use Rattle.kr_cases.proofs.holes.first_current.Goals as goal

pub returns-in-Some : goal.returns-in-Some
returns-in-Some g c =
    let p = g.P.Protocol.table c.args.protocol.now in
    sym (counted_found (is_open p c.args.held) (λ o. map (λ n. requester (c.args.row, Current) o n) (modes_or_none p)) (suc p.count) c.loop-own.own c.in-Some.requester (omega arith) c.loop-own.invariant (sym c.in-Some.ensures))

pub loop-own-preserved : goal.loop-own-preserved
loop-own-preserved g c =
    let p = g.P.Protocol.table c.args.protocol.now in
    counted_none (is_open p c.args.held) (λ o. map (λ n. requester (c.args.row, Current) o n) (modes_or_none p)) c.loop-own.own c.loop-own.invariant (sym c.first_holding.ensures ∙ c.in_default.is)

pub returns : goal.returns
returns g c =
    let p = g.P.Protocol.table c.args.protocol.now in
    sym (none_of_all (is_open p c.args.held) (flat_map (λ o. map (λ n. requester (c.args.row, Current) o n) (modes_or_none p))) (suc p.count) c.loop-own.own (omega arith) c.loop-own.invariant)
