use Rattle.std.proofs.Common.{ap, ◌∙◌, arith}
use Rattle.kr_change.specs.Every.{is_same_request}
use Rattle.kr_view_table.proofs.Pieces.{own_tested, own_kept_all}
use Rattle.kr_view_table.proofs.rules.owns_of.Goals as goal

pub loop-own-preserved : goal.loop-own-preserved
loop-own-preserved g c =
    let p = g.P.Protocol.table c.args.protocol.now in
    own_tested (λ o. is_same_request (p.ask c.args.row c.args.side o) c.args.asked) c.loop-own.own c.is_same_request-leads.result c.loop-own.owns.items c.push_if.new.owns.items c.loop-own.invariant (c.is_same_request-leads.ensures ∙ ap (λ a. is_same_request a c.args.asked) c.ask.ensures) c.in_ok-push_if.ensures

pub returns : goal.returns
returns g c =
    let p = g.P.Protocol.table c.args.protocol.now in
    own_kept_all p (λ o. is_same_request (p.ask c.args.row c.args.side o) c.args.asked) c.loop-own.own c.loop-own.owns.items (omega arith) c.loop-own.invariant
