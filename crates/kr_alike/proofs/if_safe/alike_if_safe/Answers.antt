use Rattle.std.proofs.lemmas.Result.{IfOk-weaker}
use Rattle.kr_model.specs.Protocol.{Protocol}
use Rattle.kr_alike.specs.declared.coming.Coming.{Coming}
use Rattle.kr_alike.proofs.SafeRuns.{closed_is_alike}
use Rattle.kr_alike.proofs.Marked.{closed_safely, closed_fully}
use Rattle.kr_alike.proofs.if_safe.alike_if_safe.Goals as goal

pub returns-clause-exactly : goal.returns-clause-exactly
returns-clause-exactly g c =
    let p : Protocol = g.P.Protocol.table c.args.first.now in
    let q : Protocol = g.Q.Protocol.table c.args.second.now in
    let laws = g.met.P.Protocol.lawful c.args.first.now in
    let w : Coming = record { asked = c.in_ok-asked.asked; left = c.in_ok-left.left } in
    IfOk-weaker c.alike_where.result _ _
    (λ yes is. (λ t. closed_safely p laws w c.in_ok-asked.ensures c.in_ok-left.ensures q (is.0 t), λ some. is.1 (closed_fully p laws w c.in_ok-asked.ensures c.in_ok-left.ensures q some)))
    c.alike_where.ensures

pub returns-clause-alike : goal.returns-clause-alike
returns-clause-alike g c =
    let p : Protocol = g.P.Protocol.table c.args.first.now in
    let q : Protocol = g.Q.Protocol.table c.args.second.now in
    let laws = g.met.P.Protocol.lawful c.args.first.now in
    let w : Coming = record { asked = c.in_ok-asked.asked; left = c.in_ok-left.left } in
    IfOk-weaker c.alike_where.result _ _
    (λ yes is t. closed_is_alike p q laws (g.met.Q.Protocol.lawful c.args.second.now) (g.met.P.SafeProtocol.safe c.args.first.now) (closed_safely p laws w c.in_ok-asked.ensures c.in_ok-left.ensures q (is.0 t)))
    c.alike_where.ensures
