use Rattle.std.proofs.Common.{◌≡◌, rules, []}
use Rattle.std.proofs.lemmas.Result.{IfOk-weaker}
use Rattle.kr_model.specs.Protocol.{Protocol}
use Rattle.kr_alike.specs.declared.coming.Coming.{Coming}
use Rattle.kr_alike.proofs.Runs.{closed_is_alike}
use Rattle.kr_alike.proofs.Everything.{all_closed, closed_all}
use Rattle.kr_alike.proofs.decision.alike.Goals as goal

pub returns-clause-exactly : goal.returns-clause-exactly
returns-clause-exactly g c =
    let p : Protocol = g.P.Protocol.table c.args.first.now in
    let q : Protocol = g.Q.Protocol.table c.args.second.now in
    let w : Coming = record { asked = c.new.result; left = c.new-2.result } in
    let asked : w.asked.items ≡ [] = search rules in
    let left : w.left.items ≡ [] = search rules in
    IfOk-weaker c.alike_where.result _ _ (λ yes is. (λ t. closed_all p q w asked left (is.0 t), λ some. is.1 (all_closed p q w some))) c.alike_where.ensures

pub returns-clause-alike : goal.returns-clause-alike
returns-clause-alike g c =
    let p : Protocol = g.P.Protocol.table c.args.first.now in
    let q : Protocol = g.Q.Protocol.table c.args.second.now in
    let w : Coming = record { asked = c.new.result; left = c.new-2.result } in
    let asked : w.asked.items ≡ [] = search rules in
    let left : w.left.items ≡ [] = search rules in
    IfOk-weaker c.alike_where.result _ _ (λ yes is t. closed_is_alike p q (g.met.P.Protocol.lawful c.args.first.now) (g.met.Q.Protocol.lawful c.args.second.now) (closed_all p q w asked left (is.0 t))) c.alike_where.ensures
