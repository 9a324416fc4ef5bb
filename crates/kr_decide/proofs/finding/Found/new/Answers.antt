use Rattle.std.proofs.Common.{refl}
use Rattle.kr_decide.proofs.Following.{going_start}
use Rattle.kr_decide.proofs.finding.Found.new.Goals as goal

pub returns : goal.returns
returns g c =
    let laws = g.met.P.Protocol.lawful c.args.protocol.now in
    going_start (g.P.Protocol.table c.args.protocol.now) (record { pairs = c.new.result; unseen = c.in_ok-vec.field-0; nexts = c.new-2.result }) _ c.pair_number.result
    laws.few c.new.ensures.items (let h = c.in_ok-vec.ensures in h.items_if_clones_equal (λ y e. e)) c.new-2.ensures.items c.pair_number.ensures.value c.in_ok-push.ensures.items refl refl
