use Rattle.std.proofs.Common.{◌∙◌, ◌≡◌, ◌<◌, rules, length}
use Rattle.std.proofs.lemmas.List.{get_or_default}
use Rattle.kr_model.specs.Safe.{free}
use Rattle.kr_alike.specs.Alone.{state_at}
use Rattle.kr_alike.proofs.Lists.{within_at}
use Rattle.kr_alike.proofs.left.lets_in_of.Goals as goal

pub lets_in-requires-clause-next : goal.lets_in-requires-clause-next
lets_in-requires-clause-next g c =
    let below : c.loop-at.at < length c.args.states.now.items = search rules in
    let is : c.index.result.now ≡ state_at c.args.states.now.items c.loop-at.at = c.index.ensures ∙ get_or_default c.args.states.now.items c.loop-at.at c.index.result.now free below in
    within_at (g.P.Protocol.table c.args.protocol.now) (g.met.P.Protocol.lawful c.args.protocol.now) c.args.states.now.items c.requires.states c.index.result.now c.loop-at.at below is
