use Rattle.std.specs.Prelude.{◌≡◌, ◌+◌, length, refl}
use Rattle.std.proofs.Common.{ap, ◌∙◌}
use Rattle.kr_model.specs.State.{start}
use Rattle.kr_model.specs.Run.{run}
use Rattle.kr_view_scenes.specs.Scenes.{drawn_steps}
use Rattle.kr_view_scenes.proofs.Rest.{numbered, drawn_are, same_steps}
use Rattle.kr_view_scenes.proofs.scenes.scenes_of.Goals as goal

pub returns : goal.returns
returns g c =
    let table = g.P.Protocol.table in
    let p = table c.args.protocol.now in
    let opening = c.args.opening.now in
    let steps = c.args.steps.now in
    let earlier = c.split_at.result.0.now in
    let drawn = c.split_at.result.1.now in
    let machine = c.new-machine.result in
    let now = (run (table machine.protocol.now) machine.state earlier).state in
    let same_table : table machine.protocol.now ≡ p = ap (λ m. table m.protocol.now) c.new-machine.ensures in
    let state_is : now ≡ (run p (start opening) earlier).state =
    ap (λ m. (run (table m.protocol.now) m.state earlier).state) c.new-machine.ensures ∙ ap (λ o. (run p (start o) earlier).state) c.in_ok-index.ensures.map in
    let are : numbered p now (length earlier + 1) drawn ≡ drawn_steps p opening steps =
    drawn_are p opening steps earlier drawn now (numbered p now (length earlier + 1) drawn) (c.split_at.ensures.front_len ∙ c.saturating_sub.ensures) c.split_at.ensures.by_index.0 state_is refl in
    same_steps c.scenes_on.result (numbered (table machine.protocol.now) now (length earlier + 1) drawn) (drawn_steps p opening steps)
    (ap (λ t. numbered t now (length earlier + 1) drawn) same_table ∙ are) c.scenes_on.ensures
