use Rattle.std.proofs.Common.{◌≡◌, ◌∙◌, ap, sym, subst, rules, List}
use Rattle.kr_model.specs.declared.Event.{Event}
use Rattle.kr_model.specs.Map.{Map, IsMap}
use Rattle.kr_apart.specs.Apart.{replies_under}
use Rattle.kr_suite_core.proofs.Tried.{opening_is_map, is_tested}
use Rattle.kr_suite_core.proofs.tested.part_of.Goals as goal

pub play_any-requires : goal.play_any-requires
play_any-requires g c =
    let same : c.deref-3.result.now ≡ c.args.part.now.opening.items = search rules in
    subst IsMap (sym same) (opening_is_map (g.P.IndexProtocol.index c.args.protocol.now) c.args.part.now.opening.items c.args.part.now.events.items c.args.tells.items c.requires.some c.requires.named)

pub returns : goal.returns
returns g c =
    let p = g.P.IndexProtocol.index c.args.protocol.now in
    let opening : c.in_ok-opening.opening.items ≡ c.args.part.now.opening.items = search rules in
    let events : c.in_ok-events.events.items ≡ c.args.part.now.events.items = search rules in
    let replies : c.in_ok-replies.replies.items ≡ replies_under p c.in_ok-opening.opening.items c.in_ok-events.events.items =
    c.in_ok-replies.ensures
    ∙ ap (λ (m : Map). replies_under p m c.deref-4.result.now) c.deref-3.ensures.value
    ∙ ap (λ (es : List Event). replies_under p c.in_ok-opening.opening.items es) c.deref-4.ensures.value in
    is_tested p c.args.part.now.opening.items c.args.part.now.events.items (record { opening = c.in_ok-opening.opening; events = c.in_ok-events.events; replies = c.in_ok-replies.replies; tells = c.args.tells }) opening events replies c.requires.some c.requires.named
