use Rattle.std.proofs.Common.{◌≡◌, ◌+◌, sym, subst, take, All, List, arith}
use Rattle.std.proofs.lemmas.Grind.{common_steps}
use Rattle.std.proofs.lemmas.List.{map-append}
use Rattle.std.proofs.lemmas.List.Elements.{All-push}
use Rattle.kr_kinds.specs.Kinds.{Gone}
use Rattle.kr_suite_core.specs.Judged.{IsJudged, changes_in}
use Rattle.kr_suite_core.specs.declared.judged.Judged.{Judged}
use Rattle.kr_suite_core.proofs.again.look_at_all.Goals as goal

-- one change more
pub loop-one-preserved : goal.loop-one-preserved
loop-one-preserved g c =
    let p = Gone (g.P.Protocol.table c.args.protocol.now) in
    let again = c.loop-one.invariant.1 in
    let items = c.in_ok-push.ensures.items in
    let so_far = c.loop-one.invariant.0 in
    let more : changes_in c.push.new.self.items ≡ changes_in (take (c.loop-one.one-index + 1) c.args.judged.now) = grind (arith, common_steps, map-append, items, so_far) in
    (more, subst (λ (js : List Judged). All (IsJudged p) js) (sym items) (All-push (IsJudged p) c.loop-one.again.items _ again c.in_ok-look_at.ensures.alike))
