use Rattle.std.proofs.Common.{◌≡◌, ◌+◌, sym, subst, take, All, List, arith}
use Rattle.std.proofs.lemmas.Grind.{common_steps}
use Rattle.std.proofs.lemmas.List.{map-append}
use Rattle.std.proofs.lemmas.List.Elements.{All-push}
use Rattle.kr_suite_core.specs.Judged.{IsJudged, changes_in}
use Rattle.kr_suite_core.specs.declared.judged.Judged.{Judged}
use Rattle.kr_suite_core.proofs.judged.judge_all.Goals as goal

-- one change more
pub loop-change-preserved : goal.loop-change-preserved
loop-change-preserved g c =
    let p = g.P.IndexProtocol.index c.args.protocol.now in
    let judged = c.loop-change.invariant.1 in
    let items = c.in_ok-push.ensures.items in
    let so_far = c.loop-change.invariant.0 in
    let more : changes_in c.push.new.self.items ≡ take (c.loop-change.change-index + 1) c.args.changes.now = grind (arith, common_steps, map-append, items, so_far) in
    (more, subst (λ (js : List Judged). All (IsJudged p) js) (sym items) (All-push (IsJudged p) c.loop-change.judged.items _ judged c.in_ok-is_alike.ensures))
