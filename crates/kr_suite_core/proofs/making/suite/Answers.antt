use Rattle.std.proofs.Common.{◌∙◌, ap, sym, subst, All, List}
use Rattle.std.specs.List.{filter_map}
use Rattle.kr_suite_core.specs.Judged.{IsJudged, alike_of, changes_in, left_of}
use Rattle.kr_suite_core.specs.declared.judged.Judged.{Judged}
use Rattle.kr_suite_core.specs.declared.tested.Tested.{Tested}
use Rattle.kr_suite_core.proofs.Shared.{is_suite}
use Rattle.kr_suite_core.proofs.making.suite.Goals as goal

pub judge_again-requires : goal.judge_again-requires
judge_again-requires g c = subst (λ (js : List Judged). All (IsJudged (g.P.IndexProtocol.index c.args.protocol.now)) js) (sym c.deref-4.ensures.value) c.in_ok-judged.ensures.alike

pub returns : goal.returns
returns g c =
    is_suite (g.P.IndexProtocol.index c.args.protocol.now) (record { parts = c.in_ok-parts.parts; alike = c.in_ok-alike.alike; left = c.in_ok-left.left }) c.in_ok-again.again.items
    (c.in_ok-again.ensures.changes ∙ ap changes_in c.deref-4.ensures.value ∙ c.in_ok-judged.ensures.changes ∙ c.deref.ensures.value ∙ c.in_ok-changes.ensures)
    c.in_ok-again.ensures.alike
    c.in_ok-parts.ensures
    (c.in_ok-alike.ensures ∙ ap (filter_map alike_of) c.deref-5.ensures.value)
    (c.in_ok-left.ensures ∙ ap (λ (ts : List Tested). filter_map (left_of ts) c.deref-7.result.now) c.deref-6.ensures.value ∙ ap (filter_map (left_of c.in_ok-parts.parts.items)) c.deref-7.ensures.value)
