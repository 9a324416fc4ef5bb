use Rattle.std.proofs.Common.{◌++◌, string_bytes, ap, ◌∙◌}
use Rattle.kr_model.specs.declared.Rule.TheVariants as rule
use Rattle.kr_explain_text.specs.Titles.{all_groups}
use Rattle.kr_explain_text.proofs.Grouped.{group_more, all_counted}
use Rattle.kr_explain_text.proofs.title.counts.Goals as goal

pub loop-rule-preserved : goal.loop-rule-preserved
loop-rule-preserved c = group_more c.args.cases.now all_groups c.loop-rule.rule-index rule.Conversion c.loop-rule.is_first c.is_none_yet-is_first.result c.count_of-count.result (string_bytes c.loop-rule.out) (string_bytes c.in_ok-group.group) (string_bytes c.push_str.new.self) _ c.loop-rule-test.true c.count_of-count.ensures c.in_ok-group.ensures c.is_none_yet-is_first.ensures (c.in_ok-push_str.ensures.bytes ∙ ap (λ z. string_bytes c.loop-rule.out ++ z) c.as_str.ensures.value) c.loop-rule.invariant

pub returns : goal.returns
returns c = all_counted c.args.cases.now c.loop-rule.is_first c.loop-rule.rule-index (string_bytes c.loop-rule.out) c.loop-rule-test.false c.loop-rule.invariant
