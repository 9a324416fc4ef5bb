-- what was written, and what the groups that are left will write, is what all groups write
use Rattle.std.proofs.Common.{◌≡◌, ◌++◌, true, drop, string_bytes}
use Rattle.kr_explain_text.specs.Titles.{all_groups}
use Rattle.kr_explain_text.proofs.Grouped.{groups_from}
use Rattle.kr_explain_text.proofs.title.counts.Given as goal

abbrev pub invariant-loop-rule : goal.invariant-loop-rule
invariant-loop-rule l = string_bytes l.out ++ groups_from l.cases l.is_first (drop l.rule-index l.rule-items) ≡ groups_from l.cases true all_groups
