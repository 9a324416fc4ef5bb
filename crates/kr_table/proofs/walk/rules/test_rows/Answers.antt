use Rattle.std.proofs.Common.{◌≡◌, None, map, string_bytes, arith}
use Rattle.std.proofs.lemmas.Grind.{common_steps}
use Rattle.toml.specs.Data.{as_table}
use Rattle.toml.specs.View.{view, members_view}
use Rattle.kr_table.proofs.Lists.{row_told}
use Rattle.kr_table.proofs.walk.rules.test_rows.Goals as goal

pub loop-row-preserved : goal.loop-row-preserved
loop-row-preserved c = grind (arith, common_steps)

pub loop-row-init : goal.loop-row-init
loop-row-init c = grind (arith, common_steps)

pub returns-in_default : goal.returns-in_default
returns-in_default c =
    let none : as_table (view c.in-Some.value.now) ≡ None = grind (arith, common_steps) in
    rw (c.loop-row.invariant, c.in-Some.ensures.steps)
    (row_told c.args.rows (map string_bytes c.args.modes.now) (string_bytes c.in-Some.row.now) (view c.in-Some.value.now) (members_view c.next.new.self) c.rule_row.result none (rw (← c.as_str.ensures.value) c.rule_row.ensures))

pub returns-then-not-is_row : goal.returns-then-not-is_row
returns-then-not-is_row c = grind (arith, common_steps)

pub returns-in_err-test_sides : goal.returns-in_err-test_sides
returns-in_err-test_sides c = grind (arith, common_steps)

pub returns : goal.returns
returns c = grind (arith, common_steps)
