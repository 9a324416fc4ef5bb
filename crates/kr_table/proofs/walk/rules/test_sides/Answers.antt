use Rattle.std.proofs.Common.{◌≡◌, None, map, string_bytes, arith}
use Rattle.std.proofs.lemmas.Grind.{common_steps}
use Rattle.toml.specs.Data.{as_array}
use Rattle.toml.specs.View.{view, members_view}
use Rattle.kr_table.proofs.Lists.{side_told}
use Rattle.kr_table.proofs.walk.rules.test_sides.Goals as goal

pub loop-side-preserved : goal.loop-side-preserved
loop-side-preserved c = grind (arith, common_steps)

pub loop-side-init : goal.loop-side-init
loop-side-init c = grind (arith, common_steps)

pub returns-in_default : goal.returns-in_default
returns-in_default c =
    let none : as_array (view c.in-Some.value.now) ≡ None = grind (arith, common_steps) in
    rw (c.loop-side.invariant, c.in-Some.ensures.steps)
    (side_told c.args.rows (map string_bytes c.args.modes.now) c.args.row.now (string_bytes c.in-Some.side.now) (view c.in-Some.value.now) (members_view c.next.new.self) c.rule_side.result none (rw (← c.as_str.ensures.value) c.rule_side.ensures))

pub returns-then-not-is_side : goal.returns-then-not-is_side
returns-then-not-is_side c = grind (arith, common_steps)

pub returns-in_err-test_clauses : goal.returns-in_err-test_clauses
returns-in_err-test_clauses c = grind (arith, common_steps)

pub returns : goal.returns
returns c = grind (arith, common_steps)
