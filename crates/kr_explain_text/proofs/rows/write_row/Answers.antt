use Rattle.std.proofs.Common.{ℕ, List, ◌+◌, ◌++◌, ◌==◌, ap, refl, ◌∙◌, length, string_bytes}
use Rattle.kr_explain_text.specs.Steps.{cell_words}
use Rattle.kr_explain_text.proofs.Rowed.{cell_more, cells_all}
use Rattle.kr_explain_text.proofs.rows.write_row.Goals as goal

pub loop-at-preserved : goal.loop-at-preserved
loop-at-preserved c =
    let i = c.loop-at.at in
    let is_last = i + 1 == length c.args.cells.now in
    let out = string_bytes c.loop-at.out in
    cell_more c.args.widths.now c.args.cells.now i c.width_in-width.result c.index-cells-at.result is_last out (string_bytes c.write_cell.new.out) _ c.loop-at-test.true c.index-cells-at.is c.width_in-width.ensures refl (c.in_ok-write_cell.ensures ∙ ap (λ (z : List ℕ). out ++ cell_words (i == 0) is_last c.width_in-width.result z) c.as_str.ensures.value) c.loop-at.invariant

pub returns : goal.returns
returns c = cells_all c.args.widths.now c.args.cells.now c.loop-at.at (string_bytes c.loop-at.out) _ c.loop-at-test.false c.loop-at.invariant
