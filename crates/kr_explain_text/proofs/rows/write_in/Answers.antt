use Rattle.std.proofs.Common.{List, ◌++◌, String, Global, ap, ◌∙◌, string_bytes}
use Rattle.kr_explain_text.specs.Steps.{row_text, texts}
use Rattle.kr_explain_text.proofs.Rowed.{row_written, rows_written}
use Rattle.kr_explain_text.proofs.rows.write_in.Goals as goal

pub loop-at-preserved : goal.loop-at-preserved
loop-at-preserved c =
    let out = string_bytes c.loop-at.out in
    let F = row_text c.args.widths.now in
    row_written F c.args.rows.now c.loop-at.at c.index-rows-at.result out (string_bytes c.write_row.new.out) _ c.loop-at-test.true c.index-rows-at.is (c.in_ok-write_row.ensures ∙ ap (λ (cs : List (String Global)). out ++ F (texts cs)) c.as_slice.ensures.value) c.loop-at.invariant

pub returns : goal.returns
returns c = rows_written (row_text c.args.widths.now) c.args.rows.now c.loop-at.at (string_bytes c.loop-at.out) _ c.loop-at-test.false c.loop-at.invariant
