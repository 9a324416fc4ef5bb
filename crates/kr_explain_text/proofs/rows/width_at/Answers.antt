use Rattle.std.specs.Prelude.{slice_index_or}
use Rattle.std.proofs.Common.{◌≡◌, List, [], max, String, Global, ap, ◌∙◌, length}
use Rattle.kr_explain_text.specs.Steps.{texts}
use Rattle.kr_explain_text.proofs.Rowed.{width_more, width_all}
use Rattle.kr_explain_text.proofs.rows.width_at.Goals as goal

pub loop-at-preserved : goal.loop-at-preserved
loop-at-preserved c =
    let k = c.args.column in
    let long : c.length_at-length.result ≡ length (slice_index_or (texts c.index-rows-at.result.items) k []) = c.length_at-length.ensures ∙ ap (λ (cs : List (String Global)). length (slice_index_or (texts cs) k [])) c.as_slice.ensures.value in
    width_more c.args.rows.now k c.loop-at.at c.index-rows-at.result c.loop-at.widest c.wider-widest.result _ c.loop-at-test.true c.index-rows-at.is (c.wider-widest.ensures ∙ ap (max c.loop-at.widest) long) c.loop-at.invariant

pub returns : goal.returns
returns c = width_all c.args.rows.now c.args.column c.loop-at.at c.loop-at.widest c.loop-at-test.false c.loop-at.invariant
