use Rattle.std.proofs.Common.{ℕ, List, ◌++◌, [], ◌∷◌, ap, sym, ◌∙◌, arith}
use Rattle.std.proofs.lemmas.List.FromFn.{map-range_with_len_more}
use Rattle.kr_explain_text.specs.Steps.{rows_of, width_at, widths_of}
use Rattle.kr_explain_text.proofs.rows.widths_of.Goals as goal

pub loop-column-preserved : goal.loop-column-preserved
loop-column-preserved c =
    let rows = rows_of c.args.rows.now in
    let n = c.loop-column.column in
    c.in_ok-push.ensures.items ∙ (ap (λ (ws : List ℕ). ws ++ c.width_at.result ∷ []) c.loop-column.invariant ∙ (ap (λ (w : ℕ). widths_of n rows ++ w ∷ []) c.width_at.ensures ∙ sym (map-range_with_len_more (width_at rows) 0 n n (omega arith))))
