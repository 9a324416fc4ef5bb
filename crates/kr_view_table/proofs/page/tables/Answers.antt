use Rattle.std.specs.Prelude.{List, ◌++◌, length, string_bytes}
use Rattle.std.proofs.Common.{ap, ◌∙◌}
use Rattle.kr_explain_core.specs.declared.explanation.Explained.{Explained}
use Rattle.kr_view_table.specs.declared.matrices.Matrix.TheVariants.{Compatible, Converted}
use Rattle.kr_view_table.specs.Told.{causes_of}
use Rattle.kr_view_table.specs.Matrices.{matrix_words}
use Rattle.kr_view_table.specs.Rules.{rules_words}
use Rattle.kr_view_table.specs.Covers.{covers_words}
use Rattle.kr_view_table.specs.Causes.{causes_heading}
use Rattle.kr_view_table.specs.Page.{tables_words}
use Rattle.kr_view_table.proofs.Put.{same_text, five}
use Rattle.kr_view_table.proofs.page.tables.Goals as goal

pub returns : goal.returns
returns g c =
    let p = g.P.Protocol.table c.args.protocol.now in
    let names = g.P.Protocol.names c.args.protocol.now in
    let e = c.args.explanation.now in
    let compatible = string_bytes c.in_ok-compatible.compatible in
    let converted = string_bytes c.in_ok-converted.converted in
    let rules = string_bytes c.in_ok-rules.rules in
    let covers = string_bytes c.in_ok-covers.covers in
    let heading = c.heading-heading.result.now in
    same_text c.format.result (compatible ++ (converted ++ (rules ++ (covers ++ heading)))) (tables_words p names e)
    (five compatible (matrix_words p names e Compatible) converted (matrix_words p names e Converted) rules (rules_words p names (causes_of e)) covers (covers_words p names) heading (causes_heading (length (causes_of e)))
    c.in_ok-compatible.ensures c.in_ok-converted.ensures
    (c.in_ok-rules.ensures ∙ ap (λ (es : List Explained). rules_words p names es) c.causes_of-causes.ensures)
    c.in_ok-covers.ensures
    (c.heading-heading.ensures ∙ ap (λ (es : List Explained). causes_heading (length es)) c.causes_of-causes.ensures))
    c.format.ensures.ok
