use Rattle.std.specs.Prelude.{◌++◌, [], string_bytes}
use Rattle.std.proofs.Common.{ap, sym, ◌∙◌}
use Rattle.kr_model.specs.Protocol.{Protocol}
use Rattle.kr_explain_core.specs.declared.explanation.Explanation.TheVariants.{Accepted}
use Rattle.kr_view_table.specs.declared.matrices.Matrix.TheVariants.{Compatible, Converted}
use Rattle.kr_view_table.specs.Matrices.{matrix_words}
use Rattle.kr_view_table.specs.Rules.{rules_words}
use Rattle.kr_view_table.proofs.Put.{same_text, five}
use Rattle.kr_ghost_view_table.specs.Covers.{covers_words}
use Rattle.kr_ghost_view_table.specs.Ghosts.{ghosts_words}
use Rattle.kr_ghost_view_table.specs.Page.{tables_words}
use Rattle.kr_ghost_view_table.proofs.page.tables.Goals as goal

pub returns : goal.returns
returns g c =
    let p = g.P.GhostProtocol.ghosts c.args.protocol.now in
    let names = g.P.Protocol.names c.args.protocol.now in
    let law = sym (g.met.P.GhostProtocol.tables c.args.protocol.now) in
    let compatible = string_bytes c.in_ok-compatible.compatible in
    let converted = string_bytes c.in_ok-converted.converted in
    let rules = string_bytes c.in_ok-rules.rules in
    let ghosts = string_bytes c.in_ok-ghosts.ghosts in
    let covers = string_bytes c.in_ok-covers.covers in
    same_text c.format.result (compatible ++ (converted ++ (rules ++ (ghosts ++ covers)))) (tables_words p names)
    (five compatible (matrix_words p.table names (Accepted 0) Compatible) converted (matrix_words p.table names (Accepted 0) Converted) rules (rules_words p.table names []) ghosts (ghosts_words p names) covers (covers_words p names)
    (c.in_ok-compatible.ensures ∙ ap (λ (q : Protocol). matrix_words q names (Accepted 0) Compatible) law)
    (c.in_ok-converted.ensures ∙ ap (λ (q : Protocol). matrix_words q names (Accepted 0) Converted) law)
    (c.in_ok-rules.ensures ∙ ap (λ (q : Protocol). rules_words q names []) law)
    c.in_ok-ghosts.ensures c.in_ok-covers.ensures)
    c.format.ensures.ok
