use Rattle.std.specs.Prelude.{◌++◌, string_bytes, codes, flat_map}
use Rattle.kr_model.specs.Covers.{modes}
use Rattle.kr_view_table.specs.Matrices.{head_cell, matrix_words, opening_of, row_words}
use Rattle.kr_view_table.proofs.Put.{same_text, three}
use Rattle.kr_view_table.proofs.matrices.matrix_text.Goals as goal

pub returns : goal.returns
returns g c =
    let p = g.P.Protocol.table c.args.protocol.now in
    let names = g.P.Protocol.names c.args.protocol.now in
    let e = c.args.explanation.now in
    let which = c.args.which in
    let opening = c.opening_of-opening.result.now in
    let heads = string_bytes c.in_ok-heads.heads in
    let rows = string_bytes c.in_ok-rows.rows in
    let between = codes "</tr></thead>\n<tbody>\n" in
    let end = codes "</tbody></table></div>\n" in
    same_text c.format.result (opening ++ (heads ++ (between ++ (rows ++ end)))) (matrix_words p names e which)
    (three opening (opening_of which) heads (flat_map (head_cell names) (modes p)) between rows (flat_map (row_words p names e which) (modes p)) end c.opening_of-opening.ensures c.in_ok-heads.ensures c.in_ok-rows.ensures)
    c.format.ensures.ok
