use Rattle.std.specs.Prelude.{◌++◌, string_bytes, codes, flat_map}
use Rattle.kr_model.specs.Covers.{all_covers, modes}
use Rattle.kr_view_table.specs.declared.covers.TheConstants.{COVERS}
use Rattle.kr_view_table.specs.Covers.{cover_head, covers_words, mode_row}
use Rattle.kr_view_table.proofs.Put.{same_text, three}
use Rattle.kr_view_table.proofs.covers.covers.Goals as goal

pub returns : goal.returns
returns g c =
    let p = g.P.Protocol.table c.args.protocol.now in
    let names = g.P.Protocol.names c.args.protocol.now in
    let opening = c.opening-opening.result.now in
    let heads = string_bytes c.in_ok-heads.heads in
    let rows = string_bytes c.in_ok-rows.rows in
    let between = codes "</tr></thead>\n<tbody>\n" in
    let end = codes "</tbody></table></div>\n" in
    same_text c.format.result (opening ++ (heads ++ (between ++ (rows ++ end)))) (covers_words p names)
    (three opening COVERS.now heads (flat_map cover_head (all_covers p)) between rows (flat_map (mode_row p names) (modes p)) end c.opening-opening.ensures c.in_ok-heads.ensures c.in_ok-rows.ensures)
    c.format.ensures.ok
