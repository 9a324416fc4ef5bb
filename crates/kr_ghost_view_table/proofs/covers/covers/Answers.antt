use Rattle.std.specs.Prelude.{◌++◌, string_bytes, codes, flat_map}
use Rattle.kr_model.specs.Covers.{modes}
use Rattle.kr_view_table.proofs.Put.{same_text, two}
use Rattle.kr_ghost_view_table.specs.declared.covers.TheConstants.{COVERS}
use Rattle.kr_ghost_view_table.specs.Covers.{covers_words, mode_row}
use Rattle.kr_ghost_view_table.proofs.covers.covers.Goals as goal

pub returns : goal.returns
returns g c =
    let p = g.P.GhostProtocol.ghosts c.args.protocol.now in
    let names = g.P.Protocol.names c.args.protocol.now in
    let opening = c.opening-opening.result.now in
    let rows = string_bytes c.in_ok-rows.rows in
    let end = codes "</tbody></table></div>\n" in
    same_text c.format.result (opening ++ (rows ++ end)) (covers_words p names)
    (two opening COVERS.now rows (flat_map (mode_row p names) (modes p.table)) end c.opening-opening.ensures c.in_ok-rows.ensures)
    c.format.ensures.ok
