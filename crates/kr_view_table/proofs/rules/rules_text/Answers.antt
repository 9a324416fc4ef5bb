use Rattle.std.specs.Prelude.{◌++◌, string_bytes, codes, flat_map}
use Rattle.kr_view_table.specs.declared.rules.TheConstants.{RULES}
use Rattle.kr_view_table.specs.Rules.{offered, rule_row, rules_words}
use Rattle.kr_view_table.proofs.Put.{same_text, two}
use Rattle.kr_view_table.proofs.rules.rules_text.Goals as goal

pub returns : goal.returns
returns g c =
    let p = g.P.Protocol.table c.args.protocol.now in
    let names = g.P.Protocol.names c.args.protocol.now in
    let opening = c.opening-opening.result.now in
    let rows = string_bytes c.in_ok-rows.rows in
    let end = codes "</tbody></table></div>\n" in
    same_text c.format.result (opening ++ (rows ++ end)) (rules_words p names c.args.causes.now)
    (two opening RULES.now rows (flat_map (rule_row p names c.args.causes.now) (offered p)) end c.opening-opening.ensures c.in_ok-rows.ensures)
    c.format.ensures.ok
