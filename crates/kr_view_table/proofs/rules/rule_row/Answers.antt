use Rattle.std.specs.Prelude.{◌++◌, string_bytes, codes}
use Rattle.kr_model.specs.declared.Side.TheVariants.{Current, Next}
use Rattle.kr_model.specs.Words.{row_word}
use Rattle.kr_view_table.specs.Rules.{meaning, rule_row, side_cell}
use Rattle.kr_view_table.proofs.Put.{same_text, four}
use Rattle.kr_view_table.proofs.rules.rule_row.Goals as goal

pub returns : goal.returns
returns g c =
    let p = g.P.Protocol.table c.args.protocol.now in
    let names = g.P.Protocol.names c.args.protocol.now in
    let r = c.args.row in
    let word = c.row_word-word.result.now in
    let told = c.meaning-meaning.result.now in
    let current = string_bytes c.in_ok-current.current in
    let next = string_bytes c.in_ok-next.next in
    let a = codes "<tr class=\"rule\"><th scope=\"row\">" in
    let b = codes "<small>" in
    let d = codes "</small></th><td>" in
    let e = codes "</td><td>" in
    let f = codes "</td></tr>\n" in
    same_text c.format.result (a ++ (word ++ (b ++ (told ++ (d ++ (current ++ (e ++ (next ++ f)))))))) (rule_row p names c.args.causes.now r)
    (four a b d e f word (row_word r) told (meaning r) current (side_cell p names c.args.causes.now r Current) next (side_cell p names c.args.causes.now r Next)
    c.row_word-word.ensures c.meaning-meaning.ensures c.in_ok-current.ensures c.in_ok-next.ensures)
    c.format.ensures.ok
