use Rattle.std.specs.Prelude.{◌++◌, string_bytes, codes}
use Rattle.kr_ghost.specs.Words.{cover_code, rule_code}
use Rattle.kr_view_table.proofs.Put.{same_text}
use Rattle.kr_ghost_view_table.specs.Cases.{case_item, origin_words}
use Rattle.kr_ghost_view_table.specs.Covers.{requester_words}
use Rattle.kr_ghost_view_table.specs.Ghosts.{mode_words}
use Rattle.kr_ghost_view_table.proofs.Items.{item}
use Rattle.kr_ghost_view_table.proofs.cases.case_item.Goals as goal

pub returns : goal.returns
returns g c =
    let names = g.P.Protocol.names c.args.protocol.now in
    let f = c.args.case in
    let rule = c.rule_code-rule.result.now in
    let cover = c.cover_code-cover.result.now in
    let origin = string_bytes c.in_ok-origin.origin in
    let mode = string_bytes c.in_ok-mode.mode in
    let let_in = string_bytes c.in_ok-let_in.let_in in
    same_text c.format.result (codes "<li>" ++ (rule ++ (codes " " ++ (cover ++ (codes ", from " ++ (origin ++ (codes ": " ++ (mode ++ (codes " lets through " ++ (let_in ++ codes "</li>\n")))))))))) (case_item names f)
    (item (codes "<li>") rule (rule_code f.case) (codes " ") cover (cover_code f.cover) (codes ", from ") origin (origin_words names f.from) (codes ": ") mode (mode_words names f.mode) (codes " lets through ") let_in (requester_words names f.hole) (codes "</li>\n")
    c.rule_code-rule.ensures c.cover_code-cover.ensures c.in_ok-origin.ensures c.in_ok-mode.ensures c.in_ok-let_in.ensures)
    c.format.ensures.ok
