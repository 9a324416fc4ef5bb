use Rattle.std.specs.Prelude.{IfOk}
use Rattle.std.proofs.Common.{subst, sym}
use Rattle.kr_cli.specs.declared.named.Named.{Named}
use Rattle.kr_cli_tables.specs.View.{ShowsNamed}
use Rattle.kr_cli_tables.proofs.ViewShown.{ghost_table_shown, table_shown}
use Rattle.kr_cli_tables.proofs.pages.view_named.Goals as goal

pub returns-in-Table-clause-shows : goal.returns-in-Table-clause-shows
returns-in-Table-clause-shows g c =
    let old = g.W.Sink.taken c.args.out.now in
    let new = g.W.Sink.taken c.write_table_page.new.out in
    subst (λ (n : Named). IfOk c.write_table_page.result (ShowsNamed n c.args.word.now old new)) (sym c.in-Table.is)
    (table_shown c.write_table_page.result c.in-Table.table c.args.word.now old new c.lemma_lawful.ensures c.write_table_page.ensures.page c.write_table_page.ensures.safe)

pub returns-in-Ghosts-clause-shows : goal.returns-in-Ghosts-clause-shows
returns-in-Ghosts-clause-shows g c =
    let old = g.W.Sink.taken c.args.out.now in
    let new = g.W.Sink.taken c.write_ghost_table_page.new.out in
    subst (λ (n : Named). IfOk c.write_ghost_table_page.result (ShowsNamed n c.args.word.now old new)) (sym c.in-Ghosts.is)
    (ghost_table_shown c.write_ghost_table_page.result c.in-Ghosts.table c.args.word.now old new c.write_ghost_table_page.ensures.page)
