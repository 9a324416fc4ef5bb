use Rattle.std.specs.Prelude.{string_bytes}
use Rattle.kr_cli_tables.specs.View.{drawn_of_ghosts}
use Rattle.kr_cli_tables.proofs.ViewShown.{written}
use Rattle.kr_cli_tables.proofs.pages.ghosts.write_ghost_page.Goals as goal

pub returns-clause-page : goal.returns-clause-page
returns-clause-page g c =
    let taken = g.W.Sink.taken in
    written c.as_bytes.result.now (string_bytes c.in_ok-page.page) c.args.table.now (drawn_of_ghosts (g.P.GhostProtocol.ghosts c.args.protocol.now) c.args.script.now) c.in_ok-page.is_serial (taken c.args.out.now) (taken c.put_all.new.out) c.as_bytes.ensures.value c.in_ok-page.ensures.page c.in_ok-put_all.ensures.ok
