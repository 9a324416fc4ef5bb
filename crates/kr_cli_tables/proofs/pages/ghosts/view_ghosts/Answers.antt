use Rattle.std.proofs.Common.{rules}
use Rattle.kr_cli.specs.GhostScripts.{TellsNoGhostScript}
use Rattle.kr_cli_tables.proofs.ViewShown.{ghosts_shown, page_fault, word_fault}
use Rattle.kr_cli_tables.proofs.pages.ghosts.view_ghosts.Goals as goal

pub returns-in_err-script-clause-err : goal.returns-in_err-script-clause-err
returns-in_err-script-clause-err g c =
    let Tells = TellsNoGhostScript (g.F.Files.may_give c.args.files.now) c.args.words.1.now in
    let ends = word_fault Tells Tells _ (λ line told. told) c.in_err-script.ensures.fault in
    search rules

pub returns-clause-shows : goal.returns-clause-shows
returns-clause-shows g c =
    let taken = g.W.Sink.taken in
    ghosts_shown (g.F.Files.may_give c.args.files.now) c.write_ghost_page.result c.args.table.now c.args.words.0.now c.args.words.1.now (taken c.args.out.now) (taken c.write_ghost_page.new.out) c.in_ok-script.script c.in_ok-script.ensures.script c.write_ghost_page.ensures.page c.write_ghost_page.ensures.serial

pub returns-clause-err : goal.returns-clause-err
returns-clause-err g c = page_fault (TellsNoGhostScript (g.F.Files.may_give c.args.files.now) c.args.words.1.now) c.write_ghost_page.result c.write_ghost_page.ensures.err
