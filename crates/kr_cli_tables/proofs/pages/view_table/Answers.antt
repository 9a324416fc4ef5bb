use Rattle.std.proofs.Common.{rules}
use Rattle.kr_cli.specs.NamedTables.{TellsNone}
use Rattle.kr_cli_tables.proofs.ViewShown.{named_shown, page_fault, word_fault}
use Rattle.kr_cli_tables.proofs.pages.view_table.Goals as goal

pub returns-in_err-named-clause-err : goal.returns-in_err-named-clause-err
returns-in_err-named-clause-err g c =
    let Tells = TellsNone (g.F.Files.may_give c.args.files.now) c.args.word.now in
    let ends = word_fault Tells Tells _ (λ line told. told) c.in_err-named.ensures.fault in
    search rules

pub returns-clause-shows : goal.returns-clause-shows
returns-clause-shows g c =
    let taken = g.W.Sink.taken in
    named_shown (g.F.Files.may_give c.args.files.now) c.view_named.result c.in_ok-named.named c.args.word.now (taken c.args.out.now) (taken c.view_named.new.out) c.in_ok-named.ensures.table c.view_named.ensures.shows

pub returns-clause-err : goal.returns-clause-err
returns-clause-err g c = page_fault (TellsNone (g.F.Files.may_give c.args.files.now) c.args.word.now) c.view_named.result c.view_named.ensures.err
