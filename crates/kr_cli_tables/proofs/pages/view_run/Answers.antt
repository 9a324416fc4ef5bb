use Rattle.std.proofs.Common.{rules, inl, inr}
use Rattle.kr_cli.specs.NamedTables.{TellsNone}
use Rattle.kr_cli_tables.specs.View.{TellsNoScriptFor, TellsWord}
use Rattle.kr_cli_tables.proofs.ViewShown.{shown_under, ends_more, word_fault}
use Rattle.kr_cli_tables.proofs.pages.view_run.Goals as goal

pub returns-in_err-named-clause-err : goal.returns-in_err-named-clause-err
returns-in_err-named-clause-err g c =
    let may_give = g.F.Files.may_give c.args.files.now in
    let ends = word_fault (TellsNone may_give c.args.words.0.now) (TellsWord may_give c.args.words.0.now c.args.words.1.now) _ (λ line told. inl told) c.in_err-named.ensures.fault in
    search rules

pub returns-clause-shows : goal.returns-clause-shows
returns-clause-shows g c =
    let taken = g.W.Sink.taken in
    shown_under (g.F.Files.may_give c.args.files.now) c.view_under.result c.in_ok-named.named c.args.words.0.now c.args.words.1.now (taken c.args.out.now) (taken c.view_under.new.out) c.in_ok-named.ensures.table c.view_under.ensures.shows

pub returns-clause-err : goal.returns-clause-err
returns-clause-err g c =
    let may_give = g.F.Files.may_give c.args.files.now in
    let named = c.in_ok-named.named in
    ends_more (TellsNoScriptFor may_give named c.args.words.1.now) (TellsWord may_give c.args.words.0.now c.args.words.1.now) c.view_under.result (λ line told. inr (named, (c.in_ok-named.ensures.table, told))) c.view_under.ensures.err
