use Rattle.std.specs.Prelude.{◌≡◌, map, string_bytes}
use Rattle.std.proofs.Common.{rules, subst}
use Rattle.kr_cli_tables.specs.ViewWords.{IsAsked, words_of}
use Rattle.kr_cli_tables.specs.declared.pages.words.Asked.{Asked}
use Rattle.kr_cli_tables.specs.declared.pages.words.Asked.TheVariants.{Table, Run}
use Rattle.kr_cli_tables.proofs.ViewShown.{asked_shown, asked_ends, no_form, unhelped}
use Rattle.kr_cli_tables.proofs.pages.view.Goals as goal

pub returns-in_err-asked-clause-err : goal.returns-in_err-asked-clause-err
returns-in_err-asked-clause-err g c =
    let explained = no_form (g.F.Files.may_give c.args.files.now) (map string_bytes c.args.words.now) _ c.in_err-asked.ensures.err c.in_err-asked.ensures.form in
    search rules

pub returns-in-Table-clause-shows : goal.returns-in-Table-clause-shows
returns-in-Table-clause-shows g c =
    let may_give = g.F.Files.may_give c.args.files.now in
    let taken = g.W.Sink.taken in
    let words = map string_bytes c.args.words.now in
    let Are : Asked → Type 0 = λ a. words ≡ words_of a in
    let Is : Asked → Type 0 = λ a. IsAsked a in
    let are = subst Are c.in-Table.is c.in_ok-asked.ensures.words in
    let asked = subst Is c.in-Table.is c.in_ok-asked.ensures.asked in
    asked_shown may_give words c.view_table.result (Table c.in-Table.table) (taken c.args.out.now) (taken c.view_table.new.out) are asked c.view_table.ensures.shows

pub returns-in-Table-clause-err : goal.returns-in-Table-clause-err
returns-in-Table-clause-err g c =
    let may_give = g.F.Files.may_give c.args.files.now in
    let taken = g.W.Sink.taken in
    let words = map string_bytes c.args.words.now in
    let Are : Asked → Type 0 = λ a. words ≡ words_of a in
    let Is : Asked → Type 0 = λ a. IsAsked a in
    let are = subst Are c.in-Table.is c.in_ok-asked.ensures.words in
    let asked = subst Is c.in-Table.is c.in_ok-asked.ensures.asked in
    asked_ends may_give words c.view_table.result (Table c.in-Table.table) are asked c.view_table.ensures.err

pub returns-in-Table-clause-unknown : goal.returns-in-Table-clause-unknown
returns-in-Table-clause-unknown g c unknown = absurd (unknown c.in_ok-asked.asked c.in_ok-asked.ensures.asked c.in_ok-asked.ensures.words)

pub returns-in-Table-clause-unwarned : goal.returns-in-Table-clause-unwarned
returns-in-Table-clause-unwarned g c single =
    unhelped c.view_table.result c.args.help.now c.view_table.new.help c.view_table.ensures.unhelped

pub returns-in-Run-clause-shows : goal.returns-in-Run-clause-shows
returns-in-Run-clause-shows g c =
    let may_give = g.F.Files.may_give c.args.files.now in
    let taken = g.W.Sink.taken in
    let words = map string_bytes c.args.words.now in
    let Are : Asked → Type 0 = λ a. words ≡ words_of a in
    let Is : Asked → Type 0 = λ a. IsAsked a in
    let are = subst Are c.in-Run.is c.in_ok-asked.ensures.words in
    let asked = subst Is c.in-Run.is c.in_ok-asked.ensures.asked in
    asked_shown may_give words c.view_run.result (Run c.in-Run.table c.in-Run.script) (taken c.args.out.now) (taken c.view_run.new.out) are asked c.view_run.ensures.shows

pub returns-in-Run-clause-err : goal.returns-in-Run-clause-err
returns-in-Run-clause-err g c =
    let may_give = g.F.Files.may_give c.args.files.now in
    let taken = g.W.Sink.taken in
    let words = map string_bytes c.args.words.now in
    let Are : Asked → Type 0 = λ a. words ≡ words_of a in
    let Is : Asked → Type 0 = λ a. IsAsked a in
    let are = subst Are c.in-Run.is c.in_ok-asked.ensures.words in
    let asked = subst Is c.in-Run.is c.in_ok-asked.ensures.asked in
    asked_ends may_give words c.view_run.result (Run c.in-Run.table c.in-Run.script) are asked c.view_run.ensures.err

pub returns-in-Run-clause-unknown : goal.returns-in-Run-clause-unknown
returns-in-Run-clause-unknown g c unknown = absurd (unknown c.in_ok-asked.asked c.in_ok-asked.ensures.asked c.in_ok-asked.ensures.words)

pub returns-in-Run-clause-unwarned : goal.returns-in-Run-clause-unwarned
returns-in-Run-clause-unwarned g c single =
    let Are : Asked → Type 0 = λ a. map string_bytes c.args.words.now ≡ words_of a in
    c.view_run.ensures.unwarned (single c.in-Run.table.now c.in-Run.script.now (subst Are c.in-Run.is c.in_ok-asked.ensures.words))
