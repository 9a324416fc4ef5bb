use Rattle.std.specs.Prelude.{◌≡◌, map, string_bytes}
use Rattle.std.proofs.Common.{rules, subst}
use Rattle.kr_cli_trace.specs.Words.{IsAsked, words_of}
use Rattle.kr_cli_trace.specs.declared.words.Asked.{Asked}
use Rattle.kr_cli_trace.specs.declared.words.Asked.TheVariants.{Both, OnePart, Serial, SomeOrder}
use Rattle.kr_cli_trace.proofs.HeldLaws.{asked_answered, asked_explained, no_form}
use Rattle.kr_cli_trace.proofs.program.trace.Goals as goal

pub returns-in_err-asked-clause-err : goal.returns-in_err-asked-clause-err
returns-in_err-asked-clause-err g c =
    let now = g.W.Sink.taken c.args.out.now in
    let explained = no_form (g.F.Files.may_give c.args.files.now) (g.F.Traces.may_name c.args.files.now) (map string_bytes c.args.words.now) now now _ c.in_err-asked.ensures.err c.in_err-asked.ensures.form in
    search rules

pub returns-in-Both-clause-answers : goal.returns-in-Both-clause-answers
returns-in-Both-clause-answers g c =
    let taken = g.W.Sink.taken in
    let words = map string_bytes c.args.words.now in
    let Are : Asked → Type 0 = λ a. words ≡ words_of a in
    let Is : Asked → Type 0 = λ a. IsAsked a in
    let are = subst Are c.in-Both.is c.in_ok-asked.ensures.words in
    let asked = subst Is c.in-Both.is c.in_ok-asked.ensures.asked in
    asked_answered (g.F.Files.may_give c.args.files.now) (g.F.Traces.may_name c.args.files.now) words c.hold_against.result (Both c.in-Both.table c.in-Both.trace) (taken c.args.out.now) (taken c.hold_against.new.out) are asked c.hold_against.ensures.answers

pub returns-in-Both-clause-err : goal.returns-in-Both-clause-err
returns-in-Both-clause-err g c =
    let taken = g.W.Sink.taken in
    let words = map string_bytes c.args.words.now in
    let Are : Asked → Type 0 = λ a. words ≡ words_of a in
    let Is : Asked → Type 0 = λ a. IsAsked a in
    let are = subst Are c.in-Both.is c.in_ok-asked.ensures.words in
    let asked = subst Is c.in-Both.is c.in_ok-asked.ensures.asked in
    asked_explained (g.F.Files.may_give c.args.files.now) (g.F.Traces.may_name c.args.files.now) words c.hold_against.result (Both c.in-Both.table c.in-Both.trace) (taken c.args.out.now) (taken c.hold_against.new.out) are asked c.hold_against.ensures.err

pub returns-in-Both-clause-unknown : goal.returns-in-Both-clause-unknown
returns-in-Both-clause-unknown g c unknown = absurd (unknown c.in_ok-asked.asked c.in_ok-asked.ensures.asked c.in_ok-asked.ensures.words)

pub returns-in-OnePart-clause-answers : goal.returns-in-OnePart-clause-answers
returns-in-OnePart-clause-answers g c =
    let taken = g.W.Sink.taken in
    let words = map string_bytes c.args.words.now in
    let Are : Asked → Type 0 = λ a. words ≡ words_of a in
    let Is : Asked → Type 0 = λ a. IsAsked a in
    let are = subst Are c.in-OnePart.is c.in_ok-asked.ensures.words in
    let asked = subst Is c.in-OnePart.is c.in_ok-asked.ensures.asked in
    asked_answered (g.F.Files.may_give c.args.files.now) (g.F.Traces.may_name c.args.files.now) words c.print_part.result (OnePart c.in-OnePart.table c.in-OnePart.trace c.in-OnePart.number) (taken c.args.out.now) (taken c.print_part.new.out) are asked c.print_part.ensures.answers

pub returns-in-OnePart-clause-err : goal.returns-in-OnePart-clause-err
returns-in-OnePart-clause-err g c =
    let taken = g.W.Sink.taken in
    let words = map string_bytes c.args.words.now in
    let Are : Asked → Type 0 = λ a. words ≡ words_of a in
    let Is : Asked → Type 0 = λ a. IsAsked a in
    let are = subst Are c.in-OnePart.is c.in_ok-asked.ensures.words in
    let asked = subst Is c.in-OnePart.is c.in_ok-asked.ensures.asked in
    asked_explained (g.F.Files.may_give c.args.files.now) (g.F.Traces.may_name c.args.files.now) words c.print_part.result (OnePart c.in-OnePart.table c.in-OnePart.trace c.in-OnePart.number) (taken c.args.out.now) (taken c.print_part.new.out) are asked c.print_part.ensures.err

pub returns-in-OnePart-clause-unknown : goal.returns-in-OnePart-clause-unknown
returns-in-OnePart-clause-unknown g c unknown = absurd (unknown c.in_ok-asked.asked c.in_ok-asked.ensures.asked c.in_ok-asked.ensures.words)

pub returns-in-Serial-clause-answers : goal.returns-in-Serial-clause-answers
returns-in-Serial-clause-answers g c =
    let taken = g.W.Sink.taken in
    let words = map string_bytes c.args.words.now in
    let Are : Asked → Type 0 = λ a. words ≡ words_of a in
    let Is : Asked → Type 0 = λ a. IsAsked a in
    let are = subst Are c.in-Serial.is c.in_ok-asked.ensures.words in
    let asked = subst Is c.in-Serial.is c.in_ok-asked.ensures.asked in
    asked_answered (g.F.Files.may_give c.args.files.now) (g.F.Traces.may_name c.args.files.now) words c.read_all.result (Serial c.in-Serial.trace) (taken c.args.out.now) (taken c.read_all.new.out) are asked c.read_all.ensures.holds

pub returns-in-Serial-clause-err : goal.returns-in-Serial-clause-err
returns-in-Serial-clause-err g c =
    let taken = g.W.Sink.taken in
    let words = map string_bytes c.args.words.now in
    let Are : Asked → Type 0 = λ a. words ≡ words_of a in
    let Is : Asked → Type 0 = λ a. IsAsked a in
    let are = subst Are c.in-Serial.is c.in_ok-asked.ensures.words in
    let asked = subst Is c.in-Serial.is c.in_ok-asked.ensures.asked in
    asked_explained (g.F.Files.may_give c.args.files.now) (g.F.Traces.may_name c.args.files.now) words c.read_all.result (Serial c.in-Serial.trace) (taken c.args.out.now) (taken c.read_all.new.out) are asked c.read_all.ensures.err

pub returns-in-Serial-clause-unknown : goal.returns-in-Serial-clause-unknown
returns-in-Serial-clause-unknown g c unknown = absurd (unknown c.in_ok-asked.asked c.in_ok-asked.ensures.asked c.in_ok-asked.ensures.words)

pub returns-in-SomeOrder-clause-answers : goal.returns-in-SomeOrder-clause-answers
returns-in-SomeOrder-clause-answers g c =
    let taken = g.W.Sink.taken in
    let words = map string_bytes c.args.words.now in
    let Are : Asked → Type 0 = λ a. words ≡ words_of a in
    let Is : Asked → Type 0 = λ a. IsAsked a in
    let are = subst Are c.in-SomeOrder.is c.in_ok-asked.ensures.words in
    let asked = subst Is c.in-SomeOrder.is c.in_ok-asked.ensures.asked in
    asked_answered (g.F.Files.may_give c.args.files.now) (g.F.Traces.may_name c.args.files.now) words c.read_all-in-SomeOrder.result (SomeOrder c.in-SomeOrder.trace) (taken c.args.out.now) (taken c.read_all-in-SomeOrder.new.out) are asked c.read_all-in-SomeOrder.ensures.holds

pub returns-in-SomeOrder-clause-err : goal.returns-in-SomeOrder-clause-err
returns-in-SomeOrder-clause-err g c =
    let taken = g.W.Sink.taken in
    let words = map string_bytes c.args.words.now in
    let Are : Asked → Type 0 = λ a. words ≡ words_of a in
    let Is : Asked → Type 0 = λ a. IsAsked a in
    let are = subst Are c.in-SomeOrder.is c.in_ok-asked.ensures.words in
    let asked = subst Is c.in-SomeOrder.is c.in_ok-asked.ensures.asked in
    asked_explained (g.F.Files.may_give c.args.files.now) (g.F.Traces.may_name c.args.files.now) words c.read_all-in-SomeOrder.result (SomeOrder c.in-SomeOrder.trace) (taken c.args.out.now) (taken c.read_all-in-SomeOrder.new.out) are asked c.read_all-in-SomeOrder.ensures.err

pub returns-in-SomeOrder-clause-unknown : goal.returns-in-SomeOrder-clause-unknown
returns-in-SomeOrder-clause-unknown g c unknown = absurd (unknown c.in_ok-asked.asked c.in_ok-asked.ensures.asked c.in_ok-asked.ensures.words)
