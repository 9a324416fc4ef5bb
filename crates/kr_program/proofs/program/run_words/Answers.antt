use Rattle.std.specs.Prelude.{◌≡◌, ◌⊎◌, ℕ, List, map, string_bytes}
use Rattle.std.specs.Io.KnownBytes.{Appends}
use Rattle.std.proofs.Common.{sym, ◌∙◌}
use Rattle.kr_sink.specs.Puts.{HasCause}
use Rattle.kr_cli.specs.declared.endings.Ending.TheVariants as ending
use Rattle.kr_cli.specs.Endings.{IsTold, ending_text}
use Rattle.kr_cli_tables.specs.View.{NameNoMemberTwice}
use Rattle.kr_program.specs.declared.commands.Command.{Command}
use Rattle.kr_program.specs.declared.commands.Command.TheVariants.{View}
use Rattle.kr_program.specs.declared.questions.Question.{Question}
use Rattle.kr_program.specs.Answers.{AskNothing, IsAskable, answer_of}
use Rattle.kr_program.specs.Commands.{word_of}
use Rattle.kr_program.specs.Manual.{usage_told}
use Rattle.kr_program.specs.Questions.{IsQuestion}
use Rattle.kr_program.proofs.Words.{as_command, in_front, trace_words}
use Rattle.kr_program.proofs.program.run_words.Goals as goal

pub returns-in-Some-clause-fault : goal.returns-in-Some-clause-fault
returns-in-Some-clause-fault g c two =
    let begin = in_front string_bytes c.args.words.now c.first-item.result (word_of c.in-Some.command) c.in-len1-up.len_at_least c.first-item.is (sym c.as_str.ensures.value ∙ c.in-Some.ensures.some) in
    trace_words _ c.in-Some.command (map string_bytes c.args.words.now) _ begin (c.run_command.ensures.fault two)

pub returns-in-Some-clause-silent : goal.returns-in-Some-clause-silent
returns-in-Some-clause-silent g c d behind are names =
    let begin = in_front string_bytes c.args.words.now c.first-item.result (word_of c.in-Some.command) c.in-len1-up.len_at_least c.first-item.is (sym c.as_str.ensures.value ∙ c.in-Some.ensures.some) in
    let P : Command → List (List ℕ) → Type 0 = λ x ws. x ≡ View → NameNoMemberTwice (g.F.Files.may_give c.args.files.now) ws in
    c.run_command.ensures.silent (as_command P d c.in-Some.command (map string_bytes c.args.words.now) behind _ are begin names)

pub returns-in-Some-clause-question : goal.returns-in-Some-clause-question
returns-in-Some-clause-question g c d behind q are =
    let begin = in_front string_bytes c.args.words.now c.first-item.result (word_of c.in-Some.command) c.in-len1-up.len_at_least c.first-item.is (sym c.as_str.ensures.value ∙ c.in-Some.ensures.some) in
    let taken = g.W.Sink.taken in
    let failures = g.W.Sink.failures in
    let P : Command → List (List ℕ) → Type 0 = λ x ws. IsAskable x → IsQuestion ws q
    → ((c.run_command.result ≡ 0) × Appends (taken c.args.out.now) (taken c.run_command.new.out) (answer_of x q)) ⊎ ((c.run_command.result ≡ 2) × HasCause (failures c.args.out.now) (failures c.run_command.new.out)) in
    as_command P c.in-Some.command d (map string_bytes c.args.words.now) _ behind begin are (c.run_command.ensures.question q)

pub returns-in-Some-clause-unknown : goal.returns-in-Some-clause-unknown
returns-in-Some-clause-unknown g c d behind are =
    let begin = in_front string_bytes c.args.words.now c.first-item.result (word_of c.in-Some.command) c.in-len1-up.len_at_least c.first-item.is (sym c.as_str.ensures.value ∙ c.in-Some.ensures.some) in
    let told = g.E.Sink.taken in
    let failures = g.E.Sink.failures in
    let P : Command → List (List ℕ) → Type 0 = λ x ws. AskNothing x ws
    → (c.run_command.result ≡ 2) × ((c.run_command.new.out ≡ c.args.out.now) × IsTold (told c.args.err.now) (told c.run_command.new.err) (failures c.args.err.now) (failures c.run_command.new.err) (ending_text (usage_told x) ending.NotUnderstood)) in
    as_command P c.in-Some.command d (map string_bytes c.args.words.now) _ behind begin are c.run_command.ensures.unknown
