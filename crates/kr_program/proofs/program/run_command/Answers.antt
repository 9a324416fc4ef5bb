use Rattle.std.specs.Prelude.{◌≡◌, ◌≢◌, ◌++◌, ℕ, List, [], Bool, Result, Ok, Err, IfErr, OnOk, map, string_bytes}
use Rattle.std.proofs.Common.{ap, subst, sym, ◌∙◌}
use Rattle.kr_cli.specs.declared.endings.Ending.{Ending}
use Rattle.kr_cli.specs.Endings.{IsTold, ending_text}
use Rattle.kr_cli_diagnosis.specs.Finding.{AreLines}
use Rattle.kr_cli_diagnosis.proofs.Helped.{all_lines}
use Rattle.kr_cli_tables.specs.View.{NameNoMemberTwice}
use Rattle.kr_program.specs.declared.commands.Command.TheVariants.{View}
use Rattle.kr_program.specs.Answers.{IsTask, stream}
use Rattle.kr_program.specs.Commands.{word_of}
use Rattle.kr_program.specs.Manual.{usage_told}
use Rattle.kr_program.proofs.Answered.{command_answers, fault_or_trace, question_status, shown_nothing, shown_nothing_where, silent_or_two, unknown_status}
use Rattle.kr_program.proofs.Words.{view_or_not}
use Rattle.kr_program.proofs.program.run_command.Goals as goal

pub returns-clause-answers : goal.returns-clause-answers
returns-clause-answers g c =
    let taken = g.W.Sink.taken in
    let told = g.E.Sink.taken in
    let may_give = g.F.Files.may_give c.args.files.now in
    let may_name = g.F.Traces.may_name c.args.files.now in
    let rest = map string_bytes c.args.words.1.now in
    let o = stream (taken c.args.out.now) (taken c.answered-done.new.out) (g.W.Sink.failures c.args.out.now) (g.W.Sink.failures c.answered-done.new.out) in
    let e = stream (told c.args.err.now) (told c.finish.new.err) (g.E.Sink.failures c.args.err.now) (g.E.Sink.failures c.finish.new.err) in
    let r = c.answered-done.result in
    let shown = c.as_str.result.now in
    let P : List ℕ → Type 0 = λ bytes. AreLines bytes in
    let lines = subst P (sym c.as_str.ensures.value) (all_lines _ (string_bytes c.answered-done.new.help) c.new-help.ensures.bytes c.answered-done.ensures.help) in
    let Q : List ℕ → Type 0 = λ usage. IfErr r (λ x. IsTold e.old e.new e.before e.after (ending_text usage x ++ shown)) in
    command_answers may_give may_name c.args.command (map string_bytes c.args.words.0.now) rest o e c.finish.result r shown (c.answered-done.new.out ≡ c.args.out.now) (c.finish.new.err ≡ c.args.err.now)
    (λ same. ap taken same) (λ same. ap told same) c.requires.begins c.finish.ensures.within c.finish.ensures.well c.finish.ensures.not_well
    c.answered-done.ensures.writes c.answered-done.ensures.ends c.answered-done.ensures.unasked c.answered-done.ensures.nothing c.answered-done.ensures.cause
    (shown_nothing _ (string_bytes c.new-help.result) (string_bytes c.answered-done.new.help) shown r c.new-help.ensures.bytes c.as_str.ensures.value c.answered-done.ensures.unhelped)
    (λ single. shown_nothing_where (string_bytes c.new-help.result) (string_bytes c.answered-done.new.help) shown r c.new-help.ensures.bytes c.as_str.ensures.value (c.answered-done.ensures.unwarned single))
    lines (λ task. c.as_str.ensures.value ∙ (c.answered-done.ensures.alone task ∙ c.new-help.ensures.bytes))
    (subst Q c.usage_told.ensures c.finish.ensures.told) c.finish.ensures.warned c.finish.ensures.silent

pub returns-clause-fault : goal.returns-clause-fault
returns-clause-fault g c two =
    fault_or_trace c.args.command _ _ c.finish.result c.answered-done.result _ c.finish.ensures.well c.finish.ensures.not_well c.answered-done.ensures.nothing c.answered-done.ensures.cause two

pub returns-clause-silent : goal.returns-clause-silent
returns-clause-silent g c names =
    let r = c.answered-done.result in
    let shown = c.as_str.result.now in
    silent_or_two c.args.command (NameNoMemberTwice (g.F.Files.may_give c.args.files.now) (map string_bytes c.args.words.1.now)) c.finish.result r shown _ c.finish.ensures.within c.finish.ensures.well c.finish.ensures.not_well
    (shown_nothing _ (string_bytes c.new-help.result) (string_bytes c.answered-done.new.help) shown r c.new-help.ensures.bytes c.as_str.ensures.value c.answered-done.ensures.unhelped)
    (λ single. shown_nothing_where (string_bytes c.new-help.result) (string_bytes c.answered-done.new.help) shown r c.new-help.ensures.bytes c.as_str.ensures.value (c.answered-done.ensures.unwarned single))
    c.finish.ensures.silent (view_or_not c.args.command) names

pub returns-clause-question : goal.returns-clause-question
returns-clause-question g c q askable asks = question_status c.finish.result c.answered-done.result _ _ c.finish.ensures.within c.finish.ensures.well c.finish.ensures.not_well (c.answered-done.ensures.question q askable asks)

pub returns-clause-unknown : goal.returns-clause-unknown
returns-clause-unknown g c nothing =
    let told = g.E.Sink.taken in
    let r = c.answered-done.result in
    let shown = c.as_str.result.now in
    let Told : List ℕ → Type 0 = λ text. IsTold (told c.args.err.now) (told c.finish.new.err) (g.E.Sink.failures c.args.err.now) (g.E.Sink.failures c.finish.new.err) text in
    let Q : List ℕ → Type 0 = λ usage. IfErr r (λ x. Told (ending_text usage x ++ shown)) in
    unknown_status c.finish.result r _ (usage_told c.args.command) shown (string_bytes c.new-help.result) (string_bytes c.answered-done.new.help) Told c.finish.ensures.within c.finish.ensures.well c.finish.ensures.not_well
    c.new-help.ensures.bytes c.as_str.ensures.value (subst Q c.usage_told.ensures c.finish.ensures.told) (c.answered-done.ensures.unknown nothing)
