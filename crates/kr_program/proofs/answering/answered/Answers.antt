use Rattle.std.specs.Prelude.{map, string_bytes}
use Rattle.kr_program.proofs.Answered.{asked_nothing, may_warn, nothing_as, unasked, unknown_kept, unknown_untouched, wrote_check, wrote_run, wrote_judge, wrote_threads, wrote_explain}
use Rattle.kr_program.specs.declared.commands.Command.TheVariants.{Check, Run, Judge, Threads, Explain, View, Trace, Suite, Relax, Help, Version}
use Rattle.kr_program.proofs.answering.answered.Goals as goal

pub returns-in-Check-clause-writes : goal.returns-in-Check-clause-writes
returns-in-Check-clause-writes g c =
    wrote_check (g.F.Files.may_give c.args.files.now) (g.F.Traces.may_name c.args.files.now) c.args.command (map string_bytes c.args.words.0.now) (map string_bytes c.args.words.1.now) (g.W.Sink.taken c.args.out.now) (g.W.Sink.taken c.task.new.out) c.task.result c.requires.begins c.in-Check.is c.task.ensures.answers

pub returns-in-Run-clause-writes : goal.returns-in-Run-clause-writes
returns-in-Run-clause-writes g c =
    wrote_run (g.F.Files.may_give c.args.files.now) (g.F.Traces.may_name c.args.files.now) c.args.command (map string_bytes c.args.words.0.now) (map string_bytes c.args.words.1.now) (g.W.Sink.taken c.args.out.now) (g.W.Sink.taken c.task-in-Run.new.out) c.task-in-Run.result c.requires.begins c.in-Run.is c.task-in-Run.ensures.answers

pub returns-in-Judge-clause-writes : goal.returns-in-Judge-clause-writes
returns-in-Judge-clause-writes g c =
    wrote_judge (g.F.Files.may_give c.args.files.now) (g.F.Traces.may_name c.args.files.now) c.args.command (map string_bytes c.args.words.0.now) (map string_bytes c.args.words.1.now) (g.W.Sink.taken c.args.out.now) (g.W.Sink.taken c.task-in-Judge.new.out) c.task-in-Judge.result c.requires.begins c.in-Judge.is c.task-in-Judge.ensures.answers

pub returns-in-Threads-clause-writes : goal.returns-in-Threads-clause-writes
returns-in-Threads-clause-writes g c =
    wrote_threads (g.F.Files.may_give c.args.files.now) (g.F.Traces.may_name c.args.files.now) c.args.command (map string_bytes c.args.words.0.now) (map string_bytes c.args.words.1.now) (g.W.Sink.taken c.args.out.now) (g.W.Sink.taken c.task-in-Threads.new.out) c.task-in-Threads.result c.requires.begins c.in-Threads.is c.task-in-Threads.ensures.answers

pub returns-in-Explain-clause-writes : goal.returns-in-Explain-clause-writes
returns-in-Explain-clause-writes g c =
    wrote_explain (g.F.Files.may_give c.args.files.now) (g.F.Traces.may_name c.args.files.now) c.args.command (map string_bytes c.args.words.1.now) (g.W.Sink.taken c.args.out.now) (g.W.Sink.taken c.explain.new.out) c.explain.result c.in-Explain.is c.explain.ensures.answers

pub returns-in-View-clause-unasked : goal.returns-in-View-clause-unasked
returns-in-View-clause-unasked g c = unasked c.args.command (map string_bytes c.args.words.1.now) c.view.result c.in_default.ensures.none

pub returns-in-View-clause-unhelped : goal.returns-in-View-clause-unhelped
returns-in-View-clause-unhelped g c = may_warn c.args.command _ c.view.result c.in-View.is

pub returns-in-Explain-clause-unknown : goal.returns-in-Explain-clause-unknown
returns-in-Explain-clause-unknown g c nothing = unknown_kept c.explain.result _ c.args.help.now c.explain.new.help (c.explain.ensures.unknown (nothing_as c.args.command Explain (map string_bytes c.args.words.1.now) c.in-Explain.is nothing).1)

pub returns-in-View-clause-unknown : goal.returns-in-View-clause-unknown
returns-in-View-clause-unknown g c nothing = unknown_kept c.view.result _ c.args.help.now c.view.new.help (c.view.ensures.unknown (nothing_as c.args.command View (map string_bytes c.args.words.1.now) c.in-View.is nothing).1)

pub returns-in-Trace-clause-unknown : goal.returns-in-Trace-clause-unknown
returns-in-Trace-clause-unknown g c nothing = unknown_kept c.trace.result _ c.args.help.now c.trace.new.help (c.trace.ensures.unknown (nothing_as c.args.command Trace (map string_bytes c.args.words.1.now) c.in-Trace.is nothing).1)

pub returns-in-Suite-clause-unknown : goal.returns-in-Suite-clause-unknown
returns-in-Suite-clause-unknown g c nothing = unknown_kept c.suite.result _ c.args.help.now c.suite.new.help (c.suite.ensures.unknown (nothing_as c.args.command Suite (map string_bytes c.args.words.1.now) c.in-Suite.is nothing).1)

pub returns-in-Relax-clause-unknown : goal.returns-in-Relax-clause-unknown
returns-in-Relax-clause-unknown g c nothing = unknown_kept c.relax.result _ c.args.help.now c.relax.new.help (c.relax.ensures.unknown (nothing_as c.args.command Relax (map string_bytes c.args.words.1.now) c.in-Relax.is nothing).1)

pub returns-in-Help-clause-unknown : goal.returns-in-Help-clause-unknown
returns-in-Help-clause-unknown g c nothing = unknown_untouched c.help_on.result _ c.args.help.now (c.help_on.ensures.unknown (nothing_as c.args.command Help (map string_bytes c.args.words.1.now) c.in-Help.is nothing))

pub returns-in-Version-clause-unknown : goal.returns-in-Version-clause-unknown
returns-in-Version-clause-unknown g c nothing = unknown_untouched c.version.result _ c.args.help.now (c.version.ensures.unknown (nothing_as c.args.command Version (map string_bytes c.args.words.1.now) c.in-Version.is nothing))

pub returns-in-Check-clause-unknown : goal.returns-in-Check-clause-unknown
returns-in-Check-clause-unknown g c nothing = absurd (nothing_as c.args.command Check (map string_bytes c.args.words.1.now) c.in-Check.is nothing)

pub returns-in-Run-clause-unknown : goal.returns-in-Run-clause-unknown
returns-in-Run-clause-unknown g c nothing = absurd (nothing_as c.args.command Run (map string_bytes c.args.words.1.now) c.in-Run.is nothing)

pub returns-in-Judge-clause-unknown : goal.returns-in-Judge-clause-unknown
returns-in-Judge-clause-unknown g c nothing = absurd (nothing_as c.args.command Judge (map string_bytes c.args.words.1.now) c.in-Judge.is nothing)

pub returns-in-Threads-clause-unknown : goal.returns-in-Threads-clause-unknown
returns-in-Threads-clause-unknown g c nothing = absurd (nothing_as c.args.command Threads (map string_bytes c.args.words.1.now) c.in-Threads.is nothing)

pub returns-in-Check-clause-question : goal.returns-in-Check-clause-question
returns-in-Check-clause-question g c q askable asks = absurd (c.in_default.ensures.none askable q asks)

pub returns-in-Run-clause-question : goal.returns-in-Run-clause-question
returns-in-Run-clause-question g c q askable asks = absurd (c.in_default.ensures.none askable q asks)

pub returns-in-Judge-clause-question : goal.returns-in-Judge-clause-question
returns-in-Judge-clause-question g c q askable asks = absurd (c.in_default.ensures.none askable q asks)

pub returns-in-Threads-clause-question : goal.returns-in-Threads-clause-question
returns-in-Threads-clause-question g c q askable asks = absurd (c.in_default.ensures.none askable q asks)

pub returns-in-Explain-clause-question : goal.returns-in-Explain-clause-question
returns-in-Explain-clause-question g c q askable asks = absurd (c.in_default.ensures.none askable q asks)

pub returns-in-View-clause-question : goal.returns-in-View-clause-question
returns-in-View-clause-question g c q askable asks = absurd (c.in_default.ensures.none askable q asks)

pub returns-in-Trace-clause-question : goal.returns-in-Trace-clause-question
returns-in-Trace-clause-question g c q askable asks = absurd (c.in_default.ensures.none askable q asks)

pub returns-in-Suite-clause-question : goal.returns-in-Suite-clause-question
returns-in-Suite-clause-question g c q askable asks = absurd (c.in_default.ensures.none askable q asks)

pub returns-in-Relax-clause-question : goal.returns-in-Relax-clause-question
returns-in-Relax-clause-question g c q askable asks = absurd (c.in_default.ensures.none askable q asks)

pub returns-in-Help-clause-question : goal.returns-in-Help-clause-question
returns-in-Help-clause-question g c q askable asks = absurd (c.in_default.ensures.none askable q asks)

pub returns-in-Version-clause-question : goal.returns-in-Version-clause-question
returns-in-Version-clause-question g c q askable asks = absurd (c.in_default.ensures.none askable q asks)
