use Rattle.std.specs.Prelude.{◌≤◌, ℕ, Bool, refl}
use Rattle.std.proofs.Common.{inl, inr, rules}
use Rattle.kr_cli.specs.NamedTables.{TellsNone}
use Rattle.kr_cli.specs.declared.named.Named.{Named}
use Rattle.kr_cli_trace.specs.Ghosts.{part_of}
use Rattle.kr_cli_trace.specs.Printed.{IsPrinted}
use Rattle.kr_cli_trace.specs.Program.{Holds, Tells, TellsOnePart}
use Rattle.kr_cli_trace.specs.declared.words.Asked.TheVariants.{OnePart}
use Rattle.kr_cli_trace.proofs.GhostLaws.{named_held}
use Rattle.kr_trace_parts.proofs.Stopping.{word_stops}
use Rattle.kr_cli_trace.proofs.HeldLaws.{if_err_more}
use Rattle.kr_cli_trace.proofs.program.print_part.Goals as goal

pub returns-in_err-table-clause-err : goal.returns-in_err-table-clause-err
returns-in_err-table-clause-err g c =
    let may_give = g.F.Files.may_give c.args.files.now in
    let may_name = g.F.Traces.may_name c.args.files.now in
    let now = g.W.Sink.taken c.args.out.now in
    let ends = word_stops (TellsNone may_give c.args.words.0.now) (Tells may_give may_name (OnePart c.args.words.0 c.args.words.1 c.args.number) now now) _ (λ line told. inl (told, refl)) c.in_err-table.ensures.fault in
    search rules

pub returns-clause-answers : goal.returns-clause-answers
returns-clause-answers g c =
    let may_name = g.F.Traces.may_name c.args.files.now in
    let taken = g.W.Sink.taken in
    let Held : Named → Bool → Type 0 =
    λ u well. (parts : ℕ) × ((c.args.number ≤ parts) × Holds (IsPrinted (part_of u c.args.number)) may_name c.args.words.1.now (taken c.args.out.now) (taken c.print_part_of.new.out) parts well) in
    named_held (g.F.Files.may_give c.args.files.now) c.args.words.0.now c.in_ok-table.table Held c.print_part_of.result c.in_ok-table.ensures.table c.print_part_of.ensures.holds

pub returns-clause-err : goal.returns-clause-err
returns-clause-err g c =
    let may_give = g.F.Files.may_give c.args.files.now in
    let may_name = g.F.Traces.may_name c.args.files.now in
    let taken = g.W.Sink.taken in
    let t = c.in_ok-table.table in
    if_err_more c.print_part_of.result (TellsOnePart (IsPrinted (part_of t c.args.number)) may_name c.args.words.1.now c.args.number (taken c.args.out.now) (taken c.print_part_of.new.out))
    (Tells may_give may_name (OnePart c.args.words.0 c.args.words.1 c.args.number) (taken c.args.out.now) (taken c.print_part_of.new.out))
    (λ line told. inr (t, (c.in_ok-table.ensures.table, told))) c.print_part_of.ensures.err
