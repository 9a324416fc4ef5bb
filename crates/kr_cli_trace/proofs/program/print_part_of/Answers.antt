use Rattle.std.proofs.Common.{ℕ, ◌≤◌, IfOk, IfErr, sym, subst}
use Rattle.kr_cli.specs.declared.named.Named.{Named}
use Rattle.kr_trace_parts.specs.Endings.{StopsSo}
use Rattle.kr_cli_trace.specs.Ghosts.{part_of}
use Rattle.kr_cli_trace.specs.Printed.{IsPrinted}
use Rattle.kr_cli_trace.specs.Program.{Holds, TellsOnePart}
use Rattle.kr_cli_trace.proofs.program.print_part_of.Goals as goal

pub returns-in-Table-clause-holds : goal.returns-in-Table-clause-holds
returns-in-Table-clause-holds g c =
    let may_name = g.F.Traces.may_name c.args.files.now in
    let taken = g.W.Sink.taken in
    subst (λ (t : Named). IfOk c.read_one.result (λ well. (parts : ℕ) × ((c.args.number ≤ parts) × Holds (IsPrinted (part_of t c.args.number)) may_name c.args.trace.now (taken c.args.out.now) (taken c.read_one.new.out) parts well)))
    (sym c.in-Table.is) c.read_one.ensures.holds

pub returns-in-Table-clause-err : goal.returns-in-Table-clause-err
returns-in-Table-clause-err g c =
    let may_name = g.F.Traces.may_name c.args.files.now in
    let taken = g.W.Sink.taken in
    subst (λ (t : Named). IfErr c.read_one.result (StopsSo (TellsOnePart (IsPrinted (part_of t c.args.number)) may_name c.args.trace.now c.args.number (taken c.args.out.now) (taken c.read_one.new.out))))
    (sym c.in-Table.is) c.read_one.ensures.err
