use Rattle.std.specs.Prelude.{◌≡◌, Some, None}
use Rattle.std.proofs.Common.{rules}
use Rattle.kr_trace_follow.specs.Lines.{Line}
use Rattle.kr_trace_parts.specs.Tales.{noted, program_committed}
use Rattle.kr_trace_parts.proofs.KeptLaws.{kept_more, none_more_kept, one_more_kept}
use Rattle.kr_trace_parts.proofs.orders.KeptPart.step.Goals as goal

pub returns-in_ok-push-clause-step : goal.returns-in_ok-push-clause-step
returns-in_ok-push-clause-step c n s h =
    let line : Line = record { number = c.args.number; event = c.args.event; observed = c.args.observed } in
    let program : Some c.in-Some.program.items ≡ program_committed (noted c.args.self.now.tales c.args.event.txn) c.args.observed = rw c.in-Some.is at c.in_ok-program.ensures.program in
    kept_more s c.args.self.now.opening c.args.self.now.tales c.note.new.tales c.args.self.now.committed.items c.push.new.self.items c.args.self.now.order line (Some c.in-Some.program.items)
    h c.in_ok-program.ensures.told program (one_more_kept c.args.self.now.committed.items c.push.new.self.items (record { txn = c.args.event.txn; program = c.in-Some.program }) c.in_ok-push.ensures.items)

pub returns-in_default-clause-step : goal.returns-in_default-clause-step
returns-in_default-clause-step c n s h =
    let line : Line = record { number = c.args.number; event = c.args.event; observed = c.args.observed } in
    let program : None ≡ program_committed (noted c.args.self.now.tales c.args.event.txn) c.args.observed = search rules in
    kept_more s c.args.self.now.opening c.args.self.now.tales c.note.new.tales c.args.self.now.committed.items c.args.self.now.committed.items c.args.self.now.order line None
    h c.in_ok-program.ensures.told program (none_more_kept c.args.self.now.committed.items c.args.event.txn)
