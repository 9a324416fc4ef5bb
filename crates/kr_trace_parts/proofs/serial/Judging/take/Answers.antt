use Rattle.std.specs.Prelude.{◌≡◌, Some, None}
use Rattle.std.proofs.Common.{ap, ◌∙◌, rules}
use Rattle.kr_trace_follow.specs.Lines.{Line}
use Rattle.kr_trace_parts.specs.Committed.{or_later}
use Rattle.kr_trace_parts.specs.Tales.{noted, program_committed}
use Rattle.kr_trace_parts.proofs.JudgedLaws.{judged_more, still_judged}
use Rattle.kr_trace_parts.proofs.serial.Judging.take.Goals as goal

pub returns-in_ok-found : goal.returns-in_ok-found
returns-in_ok-found c opening steps n h =
    let line : Line = record { number = n; event = c.args.event; observed = c.args.observed } in
    let program : Some c.in-Some.program.items ≡ program_committed (noted c.args.self.now.tales c.args.event.txn) c.args.observed = rw c.in-Some.is at c.in_ok-program.ensures.program in
    judged_more opening steps c.args.self.now.tales c.note.new.tales c.args.self.now.judge.map c.args.self.now.found line h
    c.in_ok-program.ensures.told c.in-Some.program.items c.judge_program.new.judge.map c.in_ok-found.found c.or_later.result program
    c.in_ok-found.ensures.found (ap (λ j. j.map) c.in_ok-found.ensures.left) (c.or_later.ensures ∙ ap (λ o. or_later o c.in_ok-found.found) c.take.ensures.value)

pub returns-in_default : goal.returns-in_default
returns-in_default c opening steps n h =
    let line : Line = record { number = n; event = c.args.event; observed = c.args.observed } in
    let none : None ≡ program_committed (noted c.args.self.now.tales c.args.event.txn) c.args.observed = search rules in
    still_judged opening steps c.args.self.now.tales c.note.new.tales c.args.self.now.judge.map c.args.self.now.found line h c.in_ok-program.ensures.told none
