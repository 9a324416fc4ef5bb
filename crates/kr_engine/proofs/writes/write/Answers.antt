use Rattle.std.proofs.Common.{arith}
use Rattle.std.proofs.lemmas.Grind.{common_steps}
use Rattle.std.proofs.Common.{sym, ◌∙◌}
use Rattle.kr_model.specs.Step.{step}
use Rattle.kr_records.proofs.Ended.{ended_stays, ends_stay, nobody_ended}
use Rattle.kr_engine.proofs.writes.write.Goals as goal

pub returns-clause-ends : goal.returns-clause-ends
returns-clause-ends g c =
    let p = g.P.Protocol.table c.args.machine.now.protocol in
    let old = c.args.machine.now in
    let new = c.write_step.new.machine in
    let after = step p old.state c.args.txn c.args.op in
    ends_stay old.state new.state c.args.numbers.now
    (nobody_ended (λ m. m.state) c.write_step.result old new after.1 c.write_step.ensures.state c.write_step.ensures.err (ended_stays p old.state c.args.txn c.args.op (sym c.is_end.ensures ∙ c.if-is_end.false)))
    c.requires.ends

pub returns-then-kept-left-clause-only_full : goal.returns-then-kept-left-clause-only_full
returns-then-kept-left-clause-only_full g c = grind (arith, common_steps)
