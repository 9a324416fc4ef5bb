use Rattle.std.proofs.Common.{arith}
use Rattle.std.proofs.lemmas.Grind.{common_steps}
use Rattle.std.proofs.Common.{◌≡◌, ◌+◌, get_or, ap, ◌∙◌}
use Rattle.kr_model.specs.declared.Event.{Event}
use Rattle.kr_model.specs.declared.Op.TheVariants as op
use Rattle.kr_model.specs.Step.{step}
use Rattle.kr_explain_text.specs.Steps.{step_row}
use Rattle.kr_explain_text.proofs.Schedule.{state_more, row_more, rows_all}
use Rattle.kr_explain_text.proofs.steps.lines_by.Goals as goal

pub loop-at-preserved : goal.loop-at-preserved
loop-at-preserved g c =
    let table = g.P.Protocol.table in
    let p = table c.args.machine.now.protocol.now in
    let names = g.P.Protocol.names c.args.protocol.now in
    let s = c.args.machine.now.state in
    let es = c.args.events.now in
    let txns = c.args.txns.now in
    let nothing : Event = record { txn = 0; op = op.Fetch 0 } in
    let now = c.loop-at.machine.state in
    let e = get_or es c.loop-at.at nothing in
    let same : table c.loop-at.machine.protocol.now ≡ p = ap (λ q. table q.now) c.loop-at.invariant.protocol in
    record {
      at_rest = c.in_ok-line.ensures.at_rest;
      protocol = c.in_ok-line.ensures.protocol ∙ c.loop-at.invariant.protocol;
      state = state_more p s es c.loop-at.at nothing now c.step_line.new.machine.state c.loop-at-test.true c.loop-at.invariant.state (c.in_ok-line.ensures.state ∙ ap (λ q. (step q now e.txn e.op).1) same);
      rows = row_more p names txns s es c.args.weak c.args.let_in c.loop-at.at nothing now c.mark-mark.result.now c.in_ok-line.line c.loop-at.lines.items _ c.loop-at-test.true c.loop-at.invariant.state c.mark-mark.ensures (c.in_ok-line.ensures.row ∙ ap (λ q. step_row q names txns c.mark-mark.result.now (c.loop-at.at + 1) now e) same) c.in_ok-push-2.ensures.items c.loop-at.invariant.rows;
    }

pub returns : goal.returns
returns g c = rows_all (g.P.Protocol.table c.args.machine.now.protocol.now) (g.P.Protocol.names c.args.protocol.now) c.args.txns.now c.args.machine.now.state c.args.events.now c.args.weak c.args.let_in c.loop-at.at _ c.loop-at-test.false c.loop-at.invariant.rows

pub loop-at-init : goal.loop-at-init
loop-at-init g c = grind (arith, common_steps)
