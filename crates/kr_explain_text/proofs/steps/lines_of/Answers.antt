use Rattle.std.proofs.Common.{◌≡◌, ap, ◌∙◌}
use Rattle.std.proofs.lemmas.Result.{IfOk-weaker}
use Rattle.kr_model.specs.State.{start}
use Rattle.kr_explain_text.specs.Steps.{rows_of, schedule_rows}
use Rattle.kr_explain_text.proofs.Schedule.{from_start}
use Rattle.kr_explain_text.proofs.steps.lines_of.Goals as goal

pub returns : goal.returns
returns g c =
    let table = g.P.Protocol.table in
    let p = table c.args.protocol.now in
    let names = g.P.Protocol.names c.args.protocol.now in
    let txns = c.args.txns.now in
    let script = c.args.script.now in
    let machine = c.new-machine.result in
    let q = table machine.protocol.now in
    let events = c.as_slice-events.result.now in
    let same = ap (λ m. table m.protocol.now) c.new-machine.ensures in
    let begun = ap (λ m. m.state) c.new-machine.ensures ∙ ap start (c.in_ok-index.ensures.map ∙ c.as_slice.ensures.value) in
    IfOk-weaker c.lines_by.result (λ lines. rows_of lines.items ≡ schedule_rows q names txns machine.state events script.weak script.let_in) (λ lines. rows_of lines.items ≡ schedule_rows p names txns (start script.opening.items) script.events.items script.weak script.let_in)
    (λ lines are. from_start p q names txns machine.state script.opening.items events script.events.items script.weak script.let_in (rows_of lines.items) same begun c.as_slice-events.ensures.value are)
    c.lines_by.ensures
