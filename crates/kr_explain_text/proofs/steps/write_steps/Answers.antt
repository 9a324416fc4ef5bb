use Rattle.std.proofs.Common.{◌+◌, List, ℕ, ap, ◌∙◌, length, string_bytes}
use Rattle.std.proofs.lemmas.Result.{on_ok_weaker}
use Rattle.kr_model.specs.State.{start}
use Rattle.kr_explain_text.specs.Steps.{rows_of, schedule_rows, txns_of}
use Rattle.kr_explain_text.proofs.Schedule.{written}
use Rattle.kr_explain_text.proofs.steps.write_steps.Goals as goal

pub returns : goal.returns
returns g c =
    let p = g.P.Protocol.table c.args.protocol.now in
    let names = g.P.Protocol.names c.args.protocol.now in
    let script = c.args.script.now in
    let txns_are = c.in_ok-txns.ensures ∙ ap txns_of c.as_slice.ensures.value in
    let columns_are = c.columns_of-columns.ensures ∙ ap (λ (ts : List ℕ). length ts + 4) c.as_slice-3.ensures.value in
    let rows_are = ap rows_of c.as_slice-4.ensures.value ∙ (c.in_ok-lines.ensures ∙ ap (λ (ts : List ℕ). schedule_rows p names ts (start script.opening.items) script.events.items script.weak script.let_in) c.as_slice-2.ensures.value) in
    on_ok_weaker c.write_rows.result (written p names script (string_bytes c.args.out.now) (string_bytes c.write_rows.new.out) c.in_ok-txns.txns.items c.columns_of-columns.result (rows_of c.as_slice-4.result.now) txns_are columns_are rows_are) c.write_rows.ensures
