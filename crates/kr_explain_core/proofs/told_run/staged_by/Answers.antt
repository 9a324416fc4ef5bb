use Rattle.std.proofs.Common.{◌≡◌, ◌<◌, ◌∙◌, Some, length, take, get_or, ap, sym, rules}
use Rattle.kr_explain_runs.specs.declared.counterexample.Counterexample.{Counterexample}
use Rattle.kr_explain_core.proofs.Trying.{among_first, run_found}
use Rattle.kr_explain_core.proofs.told_run.staged_by.Goals as goal

pub returns-in-Some-script : goal.returns-in-Some-script
returns-in-Some-script g c =
    let cases = c.args.cases.now in
    let at = c.loop-at.at in
    let f = c.in-Some.case.now in
    let item = c.in-Some.ensures.lookup in
    let below : c.loop-at.at < c.args.tried = search rules in
    let within : c.loop-at.at < length c.args.cases.now = search rules in
    let read : c.in-Some.case.now ≡ get_or c.args.cases.now c.loop-at.at c.in-Some.case.now = search rules in
    let found = c.in-Some-script.is ∙ ap (λ (s : Counterexample). Some s) (sym c.in-Some-script.script-is) in
    run_found (g.P.Protocol.table c.args.protocol.now) (take c.args.tried c.args.cases.now) f c.args.fit c.is_of_case.result c.in_ok-sought.sought.script _ c.run_of.result (among_first cases c.args.tried at f below within read) c.is_of_case.ensures found c.in_ok-sought.ensures.wrong c.in_ok-sought.ensures.marked c.run_of.ensures
