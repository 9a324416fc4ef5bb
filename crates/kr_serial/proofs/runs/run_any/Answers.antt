use Rattle.kr_model.specs.State.{start}
use Rattle.kr_model.specs.Run as model
use Rattle.kr_theorem.proofs.run.Runs.{safe_runs_are_serial}
use Rattle.kr_theorem.proofs.safe.AllCases.{covered_is_safe}
use Rattle.kr_judge.proofs.SafeRuns.{safe_programs}
use Rattle.kr_serial.proofs.SerialRuns.{ran_under, on_ok, shows_serial}
use Rattle.kr_serial.proofs.runs.run_any.Goals as goal

pub returns-clause-ran : goal.returns-clause-ran
returns-clause-ran g c =
    let shown = c.replayed.ensures in
    ran_under (g.P.Protocol.table c.args.protocol.now) c.args.opening.now c.args.events.now c.replayed.result
    shown.opening shown.replies shown.index shown.locks shown.programs shown.modes shown.unfinished

pub returns-clause-safe : goal.returns-clause-safe
returns-clause-safe g c safe =
    let p = g.P.Protocol.table c.args.protocol.now in
    let r = model.run p (start c.args.opening.now) c.args.events.now in
    let serial = safe_programs p (g.met.P.Protocol.lawful c.args.protocol.now) safe c.args.opening.now c.args.events.now c.requires in
    shows_serial c.replayed.result c.args.opening.now (model.programs r.history) serial c.replayed.ensures.opening c.replayed.ensures.programs

pub returns-clause-safe_run : goal.returns-clause-safe_run
returns-clause-safe_run g c safe =
    on_ok c.replayed.result (safe_runs_are_serial (g.P.Protocol.table c.args.protocol.now) (g.met.P.Protocol.lawful c.args.protocol.now) safe c.args.opening.now c.args.events.now c.requires)

pub returns-clause-covered : goal.returns-clause-covered
returns-clause-covered g c covered =
    let p = g.P.Protocol.table c.args.protocol.now in
    returns-clause-safe g c (covered_is_safe p (g.met.P.Protocol.lawful c.args.protocol.now) covered)

pub returns-clause-covered_run : goal.returns-clause-covered_run
returns-clause-covered_run g c covered =
    let p = g.P.Protocol.table c.args.protocol.now in
    returns-clause-safe_run g c (covered_is_safe p (g.met.P.Protocol.lawful c.args.protocol.now) covered)
