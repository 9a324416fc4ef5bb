use Rattle.std.proofs.Common.{sym, subst}
use Rattle.std.proofs.lemmas.Result.{IfOk-weaker}
use Rattle.kr_model.specs.Serial.{AreSerial}
use Rattle.kr_kinds.proofs.Serial.{safe_runs_are_serial}
use Rattle.kr_stepping.specs.Ran.{IsIndexRan}
use Rattle.kr_stepping.proofs.EitherRuns.{is_lawful}
use Rattle.kr_stepping.proofs.runs.run_any.Goals as goal

pub returns-clause-safe_run : goal.returns-clause-safe_run
returns-clause-safe_run g c safe =
    let p = g.P.IndexProtocol.index c.args.protocol.now in
    let laws = is_lawful p _ _ (g.met.P.IndexProtocol.has_tables c.args.protocol.now) (g.met.P.Protocol.lawful c.args.protocol.now) (g.met.P.GhostProtocol.lawful_ghosts c.args.protocol.now) in
    let serial = safe_runs_are_serial p laws safe c.args.opening.now c.args.moves.now c.requires in
    IfOk-weaker c.run_by_kind.result (λ ran. IsIndexRan p c.args.opening.now c.args.moves.now ran) _ (λ ran is. serial) c.run_by_kind.ensures

pub returns-clause-safe : goal.returns-clause-safe
returns-clause-safe g c safe =
    let p = g.P.IndexProtocol.index c.args.protocol.now in
    let laws = is_lawful p _ _ (g.met.P.IndexProtocol.has_tables c.args.protocol.now) (g.met.P.Protocol.lawful c.args.protocol.now) (g.met.P.GhostProtocol.lawful_ghosts c.args.protocol.now) in
    let serial = safe_runs_are_serial p laws safe c.args.opening.now c.args.moves.now c.requires in
    IfOk-weaker c.run_by_kind.result (λ ran. IsIndexRan p c.args.opening.now c.args.moves.now ran) _ (λ ran is. subst (λ ps. AreSerial c.args.opening.now ps) (sym is.programs) serial.0) c.run_by_kind.ensures
