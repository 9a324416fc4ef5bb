use Rattle.std.proofs.Common.{refl}
use Rattle.kr_explain_runs.proofs.Marking.{moment_of}
use Rattle.kr_explain_runs.proofs.moment.moment_at.Goals as goal

-- the run of the steps before it, and the locks that it leaves
pub returns : goal.returns
returns g c =
    let found = c.in-Some.ensures.lookup in
    record {
      at = refl;
      moment = moment_of (g.P.Protocol.table c.args.protocol.now) c.args.script.now _ c.in-Some.event.now c.in_ok-ran.ran _ _ _ c.as_slice-opening.ensures.value c.as_slice-events.ensures.value c.as_slice.ensures.pairs found.3.0 found.1 c.in_ok-ran.ensures.ran c.in-Some-access_in.ensures refl c.locks_of.ensures;
    }
