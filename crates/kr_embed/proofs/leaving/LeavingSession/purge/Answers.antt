use Rattle.kr_embed.proofs.Recorded.{purge_records}
use Rattle.kr_embed.proofs.leaving.LeavingSession.purge.Goals as goal

-- What is noted goes with the state after the purge too.
pub invariant_of-self : goal.invariant_of-self
invariant_of-self c =
    let own = c.self.inside in
    purge_records own.stepper c.purge.new.self c.args.key own.log own.owed own.last c.purge.result c.self.invariant c.purge.ensures.state c.purge.ensures.err
