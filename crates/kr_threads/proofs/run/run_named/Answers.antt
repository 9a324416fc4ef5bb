use Rattle.std.proofs.Common.{subst}
use Rattle.kr_model.specs.Protocol.{IsLawful}
use Rattle.kr_threads.proofs.run.run_named.Goals as goal

-- The law of the protocol, in the thread that runs the script.
pub finished-requires-clause-lawful : goal.finished-requires-clause-lawful
finished-requires-clause-lawful g c =
    subst IsLawful c.requires.table ((g.met.P.Protocol g.world.𝓛 g.world.𝓜 g.world.𝓡 ((λ s x. x), (λ x. x), (λ x. x), λ x. x)).lawful c.args.protocol)
