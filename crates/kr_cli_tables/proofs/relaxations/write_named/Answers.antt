use Rattle.std.proofs.Common.{IfErr, sym, subst}
use Rattle.kr_cli.specs.declared.named.Named.{Named}
use Rattle.kr_cli_tables.specs.Relax.{EndsWriting}
use Rattle.kr_cli_tables.specs.Suite.{index_of, mode_names}
use Rattle.kr_cli_tables.proofs.relaxations.write_named.Goals as goal

pub returns-in-Ghosts-clause-err : goal.returns-in-Ghosts-clause-err
returns-in-Ghosts-clause-err g c = subst (λ (n : Named). IfErr c.write_relaxed-in-Ghosts.result (EndsWriting (index_of n) (mode_names n) c.args.word.now c.args.wanted)) (sym c.in-Ghosts.is) c.write_relaxed-in-Ghosts.ensures.err
