use Rattle.std.specs.Prelude.{IsTrue}
use Rattle.kr_cli.specs.Endings.{is_output}
use Rattle.kr_cli_tables.proofs.Caused.{caused}
use Rattle.kr_cli_tables.proofs.explanations.ghosts.write_ghost_explanation.Goals as goal

pub returns-in_err-put_all-clause-cause : goal.returns-in_err-put_all-clause-cause
returns-in_err-put_all-clause-cause g c = caused c.from_residual-in_err-put_all.result (λ e. IsTrue (is_output e)) _ c.in_err-put_all.ensures.cause
