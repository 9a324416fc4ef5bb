use Rattle.std.proofs.Common.{◌∷◌, ◌++◌, [], List, ℕ, subst, ◌∙◌}
use Rattle.kr_sink.specs.Puts.{AppendsFront}
use Rattle.kr_cli_tasks.proofs.Unprinted.{where_output}
use Rattle.kr_cli_tasks.proofs.ghost_runs.run_ghosts.Goals as goal

-- Where printing fails, the sink took a prefix of the report.
pub returns-in_err-print-clause-front : goal.returns-in_err-print-clause-front
returns-in_err-print-clause-front g c =
    let taken = g.W.Sink.taken in
    let front = subst (λ (t : List ℕ). AppendsFront (taken c.args.out.now) (taken c.print.new.out) (t ++ 10 ∷ [])) (c.as_str.ensures.value ∙ c.in_ok-text.ensures.text) c.in_err-print.ensures.err in
    where_output c.from_residual-in_err-print.result _ (c.in_ok-script.script, (c.in_ok-script.ensures.script, front))
