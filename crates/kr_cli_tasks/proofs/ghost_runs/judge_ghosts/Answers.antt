use Rattle.std.proofs.Common.{subst, ◌∙◌}
use Rattle.kr_sink.specs.Puts.{AppendsFront}
use Rattle.kr_cli_tasks.proofs.Unprinted.{where_output}
use Rattle.kr_cli_tasks.proofs.ghost_runs.judge_ghosts.Goals as goal

-- Where printing fails, the sink took a prefix of the lines.
pub returns-in_err-put_all-clause-front : goal.returns-in_err-put_all-clause-front
returns-in_err-put_all-clause-front g c =
    let taken = g.W.Sink.taken in
    let told = c.in_ok-text.ensures.judged in
    let front = subst (AppendsFront (taken c.args.out.now) (taken c.put_all.new.out)) (c.as_bytes.ensures.value ∙ told.lines) c.in_err-put_all.ensures.err in
    where_output c.from_residual-in_err-put_all.result _ (told.scripts, (told.names, front))
