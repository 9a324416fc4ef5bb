use Rattle.std.proofs.Common.{◌++◌, [], ◌∷◌, ap, subst, refl, ◌∙◌}
use Rattle.std.specs.Io.KnownBytes.{Appends}
use Rattle.kr_sink.specs.Puts.{AppendsFront}
use Rattle.kr_cli_tasks.proofs.Unprinted.{where_output}
use Rattle.kr_cli_tasks.proofs.threads.thread_script.Goals as goal

-- The text that was printed is the line of what the threads did.
pub returns-clause-reports : goal.returns-clause-reports
returns-clause-reports g c =
    let taken = g.W.Sink.taken in
    let (d, (threaded, line)) = c.in-Ok.ensures in
    let written = subst (Appends (taken c.args.out.now) (taken c.print.new.out)) (ap (λ t. t ++ 10 ∷ []) c.as_str.ensures.value ∙ line) c.in_ok-print.ensures.ok in
    (refl, (c.in_ok-script.script, (c.in_ok-script.ensures.script, (d, (threaded, written)))))

-- Where printing fails, the sink took a prefix of it.
pub returns-in_err-print-clause-front : goal.returns-in_err-print-clause-front
returns-in_err-print-clause-front g c =
    let taken = g.W.Sink.taken in
    let (d, (threaded, line)) = c.in-Ok.ensures in
    let front = subst (AppendsFront (taken c.args.out.now) (taken c.print.new.out)) (ap (λ t. t ++ 10 ∷ []) c.as_str.ensures.value ∙ line) c.in_err-print.ensures.err in
    where_output c.from_residual-in_err-print.result _ (c.in_ok-script.script, (c.in_ok-script.ensures.script, (d, (threaded, front))))
