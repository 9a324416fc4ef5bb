use Rattle.std.proofs.Common.{◌++◌, [], ◌∷◌, ap, subst, ◌∙◌}
use Rattle.std.specs.Io.KnownBytes.{Appends}
use Rattle.kr_cli_tasks.proofs.ghost_threads.thread_ghosts.Goals as goal

-- The text that was printed is the line of what the threads did.
pub returns-clause-reports : goal.returns-clause-reports
returns-clause-reports g c =
    let taken = g.W.Sink.taken in
    let p = g.P.GhostProtocol.ghosts c.args.protocol.now in
    let s = c.in_ok-script.script in
    let (d, (threaded, line)) = c.in-Ok.ensures in
    let written = subst (Appends (taken c.args.out.now) (taken c.print.new.out)) (ap (λ t. t ++ 10 ∷ []) c.as_str.ensures.value ∙ line) c.in_ok-print.ensures.ok in
    (s, (c.in_ok-script.ensures.script, (d, (threaded, written))))
