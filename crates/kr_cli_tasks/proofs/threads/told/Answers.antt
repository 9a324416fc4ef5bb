use Rattle.kr_cli_tasks.proofs.threads.told.Goals as goal

-- The report is that of what the threads did.
pub returns : goal.returns
returns g c =
    let p = g.P.Protocol.table c.args.protocol.now in
    let shows = c.in_ok-shown.ensures in
    (shows.whole, (shows.is_threaded, c.in_ok-report_of.ensures p c.args.script.now.opening c.args.script.now.steps shows))
