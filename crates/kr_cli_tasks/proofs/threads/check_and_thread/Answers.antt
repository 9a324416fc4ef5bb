use Rattle.std.proofs.Common.{◌≡◌, inl, refl, subst}
use Rattle.std.proofs.lemmas.Result.{IfOk-weaker}
use Rattle.kr_model.specs.Covers.{IsCovered}
use Rattle.kr_threads.specs.Threaded.{IsThreaded}
use Rattle.kr_cli_tasks.proofs.threads.check_and_thread.Goals as goal

-- An accepted protocol is the one that was given, and covered.
pub returns-in-Ok-clause-reports : goal.returns-in-Ok-clause-reports
returns-in-Ok-clause-reports g c =
    let table = g.P.Protocol.table in
    let covered : IsCovered (table c.args.protocol) = c.in-Ok.ensures.exactly.0 refl in
    let same : c.in-Ok.checked.protocol ≡ c.args.protocol = c.in-Ok.ensures.ok in
    IfOk-weaker c.thread_script.result _ _ (λ well h.
    let (serial, (s, (named, (d, (threaded, written))))) = h in
    inl (serial, (covered, (s, (named, (d, (subst (λ q. IsThreaded (table q) s.opening s.steps d) same threaded, written)))))))
    c.thread_script.ensures.reports
