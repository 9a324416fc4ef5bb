use Rattle.std.proofs.Common.{◌≡◌, ◌∷◌, [], ◌∙◌, None, Option, List, ap, refl, ⊎_elim, inl, inr}
use Rattle.std.specs.Prelude.{is_some, if◌then◌else◌}
use Rattle.kr_threads.specs.declared.fault.RunFault.{RunFault}
use Rattle.kr_threads.specs.Told.{Reported, first_failure}
use Rattle.kr_threads.proofs.Gathered.{failure_after, left_out_of_more, shares_of_more, whole_after, whole_before}
use Rattle.kr_threads.proofs.gathering.gather.Goals as goal

pub returns-in-Err-clause-failed : goal.returns-in-Err-clause-failed
returns-in-Err-clause-failed g c =
    let so_far = c.loop-report.invariant in
    let report = c.in-Some.report in
    let rest : List Reported = c.next.new.self.rest.items in
    let whole = whole_before c.args.reports.items c.loop-report.yielded c.loop-report.report-iterator.rest.items report rest so_far.whole c.in-Some.ensures.steps.0 in
    let first : first_failure c.args.reports.items ≡ first_failure (report ∷ rest) = ap first_failure whole ∙ failure_after c.loop-report.yielded (report ∷ rest) so_far.worked in
    ⊎_elim inl (λ is. inr (first ∙ ap (λ (o : Option RunFault). if is_some o then o else first_failure rest) is)) c.in-Err.ensures.failed

pub loop-report-preserved : goal.loop-report-preserved
loop-report-preserved g c =
    let so_far = c.loop-report.invariant in
    let done = c.in_default.ensures in
    let report = c.in-Some.report in
    let yielded : List Reported = c.loop-report.yielded in
    record {
      told = done.told;
      shares = shares_of_more yielded report c.loop-report.shares.items c.add.new.shares.items so_far.shares done.share;
      left_out = left_out_of_more yielded report c.loop-report.left_out.items c.add.new.left_out.items so_far.left_out done.left_out;
      whole = whole_after c.args.reports.items yielded c.loop-report.report-iterator.rest.items report c.next.new.self.rest.items so_far.whole c.in-Some.ensures.steps.0;
      worked = failure_after yielded (report ∷ []) so_far.worked ∙ ap (λ (o : Option RunFault). if is_some o then o else None) (done.worked refl);
    }
