use Rattle.kr_explain_runs.proofs.Choice.{asked, asked_if, or_both, last}
use Rattle.kr_explain_runs.proofs.own_steps.asking.Goals as goal

-- each step is there where it is wanted and can be taken
pub returns : goal.returns
returns g c =
    or_both _ _ _ _ (asked _ _ _ c.step_if.ensures c.asks-hits.ensures)
    (or_both _ _ _ _ (asked _ _ _ c.step_if-2.ensures c.asks-misses.ensures)
    (or_both _ _ _ _ (asked _ _ _ c.step_if-3.ensures c.asks-scans.ensures)
    (or_both _ _ _ _ (asked _ _ _ c.step_if-4.ensures c.asks-stops.ensures)
    (or_both _ _ _ _ (asked_if _ _ _ _ _ c.step_if-5.ensures c.asks-puts.ensures c.can_put.ensures)
    (or_both _ _ _ _ (asked_if _ _ _ _ _ c.step_if-6.ensures c.asks-takes.ensures c.can_take.ensures)
    (last _ _ (asked _ _ _ c.step_if-7.ensures c.asks-updates.ensures)))))))
