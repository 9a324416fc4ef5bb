use Rattle.std.proofs.Common.{◌∙◌, ap, sym}
use Rattle.kr_workers.specs.Follows.{closed, stays_active}
use Rattle.kr_workers.proofs.Wants.{closed_active, closed_ended}
use Rattle.kr_workers.proofs.wanted.want.Goals as goal

pub returns-in_ok-push : goal.returns-in_ok-push
returns-in_ok-push c = c.in_ok-push.ensures.items ∙ closed_active c.leave_out.new.ops.items (ap stays_active (sym c.as_slice.ensures.value) ∙ sym c.stays_active.ensures ∙ c.if-stays_active.true) ∙ ap closed c.in_ok-leave_out.ensures

pub returns-else-stays_active : goal.returns-else-stays_active
returns-else-stays_active c = closed_ended c.leave_out.new.ops.items (ap stays_active (sym c.as_slice.ensures.value) ∙ sym c.stays_active.ensures ∙ c.if-stays_active.false) ∙ ap closed c.in_ok-leave_out.ensures
