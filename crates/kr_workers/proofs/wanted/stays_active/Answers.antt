use Rattle.std.proofs.Common.{not, ap, ◌∙◌}
use Rattle.kr_workers.proofs.Operations.{active_after, active_by_last}
use Rattle.kr_workers.proofs.wanted.stays_active.Goals as goal

pub returns-in-Some : goal.returns-in-Some
returns-in-Some c = ap not c.is_end.ensures ∙ ap active_after c.in-Some.ensures.value ∙ active_by_last c.args.ops.now
