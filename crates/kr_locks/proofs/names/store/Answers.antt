use Rattle.std.proofs.Common.{ap, ◌∙◌}
use Rattle.std.specs.FinMap.{find}
use Rattle.std.specs.Ordering.{nat_cmp}
use Rattle.kr_locks.proofs.NameLaws.{find-locks_of}
use Rattle.kr_locks.proofs.names.store.Goals as goal

pub returns-in_err-store_new-clause-there : goal.returns-in_err-store_new-clause-there
returns-in_err-store_new-clause-there c some =
    absurd (some (find-locks_of c.args.names.now.entries c.requires c.args.name c.args.txn ∙ ap (find nat_cmp c.args.txn) (c.in_ok-store_there.ensures.absent c.if-branch.false)))
