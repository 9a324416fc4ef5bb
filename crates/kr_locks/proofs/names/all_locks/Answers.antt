use Rattle.std.proofs.Common.{subst}
use Rattle.std.specs.List.Sorted.{IsPermutation}
use Rattle.kr_locks.proofs.ListedLaws.{put_in_order}
use Rattle.kr_locks.proofs.names.all_locks.Goals as goal

pub returns : goal.returns
returns c = put_in_order c.args.names.now.entries c.sort_unstable.new.self.items c.requires c.in_ok-list.ensures.in_order (subst (λ xs. IsPermutation xs c.sort_unstable.new.self.items) c.in_ok-list.ensures.listed c.sort_unstable.ensures.permutation) c.sort_unstable.ensures.sorted
