use Rattle.std.proofs.Common.{rules}
use Rattle.std.specs.Ordering.{is_lt, is_le}
use Rattle.std.proofs.lemmas.List.Sorted.{IsPartitionPoint-from_clause}
use Rattle.kr_model.specs.Locks.{name_cmp}
use Rattle.kr_locks.proofs.OnName.{IsPart, below_first, not_above_first, starts_before_end, part_is}
use Rattle.kr_locks.proofs.list.bounds.Goals as goal

-- the two searches end where the locks on the name begin and end
part : (c : goal.After-partition_point-end) → IsPart c.args.held.now c.args.name c.partition_point-start.result c.partition_point-end.result
part c = record {
  starts = IsPartitionPoint-from_clause (λ l. is_lt (name_cmp l.0.0 c.args.name)) c.args.held.now c.partition_point-start.result c.partition_point-start.ensures.partitioned (below_first c.args.held.now c.requires c.args.name) (λ a r f called. (search rules, search rules));
  ends = IsPartitionPoint-from_clause (λ l. is_le (name_cmp l.0.0 c.args.name)) c.args.held.now c.partition_point-end.result c.partition_point-end.ensures.partitioned (not_above_first c.args.held.now c.requires c.args.name) (λ a r f called. (search rules, search rules));
  start_in = c.partition_point-start.ensures.bound;
  end_in = c.partition_point-end.ensures.bound;
}

pub returns-clause-in_order : goal.returns-clause-in_order
returns-clause-in_order c = starts_before_end _ _ _ _ (part c)

pub returns-clause-locks : goal.returns-clause-locks
returns-clause-locks c = part_is _ _ _ _ (part c)
