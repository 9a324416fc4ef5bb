use Rattle.std.proofs.Common.{rules}
use Rattle.std.proofs.lemmas.List.Sorted.{IsPartitionPoint-from_clause}
use Rattle.kr_workers.specs.Follows.{is_before}
use Rattle.kr_workers.proofs.FaultPlaces.{parted}
use Rattle.kr_workers.proofs.wanted.place_of.Goals as goal

pub returns : goal.returns
returns c = record {
  within = c.partition_point.ensures.bound;
  parts = IsPartitionPoint-from_clause (is_before c.args.txn c.args.step) c.args.faults.now c.partition_point.result c.partition_point.ensures.partitioned (parted c.args.faults.now c.args.txn c.args.step c.requires) (λ a r f called. (search rules, search rules));
}
