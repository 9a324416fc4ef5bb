use Rattle.std.proofs.Common.{◌≡◌, true, false, arith, rules, subst}
use Rattle.std.specs.Prelude.{nat_le}
use Rattle.std.specs.List.Sorted.{IsPartitionPoint}
use Rattle.std.proofs.lemmas.List.Sorted.{IsPartitionPoint-from_clause}
use Rattle.kr_index.proofs.StretchLaws.{parted, home_at, no_home}
use Rattle.kr_index.proofs.stretches.home.Goals as goal

pub returns-clause-place : goal.returns-clause-place
returns-clause-place c =
    let ss = c.args.stretches.now in
    let k = c.args.key in
    let point = IsPartitionPoint-from_clause (λ s. nat_le s.from k) ss c.partition_point-above.result c.partition_point-above.ensures.partitioned (parted ss c.requires k) (λ a r f called. (search rules, search rules)) in
    home_at ss c.requires k c.partition_point-above.result (omega arith) c.partition_point-above.ensures.bound point

pub returns-then-above-eq0-clause-none : goal.returns-then-above-eq0-clause-none
returns-then-above-eq0-clause-none c =
    let ss = c.args.stretches.now in
    let k = c.args.key in
    let point = IsPartitionPoint-from_clause (λ s. nat_le s.from k) ss c.partition_point-above.result c.partition_point-above.ensures.partitioned (parted ss c.requires k) (λ a r f called. (search rules, search rules)) in
    no_home ss c.requires k (subst (IsPartitionPoint (λ s. nat_le s.from k ≡ true) (λ s. nat_le s.from k ≡ false) ss) c.if-above-eq0.true point)
