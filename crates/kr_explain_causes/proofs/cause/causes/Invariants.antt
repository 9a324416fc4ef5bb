use Rattle.std.specs.Prelude.{◌<◌, ◌++◌, All, length}
use Rattle.std.specs.List.Sorted.{IsPermutation}
use Rattle.kr_explain_causes.specs.Causes.{IsSublist, all_cases, cases_of}
use Rattle.kr_explain_causes.specs.Shares.{IsCause, IsSuspect}
use Rattle.kr_explain_causes.proofs.cause.causes.Given as goal

-- the cases of the causes so far, and those that are left
abbrev pub invariant-loop-alloc : goal.invariant-loop-alloc
invariant-loop-alloc g l = record {
  all : IsPermutation l.failed (all_cases l.causes.items ++ cases_of l.left.items);
  some : All (λ c. 0 < length c.cases.items) l.causes.items;
  each : All (IsCause (g.P.Protocol.table l.protocol) l.failed) l.causes.items;
  reasons : All (IsSuspect (g.P.Protocol.table l.protocol)) l.left.items;
  in_order : IsSublist (cases_of l.left.items) l.failed;
}

-- the cases that are left
abbrev pub decreases-loop-alloc : goal.decreases-loop-alloc
decreases-loop-alloc g l = length l.left.items
