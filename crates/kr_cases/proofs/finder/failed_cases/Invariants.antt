use Rattle.std.proofs.Common.{◌≡◌, take}
use Rattle.std.specs.List.{flat_map}
use Rattle.kr_model.specs.Covers.{cases_of, all_rules}
use Rattle.kr_cases.specs.Cases.{failures}
use Rattle.kr_cases.proofs.finder.failed_cases.Given as goal

-- the failed ones of the cases so far
abbrev pub invariant-loop-rule : goal.invariant-loop-rule
invariant-loop-rule g l =
    let p = g.P.Protocol.table l.protocol in
    l.failed.items ≡ failures p (flat_map (cases_of p) (take l.rule-index (all_rules p)))
