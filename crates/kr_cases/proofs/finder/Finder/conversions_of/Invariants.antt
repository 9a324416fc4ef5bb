use Rattle.std.proofs.Common.{◌≡◌, ◌-◌, ◌++◌}
use Rattle.std.specs.List.{flat_map}
use Rattle.kr_model.specs.Covers.{count_up, conversions_from}
use Rattle.kr_cases.specs.Cases.{failures}
use Rattle.kr_cases.proofs.finder.Finder.conversions_of.Given as goal

-- the failed ones of the cases so far stand behind those of before
abbrev pub invariant-loop-held : goal.invariant-loop-held
invariant-loop-held g l =
    let p = g.P.Protocol.table l.self.protocol.now in
    l.failed.items ≡ l.fn.failed.items ++ failures p (flat_map (conversions_from p l.cover) (count_up 1 (l.held - 1)))
