use Rattle.std.proofs.Common.{◌≡◌, ◌-◌, ◌++◌, Some, map}
use Rattle.kr_model.specs.declared.Rule.TheVariants as rule
use Rattle.kr_model.specs.declared.Origin.TheVariants as origin
use Rattle.kr_model.specs.Covers.{count_up, case}
use Rattle.kr_cases.specs.Cases.{failures}
use Rattle.kr_cases.proofs.finder.Finder.conversions_from.Given as goal

-- the failed ones of the cases so far stand behind those of before
abbrev pub invariant-loop-asked : goal.invariant-loop-asked
invariant-loop-asked g l =
    let p = g.P.Protocol.table l.self.protocol.now in
    l.failed.items ≡ l.fn.failed.items ++ failures p (map (λ q. case rule.Conversion l.cover (origin.Conversion l.held q) (Some l.held) (p.convert l.held q)) (count_up 1 (l.asked - 1)))
