use Rattle.std.proofs.Common.{◌≡◌, ◌++◌, None, map}
use Rattle.kr_model.specs.declared.Origin.TheVariants as origin
use Rattle.kr_model.specs.Covers.{count_up, case, mode_after}
use Rattle.kr_cases.specs.Cases.{failures}
use Rattle.kr_cases.proofs.finder.Finder.row_covers.Given as goal

-- the failed ones of the cases so far stand behind those of before
abbrev pub invariant-loop-own : goal.invariant-loop-own
invariant-loop-own g l =
    let p = g.P.Protocol.table l.self.protocol.now in
    l.failed.items ≡ l.fn.failed.items ++ failures p (map (λ o. case l.rule l.cover (origin.Own o) None (mode_after p o (p.ask l.row l.side 0))) (count_up 0 l.own))
