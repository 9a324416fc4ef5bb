use Rattle.std.proofs.Common.{◌≡◌, ◌++◌, None, map}
use Rattle.kr_model.specs.declared.Rule.TheVariants as rule
use Rattle.kr_model.specs.declared.Row.TheVariants as row
use Rattle.kr_model.specs.declared.Side.TheVariants.{Next}
use Rattle.kr_model.specs.declared.Cover.TheVariants.{DeletedGap}
use Rattle.kr_model.specs.declared.Origin.TheVariants as origin
use Rattle.kr_model.specs.Covers.{count_up, case, mode_after}
use Rattle.kr_cases.specs.Cases.{failures}
use Rattle.kr_cases.proofs.finder.Finder.deletes.Given as goal

-- the failed ones of the cases so far stand behind those of before
abbrev pub invariant-loop-own_next : goal.invariant-loop-own_next
invariant-loop-own_next g l =
    let p = g.P.Protocol.table l.self.protocol.now in
    l.failed.items ≡ l.fn.failed.items ++ failures p (map (λ n. case rule.Delete DeletedGap (origin.Own n) None (mode_after p n (p.ask row.Delete Next n))) (count_up 0 l.own_next))
