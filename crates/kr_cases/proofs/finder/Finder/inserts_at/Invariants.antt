use Rattle.std.proofs.Common.{◌≡◌, ◌++◌, map}
use Rattle.kr_model.specs.declared.Row.TheVariants as row
use Rattle.kr_model.specs.declared.Side.TheVariants.{Current}
use Rattle.kr_model.specs.declared.Origin.TheVariants as origin
use Rattle.kr_model.specs.Covers.{count_up, case, mode_after}
use Rattle.kr_cases.specs.Cases.{failures}
use Rattle.kr_cases.proofs.finder.Finder.inserts_at.Given as goal

-- the failed ones of the cases so far stand behind those of before
abbrev pub invariant-loop-own : goal.invariant-loop-own
invariant-loop-own g l =
    let p = g.P.Protocol.table l.self.protocol.now in
    l.failed.items ≡ l.fn.failed.items ++ failures p (map (λ o. case l.rule l.cover (origin.Insert l.own_next o) l.given (mode_after p o (p.ask row.Insert Current l.own_next))) (count_up 0 l.own))
