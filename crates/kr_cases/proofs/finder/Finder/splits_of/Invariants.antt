use Rattle.std.proofs.Common.{◌≡◌, ◌++◌, Some}
use Rattle.std.specs.List.{flat_map}
use Rattle.kr_model.specs.declared.Rule.TheVariants as rule
use Rattle.kr_model.specs.Covers.{count_up, inserts_at}
use Rattle.kr_cases.specs.Cases.{failures}
use Rattle.kr_cases.proofs.finder.Finder.splits_of.Given as goal

-- the failed ones of the cases so far stand behind those of before
abbrev pub invariant-loop-own_next : goal.invariant-loop-own_next
invariant-loop-own_next g l =
    let p = g.P.Protocol.table l.self.protocol.now in
    l.failed.items ≡ l.fn.failed.items ++ failures p (flat_map (λ n. inserts_at p rule.Split l.cover (Some n) n) (count_up 0 l.own_next))
