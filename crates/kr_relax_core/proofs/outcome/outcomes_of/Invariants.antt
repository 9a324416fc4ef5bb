use Rattle.std.proofs.Common.{◌≡◌, All, map, take}
use Rattle.kr_relax_core.specs.Outcomes.{IsJudged}
use Rattle.kr_relax_core.proofs.outcome.outcomes_of.Given as goal

-- the changes so far are judged
abbrev pub invariant-loop-at : goal.invariant-loop-at
invariant-loop-at g l =
    let p = g.P.IndexProtocol.index l.protocol in
    record {
      changes : map (λ j. j.change) l.list.items ≡ take l.at l.changes;
      right : All (IsJudged p) l.list.items;
    }
