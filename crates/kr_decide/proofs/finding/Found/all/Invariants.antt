use Rattle.std.proofs.Common.{◌+◌, ◌-◌, ◌≤◌, length}
use Rattle.kr_decide.specs.Findings.{left, IsGoing}
use Rattle.kr_decide.proofs.finding.Found.all.Given as goal

abbrev pub invariant-loop-at : goal.invariant-loop-at
invariant-loop-at g l =
    record {
      going : IsGoing (g.P.Protocol.table l.protocol) l.found l.at;
      within : l.at ≤ length l.found.pairs.items;
    }

abbrev pub decreases-loop-at : goal.decreases-loop-at
decreases-loop-at g l = (length l.found.pairs.items - l.at) + left l.found.unseen.items
