use Rattle.std.proofs.Common.{ℕ, ◌≡◌, ◌<◌, ◌↔◌, false, IsTrue, length, slice_index_or}
use Rattle.kr_decide.specs.Pairs.{pair_at}
use Rattle.kr_decide.specs.Opens.{OpensFor}
use Rattle.kr_decide.proofs.finding.Found.openings.Given as goal

abbrev pub invariant-loop-at : goal.invariant-loop-at
invariant-loop-at g l =
    record {
      count : length l.list.items ≡ l.at;
      opens : (k : ℕ) → k < l.at → IsTrue (slice_index_or l.list.items k false) ↔ OpensFor (g.P.Protocol.table l.protocol) l.cover (pair_at l.self.pairs.items k).own (pair_at l.self.pairs.items k).other;
    }
