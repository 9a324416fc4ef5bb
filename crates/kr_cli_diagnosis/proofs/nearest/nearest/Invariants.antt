use Rattle.std.proofs.Common.{ℕ, ◌+◌, ◌<◌, ◌≤◌, ◌≡◌, List, get_or, MatchOption}
use Rattle.std.specs.Prelude.{Contains}
use Rattle.std.specs.Borrow.{Bor}
use Rattle.kr_cli_diagnosis.specs.Nearest.{distance, near_distance}
use Rattle.kr_cli_diagnosis.proofs.nearest.nearest.Given as goal

abbrev pub invariant-loop-name : goal.invariant-loop-name
invariant-loop-name l = record {
  least : (k : ℕ) (d : Bor (List ℕ)) → k < l.name-index → l.bound ≤ distance l.word (get_or l.names k d).now;
  found : MatchOption l.found (l.bound ≡ near_distance l.word + 1)
      (λ name. Contains l.names name × (l.bound ≡ distance l.word name.now) × (l.bound ≤ near_distance l.word));
}
