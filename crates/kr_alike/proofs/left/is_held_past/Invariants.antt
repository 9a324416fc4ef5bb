use Rattle.std.proofs.Common.{ℕ, ◌<◌, ◌≡◌}
use Rattle.kr_alike.specs.Alone.{state_at}
use Rattle.kr_alike.specs.Coming.{IsPast}
use Rattle.kr_alike.proofs.left.is_held_past.Given as goal

abbrev pub invariant-loop-at : goal.invariant-loop-at
invariant-loop-at g l = (k : ℕ) → k < l.at → ((state_at l.states.items k).mode ≡ l.mode) × IsPast (g.P.Protocol.table l.protocol) (state_at l.states.items k) → ⊥
