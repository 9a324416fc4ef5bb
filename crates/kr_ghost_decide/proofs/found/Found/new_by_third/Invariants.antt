use Rattle.std.proofs.Common.{ℕ, ◌<◌, ◌≡◌, false}
use Rattle.kr_ghost_decide.specs.Holds.{fact, hold_at}
use Rattle.kr_ghost_decide.specs.Found.{is_altered}
use Rattle.kr_ghost_decide.proofs.found.Found.new_by_third.Given as goal

abbrev pub invariant-loop-number : goal.invariant-loop-number
invariant-loop-number g l = (n : ℕ) → n < l.number → is_altered (g.P.GhostProtocol.ghosts l.protocol) l.self.marks.items (fact l.pair) (hold_at n) ≡ false
