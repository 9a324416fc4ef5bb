use Rattle.std.proofs.Common.{ℕ, ◌<◌}
use Rattle.kr_ghost_decide.specs.Holds.{fact}
use Rattle.kr_ghost_decide.specs.Heirs.{inherited_by}
use Rattle.kr_ghost_decide.specs.Found.{HasAny, heirs_at}
use Rattle.kr_ghost_decide.proofs.found.Found.new_by_heirs.Given as goal

abbrev pub invariant-loop-at : goal.invariant-loop-at
invariant-loop-at g l = (k : ℕ) → k < l.at → HasAny l.self.marks.items (inherited_by (g.P.GhostProtocol.ghosts l.protocol) (fact l.pair) (heirs_at l.heirs k))
