use Rattle.std.proofs.Common.{ℕ, ◌<◌, slice_index_or}
use Rattle.kr_ghost_decide.specs.declared.way.Way.TheVariants as way
use Rattle.kr_ghost_decide.specs.Holds.{fact}
use Rattle.kr_ghost_decide.specs.Ways.{ways, moved}
use Rattle.kr_ghost_decide.specs.Found.{HasAny}
use Rattle.kr_ghost_decide.proofs.found.Found.new_by_ways.Given as goal

abbrev pub invariant-loop-number : goal.invariant-loop-number
invariant-loop-number g l = (k : ℕ) → k < l.number → HasAny l.self.marks.items (moved (g.P.GhostProtocol.ghosts l.protocol) (fact l.pair) (slice_index_or ways k way.Turn))
