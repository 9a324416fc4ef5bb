use Rattle.std.proofs.Common.{◌≡◌, map, []}
use Rattle.std.specs.List.{filter}
use Rattle.kr_model.specs.Covers.{count_up}
use Rattle.kr_ghost.specs.Covers.{requester, is_open}
use Rattle.kr_ghost_check.proofs.open.first_at.Given as goal

-- no requester so far gets through
abbrev pub invariant-loop-own : goal.invariant-loop-own
invariant-loop-own g l = filter (is_open (g.P.GhostProtocol.ghosts l.protocol) l.held) (map (requester l.access) (count_up 0 l.own)) ≡ []
