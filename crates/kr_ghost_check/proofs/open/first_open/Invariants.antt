use Rattle.std.proofs.Common.{◌≡◌, take, []}
use Rattle.std.specs.List.{filter, flat_map}
use Rattle.kr_ghost.specs.Covers.{requesters, accesses, is_open}
use Rattle.kr_ghost_check.proofs.open.first_open.Given as goal

-- no requester so far gets through
abbrev pub invariant-loop-access : goal.invariant-loop-access
invariant-loop-access g l =
    let p = g.P.GhostProtocol.ghosts l.protocol in
    filter (is_open p l.held) (flat_map (requesters p) (take l.access-index (accesses p l.fn.cover))) ≡ []
