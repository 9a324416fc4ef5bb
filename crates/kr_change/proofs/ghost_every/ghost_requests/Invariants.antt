use Rattle.std.proofs.Common.{◌≡◌, ◌++◌, take}
use Rattle.std.specs.List.{flat_map}
use Rattle.kr_change.specs.GhostEvery.{ghost_requests_at, ghost_places}
use Rattle.kr_change.proofs.ghost_every.ghost_requests.Given as goal

-- the changes of the places so far stand behind those of before
abbrev pub invariant-loop-place : goal.invariant-loop-place
invariant-loop-place g l =
    let p = g.P.GhostProtocol.ghosts l.protocol in
    l.changes.items ≡ l.fn.changes.items ++ flat_map (ghost_requests_at p) (take l.place-index (ghost_places p))
