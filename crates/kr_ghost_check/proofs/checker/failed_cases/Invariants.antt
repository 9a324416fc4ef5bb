use Rattle.std.proofs.Common.{◌≡◌, take}
use Rattle.std.specs.List.{flat_map}
use Rattle.kr_ghost_check.specs.Groups.{group, groups, failures}
use Rattle.kr_ghost_check.proofs.checker.failed_cases.Given as goal

-- the failed ones of the cases so far
abbrev pub invariant-loop-pair : goal.invariant-loop-pair
invariant-loop-pair g l =
    let p = g.P.GhostProtocol.ghosts l.protocol in
    l.failed.items ≡ failures p (flat_map (group p) (take l.pair-index groups))
