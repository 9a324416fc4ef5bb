use Rattle.std.proofs.Common.{◌≡◌, ◌-◌, ◌++◌}
use Rattle.std.specs.List.{flat_map}
use Rattle.kr_model.specs.Covers.{count_up}
use Rattle.kr_ghost_check.specs.Groups.{line, failures}
use Rattle.kr_ghost_check.proofs.checker.square.Given as goal

-- the failed ones of the cases so far stand behind those of before
abbrev pub invariant-loop-held : goal.invariant-loop-held
invariant-loop-held g l =
    let p = g.P.GhostProtocol.ghosts l.protocol in
    l.failed.items ≡ l.fn.failed.items ++ failures p (flat_map (line p l.rule l.cover) (count_up 1 (l.held - 1)))
