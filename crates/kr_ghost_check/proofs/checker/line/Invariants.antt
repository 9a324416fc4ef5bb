use Rattle.std.proofs.Common.{◌≡◌, ◌-◌, ◌++◌, map}
use Rattle.kr_model.specs.Covers.{count_up}
use Rattle.kr_ghost_check.specs.Groups.{case_at, first_own, failures}
use Rattle.kr_ghost_check.proofs.checker.line.Given as goal

-- the failed ones of the cases so far stand behind those of before
abbrev pub invariant-loop-own : goal.invariant-loop-own
invariant-loop-own g l =
    let p = g.P.GhostProtocol.ghosts l.protocol in
    l.failed.items ≡ l.fn.failed.items ++ failures p (map (case_at p l.rule l.cover l.held) (count_up (first_own l.rule) (l.own - first_own l.rule)))
