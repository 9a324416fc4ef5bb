use Rattle.std.proofs.Common.{◌≡◌, ◌++◌}
use Rattle.std.specs.List.{flat_map}
use Rattle.kr_model.specs.Covers.{count_up}
use Rattle.kr_change.specs.GhostEvery.{heir_to}
use Rattle.kr_change.proofs.ghost_every.heirs_from.Given as goal

-- the changes so far stand behind those of before
abbrev pub invariant-loop-mode : goal.invariant-loop-mode
invariant-loop-mode g l =
    let p = g.P.GhostProtocol.ghosts l.protocol in
    l.changes.items ≡ l.fn.changes.items ++ flat_map (heir_to p l.held) (count_up 0 l.mode)
