use Rattle.std.proofs.Common.{◌≡◌, ◌-◌, ◌++◌}
use Rattle.std.specs.List.{flat_map}
use Rattle.kr_model.specs.Covers.{count_up}
use Rattle.kr_change.specs.GhostEvery.{heirs_from}
use Rattle.kr_change.proofs.ghost_every.all_heirs.Given as goal

-- the changes so far stand behind those of before
abbrev pub invariant-loop-held : goal.invariant-loop-held
invariant-loop-held g l =
    let p = g.P.GhostProtocol.ghosts l.protocol in
    l.changes.items ≡ l.fn.changes.items ++ flat_map (heirs_from p) (count_up 1 (l.held - 1))
