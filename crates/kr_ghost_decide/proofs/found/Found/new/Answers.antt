use Rattle.std.proofs.Common.{refl}
use Rattle.kr_ghost_decide.proofs.Growing.{found_start}
use Rattle.kr_ghost_decide.proofs.found.Found.new.Goals as goal

pub returns : goal.returns
returns g c =
    found_start (g.P.GhostProtocol.ghosts c.args.protocol.now) _ c.in_ok-marks.marks.items _ refl (let h = c.in_ok-marks.ensures in h.items_if_clones_equal (λ y e. e)) refl refl
