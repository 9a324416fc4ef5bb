use Rattle.std.proofs.Common.{ap, refl, arith, set}
use Rattle.kr_ghost_decide.specs.Holds.{fact}
use Rattle.kr_ghost_decide.proofs.Growing.{new_below, mark_found}
use Rattle.kr_ghost_decide.proofs.found.Found.mark.Goals as goal

pub index_mut-requires : goal.index_mut-requires
index_mut-requires g c =
    let below = new_below (g.P.GhostProtocol.ghosts c.args.protocol.now) (g.met.P.GhostProtocol.lawful_ghosts c.args.protocol.now) (fact c.args.pair) c.requires.new.reached in
    let size = c.requires.found.size in
    omega (arith, c.place-place.ensures)

pub returns-clause-found : goal.returns-clause-found
returns-clause-found g c =
    mark_found (g.P.GhostProtocol.ghosts c.args.protocol.now) (g.met.P.GhostProtocol.lawful_ghosts c.args.protocol.now) c.args.self.now _ (fact c.args.pair) c.requires.found c.requires.new
    (ap (λ i. set c.args.self.now.marks.items i _) c.place-place.ensures) refl
