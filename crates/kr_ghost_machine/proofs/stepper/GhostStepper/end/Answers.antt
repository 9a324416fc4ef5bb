use Rattle.kr_ghost_machine.proofs.stepper.GhostStepper.end.Goals as goal

pub invariant_of-self : goal.invariant_of-self
invariant_of-self g c =
    let inv = c.self.invariant in
    record { locks = c.end.ensures.locks (g.P.Protocol.table c.self.inside.protocol) inv.locks; rest = c.end.ensures.at_rest }
