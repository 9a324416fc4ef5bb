use Rattle.std.proofs.Common.{ap, sym, ◌∙◌, subst, unwrap_or}
use Rattle.std.specs.Ordering.{nat_cmp}
use Rattle.std.specs.FinMap.{find}
use Rattle.kr_model.specs.Protocol.{Protocol}
use Rattle.kr_model.specs.State.{idle}
use Rattle.kr_model.specs.Step.{takes_no_memory}
use Rattle.kr_txn.specs.Standings.{entries}
use Rattle.kr_ghost.specs.Step.{attempted_scan, performed}
use Rattle.kr_ghost_machine.specs.Machine.{shown}
use Rattle.kr_ghost_machine.specs.Sights.{IsSight}
use Rattle.kr_ghost_machine.proofs.Attempted.{range_of}
use Rattle.kr_ghost_machine.proofs.sights.part_of.Goals as goal

pub returns-in-Some : goal.returns-in-Some
returns-in-Some g c ended =
    let p = g.P.GhostProtocol.ghosts c.args.protocol.now in
    let x = c.args.index.now in
    let t = c.args.txn in
    let es = entries c.args.active.now in
    let s = shown x (g.L.Holdings.locks c.args.locks.now) ended es in
    let left = range_of c.in-Some.lo c.in-Some.hi (unwrap_or (find nat_cmp t es) idle).scan c.in-Some.ensures.some in (
      ap (performed p s t) c.in-Go.is ∙ ap (attempted_scan p s t) left.1 ∙ c.look-in-Some.ensures.performs ended es left.0 left.1,
      subst (λ (q : Protocol). IsSight q.count x.map c.look-in-Some.result) (sym (g.met.P.GhostProtocol.tables c.args.protocol.now)) c.look-in-Some.ensures.sight,
      ap takes_no_memory c.in-Go.is,
    )
