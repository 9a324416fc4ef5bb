use Rattle.std.proofs.Common.{refl, sym, subst}
use Rattle.std.proofs.lemmas.Result.{on_ok_weaker}
use Rattle.kr_model.specs.Locks.{Locks}
use Rattle.kr_model.specs.Protocol.{Protocol}
use Rattle.kr_model.specs.State.{State}
use Rattle.kr_txn.specs.Standings.{entries}
use Rattle.kr_ghost.specs.Protocol.{IsLawfulPurge, heir_of}
use Rattle.kr_ghost_machine.specs.Machine.{AreHeld}
use Rattle.kr_ghost_machine.proofs.Handed.{all_purged, still_held, told_either}
use Rattle.kr_ghost_machine.proofs.heirs.inherit_all.Goals as goal

pub returns-clause-ok : goal.returns-clause-ok
returns-clause-ok g c =
    let p = g.P.Protocol.table c.args.protocol.now in
    let q = g.P.GhostProtocol.ghosts c.args.protocol.now in
    let lawful = g.met.P.GhostProtocol.lawful_ghosts c.args.protocol.now in
    let fit : IsLawfulPurge p q.purges = subst (λ (t : Protocol). IsLawfulPurge t q.purges) (g.met.P.GhostProtocol.tables c.args.protocol.now) lawful.purges in
    let h = g.L.Holdings.locks c.args.locks.now in
    let xs = c.args.active.now in
    on_ok_weaker c.inherit.result (λ all m ended.
    let s : State = record { map = m; locks = h; ended = ended; active = entries xs } in
    all_purged p (g.met.P.Protocol.lawful c.args.protocol.now) q.purges fit s xs (g.L.Holdings.locks c.inherit.new.locks) c.args.key c.args.next c.requires.inherits c.requires.apart c.requires.locks c.inherit.ensures.locks refl c.requires.held all) c.inherit.ensures.ok

pub returns-clause-held : goal.returns-clause-held
returns-clause-held g c =
    let p = g.P.Protocol.table c.args.protocol.now in
    let heir = heir_of (g.P.GhostProtocol.ghosts c.args.protocol.now).purges in
    let h = g.L.Holdings.locks c.args.locks.now in
    let l = g.L.Holdings.locks c.inherit.new.locks in
    let es = entries c.args.active.now in
    told_either c.inherit.result (still_held p heir h l c.args.key c.args.next es c.requires.held) (λ same. subst (λ (z : Locks). AreHeld z es) (sym same) c.requires.held) c.inherit.ensures.ok c.inherit.ensures.err
