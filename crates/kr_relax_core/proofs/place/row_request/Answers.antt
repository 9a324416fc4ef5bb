use Rattle.std.proofs.Common.{◌≤◌, ◌∙◌, ap, sym, subst}
use Rattle.std.specs.Prelude.{IfSome}
use Rattle.kr_model.specs.Protocol.{Protocol}
use Rattle.kr_ghost.proofs.Locking.{row_mode}
use Rattle.kr_ghost_decide.proofs.Within.{asked_within}
use Rattle.kr_relax_core.proofs.place.row_request.Goals as goal

pub returns-clause-in_range : goal.returns-clause-in_range
returns-clause-in_range g c =
    let laws = g.met.P.GhostProtocol.lawful_ghosts c.args.protocol.now in
    let p = g.P.GhostProtocol.ghosts c.args.protocol.now in
    let same = g.met.P.GhostProtocol.tables c.args.protocol.now in
    subst (λ (t : Protocol). IfSome c.ask.result (λ a. a.0 ≤ t.count)) same
    (asked_within p (p.table.ask c.args.row c.args.side c.args.own_next) c.ask.result
    (row_mode p laws c.args.row c.args.side c.args.own_next (subst (λ (t : Protocol). c.args.own_next ≤ t.count) (sym same) c.requires))
    (c.ask.ensures ∙ ap (λ t. t.ask c.args.row c.args.side c.args.own_next) (sym same)))
