use Rattle.std.proofs.Common.{◌∙◌, IfOk, sym, subst}
use Rattle.kr_kinds.specs.Kinds.{IndexProtocol}
use Rattle.kr_relax_core.specs.Met.{IsMetBy}
use Rattle.kr_relax_core.proofs.OfKind.{is_gone, is_leaving}
use Rattle.kr_relax_core.proofs.spots.spots_of.Goals as goal

pub returns-then-leaves_ghosts-clause-met : goal.returns-then-leaves_ghosts-clause-met
returns-then-leaves_ghosts-clause-met g c =
    subst (λ (i : IndexProtocol). IfOk c.leaving_spots.result (λ spots. IsMetBy i spots.items))
    (is_leaving (g.P.IndexProtocol.index c.args.protocol.now) _ _ (g.met.P.IndexProtocol.has_tables c.args.protocol.now) (sym c.leaves_ghosts.ensures ∙ c.if-leaves_ghosts.true)) c.leaving_spots.ensures.met

pub returns-else-leaves_ghosts-clause-met : goal.returns-else-leaves_ghosts-clause-met
returns-else-leaves_ghosts-clause-met g c =
    subst (λ (i : IndexProtocol). IfOk c.gone_spots.result (λ spots. IsMetBy i spots.items))
    (is_gone (g.P.IndexProtocol.index c.args.protocol.now) _ _ (g.met.P.IndexProtocol.has_tables c.args.protocol.now) (sym c.leaves_ghosts.ensures ∙ c.if-leaves_ghosts.false)) c.gone_spots.ensures.met
