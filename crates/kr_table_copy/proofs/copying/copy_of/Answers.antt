use Rattle.std.proofs.Common.{◌∙◌, IfOk, IfSome, sym, subst}
use Rattle.kr_kinds.specs.Kinds.{IndexProtocol}
use Rattle.kr_table_copy.specs.Same.{IsCopy}
use Rattle.kr_table_copy.proofs.OfKind.{is_gone, is_leaving}
use Rattle.kr_table_copy.proofs.copying.copy_of.Goals as goal

pub returns-then-leaves_ghosts : goal.returns-then-leaves_ghosts
returns-then-leaves_ghosts g c =
    subst (λ (i : IndexProtocol). IfOk c.leaving_copy.result (λ copy. IfSome copy (IsCopy i (g.P.Protocol.names c.args.protocol.now))))
    (is_leaving (g.P.IndexProtocol.index c.args.protocol.now) _ _ (g.met.P.IndexProtocol.has_tables c.args.protocol.now) (sym c.leaves_ghosts.ensures ∙ c.if-leaves_ghosts.true)) c.leaving_copy.ensures

pub returns-else-leaves_ghosts : goal.returns-else-leaves_ghosts
returns-else-leaves_ghosts g c =
    subst (λ (i : IndexProtocol). IfOk c.gone_copy.result (λ copy. IfSome copy (IsCopy i (g.P.Protocol.names c.args.protocol.now))))
    (is_gone (g.P.IndexProtocol.index c.args.protocol.now) _ _ (g.met.P.IndexProtocol.has_tables c.args.protocol.now) (sym c.leaves_ghosts.ensures ∙ c.if-leaves_ghosts.false)) c.gone_copy.ensures
