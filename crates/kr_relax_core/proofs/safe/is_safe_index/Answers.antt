use Rattle.std.proofs.Common.{◌≡◌, ◌↔◌, ◌∙◌, IfOk, IsTrue, sym, subst}
use Rattle.kr_kinds.specs.Kinds.{IndexProtocol, IsSafeIndex}
use Rattle.kr_relax_core.proofs.OfKind.{is_gone, is_leaving}
use Rattle.kr_relax_core.proofs.safe.is_safe_index.Goals as goal

pub returns-then-leaves_ghosts : goal.returns-then-leaves_ghosts
returns-then-leaves_ghosts g c =
    subst (λ (i : IndexProtocol). IfOk c.is_safe_ghost.result (λ safe. IsTrue safe ↔ IsSafeIndex i))
    (is_leaving (g.P.IndexProtocol.index c.args.protocol.now) _ _ (g.met.P.IndexProtocol.has_tables c.args.protocol.now) (sym c.leaves_ghosts.ensures ∙ c.if-leaves_ghosts.true)) c.is_safe_ghost.ensures

pub returns-else-leaves_ghosts : goal.returns-else-leaves_ghosts
returns-else-leaves_ghosts g c =
    subst (λ (i : IndexProtocol). IfOk c.is_safe_gone.result (λ safe. IsTrue safe ↔ IsSafeIndex i))
    (is_gone (g.P.IndexProtocol.index c.args.protocol.now) _ _ (g.met.P.IndexProtocol.has_tables c.args.protocol.now) (sym c.leaves_ghosts.ensures ∙ c.if-leaves_ghosts.false)) c.is_safe_gone.ensures
