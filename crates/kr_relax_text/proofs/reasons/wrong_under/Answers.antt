use Rattle.std.proofs.Common.{◌∙◌, IfOk, sym, subst}
use Rattle.std.specs.Prelude.{IfSome, string_bytes}
use Rattle.kr_kinds.specs.Kinds.{IndexProtocol}
use Rattle.kr_relax_core.proofs.OfKind.{is_gone, is_leaving}
use Rattle.kr_relax_text.specs.Reasons.{IsWrongLine}
use Rattle.kr_relax_text.proofs.reasons.wrong_under.Goals as goal

pub returns-then-leaves_ghosts : goal.returns-then-leaves_ghosts
returns-then-leaves_ghosts g c =
    subst (λ (i : IndexProtocol). IfOk c.wrong_leaving.result (λ line. IfSome line (λ it. IsWrongLine i (string_bytes it))))
    (is_leaving (g.P.IndexProtocol.index c.args.protocol.now) _ _ (g.met.P.IndexProtocol.has_tables c.args.protocol.now) (sym c.leaves_ghosts.ensures ∙ c.if-leaves_ghosts.true)) c.wrong_leaving.ensures

pub returns-else-leaves_ghosts : goal.returns-else-leaves_ghosts
returns-else-leaves_ghosts g c =
    subst (λ (i : IndexProtocol). IfOk c.wrong_gone.result (λ line. IfSome line (λ it. IsWrongLine i (string_bytes it))))
    (is_gone (g.P.IndexProtocol.index c.args.protocol.now) _ _ (g.met.P.IndexProtocol.has_tables c.args.protocol.now) (sym c.leaves_ghosts.ensures ∙ c.if-leaves_ghosts.false)) c.wrong_gone.ensures
