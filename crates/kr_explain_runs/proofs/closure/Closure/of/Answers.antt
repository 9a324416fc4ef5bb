use Rattle.std.proofs.Common.{◌∙◌, subst}
use Rattle.kr_explain_runs.proofs.Reaching.{AreReached}
use Rattle.kr_explain_runs.proofs.closure.Closure.of.Goals as goal

-- the closure that was made is of the same table
pub returns : goal.returns
returns g c = subst (λ p. AreReached (g.P.Protocol.table p) c.grow-2.new.self.reached.items) (c.grow-2.ensures ∙ c.raise.ensures ∙ c.grow.ensures ∙ c.begin.ensures ∙ c.in_ok-growing.ensures) c.grow-2.new.self.are_reached
