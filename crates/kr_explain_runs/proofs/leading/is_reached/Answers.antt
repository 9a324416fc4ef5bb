use Rattle.std.proofs.lemmas.Result.{IfOk-weaker}
use Rattle.kr_explain_runs.proofs.leading.is_reached.Goals as goal

-- the script that leads there
pub returns : goal.returns
returns g c = IfOk-weaker c.leads.result _ _ (λ is does yes. ∣ (_, (_, does yes)) ∣₁) c.leads.ensures
