-- What a step requests is in modes of the table.
use Rattle.std.specs.Prelude.{◌≡◌, ℕ, Option, Some, None, option_map}
use Rattle.std.proofs.Common.{sym, subst}
use Rattle.kr_model.specs.declared.Plan.{Plan}
use Rattle.kr_model.specs.declared.Step.{Step}
use Rattle.kr_model.specs.Protocol.{Protocol, IsLawful}
use Rattle.kr_model.specs.Plan.{plan_of, access_of}
use Rattle.kr_model.specs.State.{State}
use Rattle.kr_model.specs.WellFormed.{IsState}
use Rattle.kr_plan.specs.Modes.{ArePlanModes}
use Rattle.kr_plan.proofs.PlanModes.{modes_by}

-- What both sides of a plan request are modes.
pub plan_modes : (p : Protocol) → IsLawful p → (s : State) (t : ℕ) (x : Option Step) (plan : Plan) → IsState p s → Some plan ≡ option_map (plan_of p s.map s.locks t) x → ArePlanModes p.count plan
plan_modes p laws s t None plan is e = absurd (cc)
plan_modes p laws s t (Some a) plan is e =
    let same : plan ≡ plan_of p s.map s.locks t a = cc in
    subst (λ (z : Plan). ArePlanModes p.count z) (sym same) (modes_by p s.locks t (access_of s.map a) laws is.within)
