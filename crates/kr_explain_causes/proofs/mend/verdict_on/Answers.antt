use Rattle.std.proofs.Common.{◌≡◌, ◌∙◌, subst, refl, true, false}
use Rattle.kr_cases.specs.Told.{Tells}
use Rattle.kr_explain_causes.specs.Mends.{AreMended}
use Rattle.kr_explain_causes.proofs.mend.verdict_on.Goals as goal

-- the checker accepts it
pub returns-in-Ok : goal.returns-in-Ok
returns-in-Ok g c = c.in-Ok.ensures.exactly.0 refl

-- the decision calls it safe
pub returns-then-branch : goal.returns-then-branch
returns-then-branch g c = (λ h. let refused : false ≡ true = c.in-Err.ensures.exactly.1 h in cc, c.in_ok-is_made_safe-in-Failed.ensures c.if-branch.true)

-- the cases hold that had to be mended
pub returns-then-are_mended : goal.returns-then-are_mended
returns-then-are_mended g c =
    let told = subst (Tells (g.P.Protocol.table c.args.table.now)) c.in-Failed.is c.in-Err.ensures.cause in
    let after = c.deref.ensures.value ∙ told in
    (λ h. let refused : false ≡ true = c.in-Err.ensures.exactly.1 h in cc, subst (AreMended c.args.cases.now c.args.failed.now) after (c.are_mended.ensures c.if-are_mended.true))
