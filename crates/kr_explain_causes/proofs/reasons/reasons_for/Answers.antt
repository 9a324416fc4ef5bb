use Rattle.std.proofs.Common.{sym, subst, refl}
use Rattle.kr_explain_causes.specs.declared.blame.Blame.{Blame}
use Rattle.kr_explain_causes.specs.Blames.{IsBlamed}
use Rattle.kr_explain_causes.proofs.Three.{all_none}
use Rattle.kr_explain_causes.proofs.reasons.reasons_for.Goals as goal

-- a void place is the only reason
pub returns-in-Some : goal.returns-in-Some
returns-in-Some g c =
    let P : Blame → Type 0 = λ b. IsBlamed (g.P.Protocol.table c.args.protocol.now) b c.args.case.now in
    record {
      first = subst P (sym c.only.ensures.first) (c.in-Some.ensures c.args.case.now refl);
      others = all_none P c.only.result.others c.only.ensures.others;
    }
