use Rattle.std.proofs.Common.{map, ap, sym, subst, ◌∙◌}
use Rattle.std.specs.Prelude.{IsTrue}
use Rattle.std.specs.List.{AllZip}
use Rattle.kr_model.specs.Covers.{IsCovered}
use Rattle.std.proofs.lemmas.Result.{IfOk-weaker, IfErr-weaker}
use Rattle.rayon.proofs.ToStd.{slice-AllZip}
use Rattle.rayon.proofs.ListFacts.{AllZip-through}
use Rattle.kr_batch.specs.Names.{Judges}
use Rattle.kr_batch.proofs.Names.{all_judged, first_told}
use Rattle.kr_batch.proofs.named.judge_texts.Goals as goal

pub returns : goal.returns
returns g c =
    let p = g.P.Protocol.table c.args.protocol.now in
    let may_be = g.T.Texts.may_be c.args.texts.now in
    let names = map (λ n. n.now) c.args.names.now in
    let (rs, chain, made) = c.in_ok-judged.ensures in
    let slice = ap (λ it. it.slice.now) (ap (λ it. it.base) c.map.ensures.base ∙ c.with_min_len.ensures.base) ∙ c.par_iter.ensures in
    let may_pass : Type 0 = IsTrue c.is_ok-is_covered.result → IsCovered p in
    let passes : may_pass = λ is. c.check.ensures.exactly.0 (sym c.is_ok-is_covered.ensures.value ∙ is) in
    let zipped = slice-AllZip chain.0 c.args.names.now (chain.1 ∙ slice) (λ n r. may_pass → Judges p may_be n.now r) rs (rw c.map.ensures.f at chain.2) in
    let through = AllZip-through (λ n. n.now) (λ n r. may_pass → Judges p may_be n.now r) (Judges p may_be) (λ n r h. h passes) c.args.names.now rs zipped in
    let are : AllZip (Judges p may_be) names c.in_ok-judged.judged.items = subst (AllZip (Judges p may_be) names) (sym made) through in
    record {
      ok = IfOk-weaker c.verdicts_or_first.result _ _ (λ v h. all_judged p may_be names v.items (subst (AllZip (Judges p may_be) names) h are)) c.verdicts_or_first.ensures.ok;
      err = IfErr-weaker c.verdicts_or_first.result _ _ (λ e h. first_told p may_be names c.in_ok-judged.judged.items e are h) c.verdicts_or_first.ensures.err;
    }
