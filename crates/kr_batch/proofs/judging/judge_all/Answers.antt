use Rattle.std.proofs.Common.{ap, ◌∙◌, ◌≡◌, IfOk}
use Rattle.rayon.proofs.ToStd.{slice-AllZip}
use Rattle.kr_script.specs.Script.{Script}
use Rattle.kr_judge.specs.declared.verdict.Verdict.{Verdict}
use Rattle.kr_judge.specs.Verdicts.{verdict_of_run}
use Rattle.kr_batch.proofs.Collected.{collected}
use Rattle.kr_batch.proofs.judging.judge_all.Goals as goal

pub returns : goal.returns
returns g c =
    let f : Script → Verdict = λ s. verdict_of_run (g.P.Protocol.table c.map.result.f.1.now) s.opening s.steps in
    let slice = ap (λ it. it.slice.now) (ap (λ it. it.base) c.map.ensures.base ∙ c.with_min_len.ensures.base) ∙ c.par_iter.ensures in
    let (rs, chain, made) = c.in_ok-judged.ensures in
    let zipped = slice-AllZip chain.0 c.args.scripts.now (chain.1 ∙ slice) (λ s r. IfOk r (λ v. v ≡ f s)) rs chain.2 in
    let all = collected f c.args.scripts.now rs c.in_ok-judged.judged made zipped in
    rw c.map.ensures.f at all
