use Rattle.std.proofs.Common.{◌≡◌, Ok, sym, refl, subst}
use Rattle.kr_model.specs.State.{start}
use Rattle.kr_model.specs.Run.{run, programs}
use Rattle.kr_judge.specs.Verdicts.{verdict_of_run}
use Rattle.kr_judge.specs.declared.verdict.Verdict.{Verdict}
use Rattle.kr_judge.specs.declared.verdict.Verdict.TheVariants.{Serial}
use Rattle.kr_judge.proofs.Wholes.{serial_exactly}
use Rattle.kr_judge.proofs.SafeRuns.{covered_programs}
use Rattle.kr_script.specs.Script.{IsScript}
use Rattle.kr_script.specs.Reading.{reading}
use Rattle.kr_batch.proofs.named.verdict_on_text.Goals as goal

pub returns-then-is_covered : goal.returns-then-is_covered
returns-then-is_covered g c covered =
    let p = g.P.Protocol.table c.args.protocol.now in
    let s = c.in_ok-script.script in
    let is : IsScript s = subst IsScript c.script.view_is c.script.invariant in
    let v : Verdict = verdict_of_run p s.opening s.steps in
    let serial : v ≡ Serial = (serial_exactly v s.opening (programs (run p (start s.opening) s.steps).history) refl).1 (covered_programs p (g.met.P.Protocol.lawful c.args.protocol.now) (covered c.if-is_covered.true) s.opening s.steps is.rising) in
    (s, ((is, (c.in_ok-text.text.items, (c.in_ok-text.ensures.found, subst (λ t. reading t ≡ Ok s) c.as_slice.ensures.value c.in_ok-script.ensures.reads))), sym serial))
