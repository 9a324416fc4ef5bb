use Rattle.std.proofs.Common.{◌≡◌, ap, sym, subst, ◌∙◌, map}
use Rattle.std.specs.Io.KnownBytes.{Appends}
use Rattle.std.specs.List.{list_all}
use Rattle.kr_judge.proofs.SafeRuns.{safe_programs, covered_programs}
use Rattle.kr_cli_tasks.specs.Judges.{is_serial, lines, reports_of, judge_lines, verdicts_on}
use Rattle.kr_cli_tasks.proofs.Serials.{all_serial, all_told, all_named, as_many_verdicts}
use Rattle.kr_cli_tasks.proofs.judges.judge_over.Goals as goal

-- There is a verdict for each name.
pub lines_of-requires : goal.lines_of-requires
lines_of-requires g c =
    let p = g.P.Protocol.table c.args.protocol.now in
    let may_be = g.T.Texts.may_be c.args.texts.now in
    let (ss, (are, told)) = c.in_ok-verdicts.ensures.ok in
    as_many_verdicts (λ n. n.now) p may_be c.args.names.now ss c.as_slice.result.now are (c.as_slice.ensures.value ∙ told)

-- The lines are those of the verdicts on the scripts, and so is what was tested.
pub returns-clause-ok : goal.returns-clause-ok
returns-clause-ok g c =
    let p = g.P.Protocol.table c.args.protocol.now in
    let taken = g.W.Sink.taken in
    let names = map (λ n. n.now) c.args.names.now in
    let (ss, (are, told)) = c.in_ok-verdicts.ensures.ok in
    let said : c.are_serial.result ≡ list_all is_serial (verdicts_on p ss) = c.are_serial.ensures ∙ ap (list_all is_serial) (c.as_slice-2.ensures.value ∙ told) in
    let text : c.as_bytes.result.now ≡ judge_lines p names ss = c.as_bytes.ensures.value ∙ c.in_ok-text.ensures ∙ ap (λ vs. lines (reports_of names vs)) (c.as_slice.ensures.value ∙ told) in
    let written = subst (Appends (taken c.args.out.now) (taken c.put_all.new.out)) text c.in_ok-put_all.ensures.ok in
    (ss, (are, (written, (λ t. all_serial p ss (sym said ∙ t), λ h. said ∙ all_told p ss h))))

-- Under a safe protocol each run is serializable, so they are told to be.
pub returns-clause-safe : goal.returns-clause-safe
returns-clause-safe g c safe =
    let p = g.P.Protocol.table c.args.protocol.now in
    let may_be = g.T.Texts.may_be c.args.texts.now in
    let names = map (λ n. n.now) c.args.names.now in
    let (ss, (are, told)) = c.in_ok-verdicts.ensures.ok in
    let said : c.are_serial.result ≡ list_all is_serial (verdicts_on p ss) = c.are_serial.ensures ∙ ap (list_all is_serial) (c.as_slice-2.ensures.value ∙ told) in
    said ∙ all_told p ss (all_named p (λ s rising. safe_programs p c.lemma_lawful.ensures safe s.opening s.steps rising) may_be names ss are)

-- So they are under a covered one.
pub returns-clause-covered : goal.returns-clause-covered
returns-clause-covered g c covered =
    let p = g.P.Protocol.table c.args.protocol.now in
    let may_be = g.T.Texts.may_be c.args.texts.now in
    let names = map (λ n. n.now) c.args.names.now in
    let (ss, (are, told)) = c.in_ok-verdicts.ensures.ok in
    let said : c.are_serial.result ≡ list_all is_serial (verdicts_on p ss) = c.are_serial.ensures ∙ ap (list_all is_serial) (c.as_slice-2.ensures.value ∙ told) in
    said ∙ all_told p ss (all_named p (λ s rising. covered_programs p c.lemma_lawful.ensures covered s.opening s.steps rising) may_be names ss are)
