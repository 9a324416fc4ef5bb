use Rattle.std.specs.Prelude.{◌≡◌, ◌+◌, ◌++◌, ◌∷◌, [], ℕ, List, Option, Err, length, refl, suc}
use Rattle.std.proofs.Common.{◌∙◌, ap, append-nil, arith, rules, subst, sym}
use Rattle.std.proofs.lemmas.List.{length-append}
use Rattle.kr_trace_parts.specs.Endings.{IsStopped, StopsSo}
use Rattle.kr_trace_parts.specs.Parts.{Part, after_all, at_start}
use Rattle.kr_trace_parts.proofs.OnceLaws.{commits_once}
use Rattle.kr_trace_parts.proofs.StopLaws.{given_behind, line_stops, next_stops, read_through, unreadable_stops}
use Rattle.kr_trace_parts.proofs.trace.read_on.Goals as goal

pub loop-number-init : goal.loop-number-init
loop-number-init g c =
    record {
      read = (
        [],
        (
          refl,
          (
            λ rest h. h,
            c.requires,
          ),
        ),
      );
      count = refl;
    }

pub returns-in_err-read_next-in-Ok-Some-clause-err : goal.returns-in_err-read_next-in-Ok-Some-clause-err
returns-in_err-read_next-in-Ok-Some-clause-err g c =
    let taken = g.W.Sink.taken in
    let at = c.loop-number.reading in
    let rd = c.loop-number.invariant.read in
    let front = rd.0 in
    let rest = g.L.Lines.gives c.next_line.new.self in
    let bytes = c.as_slice.result.now in
    let more = rw c.in-Ok-Some.field-0-is at c.in-Ok-Some.ensures.line in
    let given : g.L.Lines.may_give c.args.lines.now (front ++ bytes ∷ rest.0) =
    subst (λ (line : List ℕ). g.L.Lines.may_give c.args.lines.now (front ++ line ∷ rest.0)) (sym c.as_slice.ensures.value) (rd.1.1.0 (c.in-Ok-Some.bytes.items ∷ rest.0) (more rest.0 rest.1)) in
    let stops : StopsSo (IsStopped (g.A.Asks.is_printed c.args.asks.now) (g.L.Lines.may_give c.args.lines.now) c.args.word.now (taken c.args.out.now) (taken c.read_next.new.out)) c.in_err-read_next-in-Ok-Some.field-0.0 =
    line_stops g.A.Part.Part.stands_for g.A.Part.Part.asked (g.A.Asks.is_printed c.args.asks.now) (g.L.Lines.may_give c.args.lines.now) c.args.word.now front (taken c.args.out.now) (taken c.loop-number.out)
    at.ended at.is_well at.lines at.part rd.1.1.1 c.in_err-read_next-in-Ok-Some.field-0.0 bytes rest.0 c.loop-number.number (taken c.read_next.new.out) (c.read_next.new.out ≡ c.loop-number.out) (λ same. ap taken same) rd.1.0 given
    (c.in_err-read_next-in-Ok-Some.ensures.fault front (taken c.args.out.now) rd.1.0 rd.1.1.1) in
    search rules

pub returns-in-Ok-None-clause-through : goal.returns-in-Ok-None-clause-through
returns-in-Ok-None-clause-through g c =
    let taken = g.W.Sink.taken in
    let at = c.loop-number.reading in
    let rd = c.loop-number.invariant.read in
    let front = rd.0 in
    let said : Option Part = (let r = after_all at_start front in r.current) in
    let end = rw c.in-Ok-None.field-0-is at c.in-Ok-None.ensures.end in
    let given : g.L.Lines.may_give c.args.lines.now front = subst (g.L.Lines.may_give c.args.lines.now) (append-nil front) (rd.1.1.0 [] end) in
    read_through g.A.Part.Part.stands_for g.A.Part.Part.asked (g.A.Asks.is_printed c.args.asks.now) (g.L.Lines.may_give c.args.lines.now) c.args.word.now front (taken c.args.out.now) (taken c.loop-number.out)
    at.ended at.is_well at.lines at.part rd.1.1.1 (taken c.end_part.new.out) c.end_part.new.reading.ended c.end_part.new.reading.is_well given (c.in_ok-end_part-in-Ok-None.ensures.ended said rd.1.1.1.in_progress)
    (c.in_ok-end_part-in-Ok-None.ensures.written said rd.1.1.1.in_progress (commits_once front rd.1.1.1.faultless))

pub returns-in-Err-clause-err : goal.returns-in-Err-clause-err
returns-in-Err-clause-err g c =
    let taken = g.W.Sink.taken in
    let at = c.loop-number.reading in
    let rd = c.loop-number.invariant.read in
    next_stops g.A.Part.Part.stands_for g.A.Part.Part.asked (g.A.Asks.is_printed c.args.asks.now) (g.L.Lines.may_give c.args.lines.now) c.args.word.now rd.0 (taken c.args.out.now) (taken c.loop-number.out)
    at.ended at.is_well at.lines at.part rd.1.1.1 c.at_lines_fault.result c.in-Err.fault c.loop-number.number rd.1.0
    (λ e. (let l = c.next_line.ensures.long (c.in-Err.is ∙ ap (λ f. Err f) e) in (l.0, (rd.1.1.0 l.0 l.1.0, l.1.1)))) c.at_lines_fault.ensures.line

pub loop-number-preserved : goal.loop-number-preserved
loop-number-preserved g c =
    let taken = g.W.Sink.taken in
    let rd = c.loop-number.invariant.read in
    let front = rd.0 in
    let bytes = c.as_slice.result.now in
    let more = rw c.in-Ok-Some.field-0-is at c.in-Ok-Some.ensures.line in
    let number : c.loop-number.number ≡ suc (length front) = rd.1.0 in
    let longer : length (front ++ bytes ∷ []) ≡ length front + 1 = length-append front (bytes ∷ []) in
    record {
      read = (
        front ++ bytes ∷ [],
        (
          omega (arith, number, longer),
          (
            given_behind (g.L.Lines.may_give c.args.lines.now) (g.L.Lines.may_give c.loop-number.lines) (g.L.Lines.may_give c.next_line.new.self) front bytes rd.1.1.0
                (λ rest h. subst (λ (line : List ℕ). g.L.Lines.may_give c.loop-number.lines (line ∷ rest)) (sym c.as_slice.ensures.value) (more rest h)),
            c.in_ok-read_next-in-Ok-Some.ensures.read front (taken c.args.out.now) rd.1.0 rd.1.1.1,
          ),
        ),
      );
      count = c.in_ok-read_next-in-Ok-Some.ensures.count ∙ c.loop-number.invariant.count;
    }

pub returns-clause-err : goal.returns-clause-err
returns-clause-err g c =
    let taken = g.W.Sink.taken in
    let at = c.loop-number.reading in
    let rd = c.loop-number.invariant.read in
    unreadable_stops g.A.Part.Part.stands_for g.A.Part.Part.asked (g.A.Asks.is_printed c.args.asks.now) (g.L.Lines.may_give c.args.lines.now) c.args.word.now rd.0 (taken c.args.out.now) (taken c.loop-number.out)
    at.ended at.is_well at.lines at.part rd.1.1.1 c.unreadable.result c.unreadable.ensures.line
