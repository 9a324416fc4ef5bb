use Rattle.std.specs.Prelude.{◌≡◌, Ok, None, false}
use Rattle.std.proofs.Common.{◌∙◌, subst, sym}
use Rattle.kr_trace_lines.specs.Lines.{seen}
use Rattle.kr_trace_lines.specs.Parts.{PartLines, fault_behind}
use Rattle.kr_trace_lines.specs.Reading.{reading_line}
use Rattle.kr_trace_parts.specs.Lines.{is_blank}
use Rattle.kr_trace_parts.specs.Parts.{after_all, at_start}
use Rattle.kr_trace_parts.specs.Reading.{IsRead}
use Rattle.kr_trace_parts.proofs.ReadLaws.{blank_faultless, blank_read, kept_after, read_faultless}
use Rattle.kr_trace_parts.proofs.RiseLaws.{reading_rises}
use Rattle.kr_trace_parts.proofs.trace.read_next.Goals as goal

pub returns-then-is_blank-clause-read : goal.returns-then-is_blank-clause-read
returns-then-is_blank-clause-read g c front first number h =
    let blank = sym c.is_blank.ensures ∙ c.if-is_blank.true in
    blank_read g.A.Part.Part.stands_for g.A.Part.Part.asked (g.A.Asks.is_printed c.args.asks.now) front c.args.bytes.now first h.faultless
    (blank_faultless (after_all at_start front) c.args.bytes.now blank) blank
    (g.W.Sink.taken c.args.out.now) c.args.reading.now.ended c.args.reading.now.is_well c.args.reading.now.lines c.args.reading.now.part h

pub take_line-requires-clause-rising : goal.take_line-requires-clause-rising
take_line-requires-clause-rising g c = reading_rises c.args.bytes.now (seen c.in-Ok.line) c.in-Ok.ensures.reads

pub returns-in-Ok-take-clause-read : goal.returns-in-Ok-take-clause-read
returns-in-Ok-take-clause-read g c front first number h =
    let bytes = c.args.bytes.now in
    let line = seen c.in-Ok.line in
    let blank : is_blank bytes ≡ false = sym c.is_blank.ensures ∙ c.if-is_blank.false in
    let reads : reading_line bytes ≡ Ok line = c.in-Ok.ensures.reads in
    let none : fault_behind (let r = after_all at_start front in r.kept) line ≡ None = subst (λ (p : PartLines). fault_behind p line ≡ None) h.keeps c.in-Ok-take.ensures.ok in
    c.take_line.ensures.read front bytes first number blank reads (read_faultless (after_all at_start front) bytes line blank reads none)
    (subst (λ (p : PartLines). IsRead g.A.Part.Part.stands_for g.A.Part.Part.asked (g.A.Asks.is_printed c.args.asks.now) front first (g.W.Sink.taken c.args.out.now) c.args.reading.now.ended c.args.reading.now.is_well p c.args.reading.now.part) h.keeps h)
    (kept_after front bytes line c.args.reading.now.lines c.take.new.self blank reads h.keeps c.in-Ok-take.ensures.after)
