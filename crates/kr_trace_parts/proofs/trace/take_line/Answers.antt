use Rattle.std.specs.Prelude.{Option, map, string_bytes}
use Rattle.std.proofs.Common.{◌∙◌}
use Rattle.kr_trace_parts.specs.Parts.{Part, after_all, at_start}
use Rattle.kr_trace_parts.proofs.OnceLaws.{commits_once}
use Rattle.kr_trace_parts.proofs.ReadLaws.{head_read, order_read, step_read}
use Rattle.kr_trace_parts.proofs.trace.take_line.Goals as goal

pub returns-in_ok-take_head-in-Head-clause-read : goal.returns-in_ok-take_head-in-Head-clause-read
returns-in_ok-take_head-in-Head-clause-read g c front bytes first number blank reads none h k =
    let taken = g.W.Sink.taken in
    let said : Option Part = (let r = after_all at_start front in r.current) in
    let once = commits_once front h.faultless in
    head_read g.A.Part.Part.stands_for g.A.Part.Part.asked (g.A.Asks.is_printed c.args.asks.now) front bytes first h.faultless none
    c.in-Head.opening (map string_bytes c.in-Head.tests.items) blank (rw c.in-Head.is at reads)
    (taken c.args.out.now) (taken c.take_head.new.out) c.args.reading.now.ended c.take_head.new.reading.ended c.args.reading.now.is_well c.take_head.new.reading.is_well
    c.take_head.new.reading.lines c.args.reading.now.part c.take_head.new.reading.part
    h (c.in_ok-take_head-in-Head.ensures.written said h.in_progress once) (c.in_ok-take_head-in-Head.ensures.ended said h.in_progress)
    c.in_ok-take_head-in-Head.ensures.part c.in_ok-take_head-in-Head.ensures.asked (c.in_ok-take_head-in-Head.ensures.lines ∙ k)

pub returns-in_ok-take_step-in-Step-clause-read : goal.returns-in_ok-take_step-in-Step-clause-read
returns-in_ok-take_step-in-Step-clause-read g c front bytes first number blank reads none h k =
    let taken = g.W.Sink.taken in
    step_read g.A.Part.Part.stands_for g.A.Part.Part.asked (g.A.Asks.is_printed c.args.asks.now) front bytes first h.faultless none
    c.args.number c.in-Step.event c.in-Step.observed number blank (rw c.in-Step.is at reads)
    (taken c.args.out.now) c.args.reading.now.ended c.args.reading.now.is_well c.args.reading.now.lines c.args.reading.now.part c.take_step.new.part
    h c.in_ok-take_step-in-Step.ensures.part c.in_ok-take_step-in-Step.ensures.asked k

pub returns-in-Order-clause-read : goal.returns-in-Order-clause-read
returns-in-Order-clause-read g c front bytes first number blank reads none h k =
    let taken = g.W.Sink.taken in
    order_read g.A.Part.Part.stands_for g.A.Part.Part.asked (g.A.Asks.is_printed c.args.asks.now) front bytes first h.faultless none
    c.in-Order.txns blank (rw c.in-Order.is at reads)
    (taken c.args.out.now) c.args.reading.now.ended c.args.reading.now.is_well c.args.reading.now.lines c.args.reading.now.part c.take_order.new.part
    h c.take_order.ensures.part c.take_order.ensures.asked k
