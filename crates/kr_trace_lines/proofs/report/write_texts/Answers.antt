use Rattle.std.proofs.Common.{◌∙◌, ◌++◌, ap, map, refl, string_bytes}
use Rattle.serde_json.specs.Data.{string}
use Rattle.serde_json.specs.View.{items_of}
use Rattle.serde_json.specs.Written.{compact_text}
use Rattle.kr_trace_lines.proofs.Each.{items-more}
use Rattle.kr_trace_lines.proofs.report.write_texts.Goals as goal

pub loop-text-preserved : goal.loop-text-preserved
loop-text-preserved c =
    let laid = string_bytes c.push_str-in-loop-text.new.self in
    items-more (λ ts. items_of (map string (map string_bytes ts))) (λ t. string (string_bytes t)) (λ t ts. refl) c.args.texts.now c.loop-text.text-index c.text-item.result c.text-item.result c.loop-text.later
    (string_bytes c.loop-text.out) laid (string_bytes c.push_str-in-loop-text-2.new.self) _
    c.loop-text-test.true c.text-item.is c.loop-text.invariant
    (c.in_ok-push_str-2.ensures.bytes ∙ ap (λ l. string_bytes c.loop-text.out ++ l) c.separator.ensures)
    (c.in_ok-push_str-3.ensures.bytes ∙ ap (λ l. laid ++ l) (c.as_str-in-loop-text.ensures.value ∙ (c.in_ok-written.ensures ∙ ap (λ l. compact_text (string l)) c.as_str.ensures.value)))
