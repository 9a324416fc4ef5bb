use Rattle.std.proofs.Common.{◌∙◌, ◌++◌, ◌∷◌, [], ap, map, string_bytes, sym}
use Rattle.std.proofs.lemmas.List.{map-append}
use Rattle.serde_json.specs.Find.{as_str}
use Rattle.kr_trace_lines.proofs.Each.{values-end, values-more, values-not}
use Rattle.kr_trace_lines.proofs.replies.texts_in.Goals as goal

pub loop-item-preserved : goal.loop-item-preserved
loop-item-preserved c =
    let done = c.loop-item.texts.items in
    values-more as_str c.args.list.now c.loop-item.item-index (map string_bytes done) c.loop-item.invariant c.item-item.result c.item-item.result (map string_bytes c.push.new.self.items) c.in-Some.text.now
    c.loop-item-test.true c.item-item.is (sym c.in-Some.ensures)
    (ap (map string_bytes) c.in_ok-push.ensures.items ∙ (map-append string_bytes done (c.in_ok-text.text ∷ []) ∙ ap (λ b. map string_bytes done ++ b ∷ []) c.in_ok-text.ensures.ok))

pub returns-in_default : goal.returns-in_default
returns-in_default c =
    sym (values-not as_str c.args.list.now c.loop-item.item-index (map string_bytes c.loop-item.texts.items) c.loop-item.invariant c.item-item.result c.item-item.result
    c.loop-item-test.true c.item-item.is (sym c.in_default.ensures))

pub returns : goal.returns
returns c = sym (values-end as_str c.args.list.now c.loop-item.item-index (map string_bytes c.loop-item.texts.items) c.loop-item.invariant c.loop-item-test.false)
