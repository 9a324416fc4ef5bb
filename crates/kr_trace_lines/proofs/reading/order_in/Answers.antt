use Rattle.std.proofs.Common.{◌≡◌, ◌∙◌, sym, codes, option_and_then}
use Rattle.std.proofs.lemmas.Result.{IfOk-weaker}
use Rattle.serde_json.proofs.Views.{members_len-members_view}
use Rattle.serde_json.specs.View.{members_view, view}
use Rattle.kr_script.specs.Json.{list_in}
use Rattle.kr_trace_lines.specs.Reading.{order_in}
use Rattle.kr_trace_lines.specs.Replies.{each_of, txn_of}
use Rattle.kr_trace_lines.proofs.Values.{order_many, order_one}
use Rattle.kr_trace_lines.proofs.reading.order_in.Goals as goal

pub returns-then-len-ne1 : goal.returns-then-len-ne1
returns-then-len-ne1 c =
    let es = c.args.members.now.entries in
    sym (order_many (view c.args.value.now) (members_view es) c.len.result c.requires (members_len-members_view es ∙ sym c.len.ensures.len) c.if-len-ne1.true)

pub returns : goal.returns
returns c =
    let es = c.args.members.now.entries in
    let d = view c.args.value.now in
    let one = order_one d (members_view es) c.len.result c.requires (members_len-members_view es ∙ sym c.len.ensures.len) c.if-len-ne1.false in
    IfOk-weaker c.txns_of_order.result (λ txns. txns ≡ option_and_then (each_of txn_of) (list_in (codes "order") d)) (λ txns. txns ≡ order_in d) (λ txns e. e ∙ sym one) c.txns_of_order.ensures
