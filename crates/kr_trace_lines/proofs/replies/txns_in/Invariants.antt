use Rattle.std.proofs.Common.{◌≡◌, drop}
use Rattle.serde_json.specs.View.{items_view}
use Rattle.kr_trace_lines.specs.Replies.{txn_of}
use Rattle.kr_trace_lines.specs.Replies.{each_of}
use Rattle.kr_trace_lines.proofs.Each.{then}
use Rattle.kr_trace_lines.proofs.replies.txns_in.Given as goal

-- what was read so far, and then the rest
abbrev pub invariant-loop-item : goal.invariant-loop-item
invariant-loop-item l = each_of txn_of (items_view l.list) ≡ then l.txns.items (each_of txn_of (items_view (drop l.item-index l.list)))
