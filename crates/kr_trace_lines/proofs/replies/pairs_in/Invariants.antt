use Rattle.std.proofs.Common.{◌≡◌, drop}
use Rattle.serde_json.specs.View.{items_view}
use Rattle.kr_script.specs.Faults.{pair_of}
use Rattle.kr_trace_lines.specs.Replies.{each_of}
use Rattle.kr_trace_lines.proofs.Each.{then}
use Rattle.kr_trace_lines.proofs.replies.pairs_in.Given as goal

-- what was read so far, and then the rest
abbrev pub invariant-loop-item : goal.invariant-loop-item
invariant-loop-item l = each_of pair_of (items_view l.list) ≡ then l.pairs.items (each_of pair_of (items_view (drop l.item-index l.list)))
