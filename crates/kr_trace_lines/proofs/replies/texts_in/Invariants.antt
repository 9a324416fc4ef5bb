use Rattle.std.proofs.Common.{◌≡◌, drop, map, string_bytes}
use Rattle.serde_json.specs.View.{items_view}
use Rattle.serde_json.specs.Find.{as_str}
use Rattle.kr_trace_lines.specs.Replies.{each_of}
use Rattle.kr_trace_lines.proofs.Each.{then}
use Rattle.kr_trace_lines.proofs.replies.texts_in.Given as goal

-- what was read so far, and then the rest
abbrev pub invariant-loop-item : goal.invariant-loop-item
invariant-loop-item l = each_of as_str (items_view l.list) ≡ then (map string_bytes l.texts.items) (each_of as_str (items_view (drop l.item-index l.list)))
