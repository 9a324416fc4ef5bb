use Rattle.std.proofs.Common.{◌≡◌}
use Rattle.serde_json.specs.View.{members_view}
use Rattle.kr_trace_lines.specs.Reading.{are_head_names}
use Rattle.kr_trace_lines.proofs.reading.are_head_names.Given as goal

-- the names so far are those of a head
abbrev pub invariant-loop-name : goal.invariant-loop-name
invariant-loop-name l = are_head_names (members_view l.fn.members.entries) ≡ are_head_names (members_view l.name-iterator)
