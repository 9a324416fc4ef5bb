use Rattle.std.proofs.Common.{◌≡◌, ◌++◌, drop, map, string_bytes}
use Rattle.serde_json.specs.View.{items_of}
use Rattle.serde_json.specs.Written.{items_text, compact_text}
use Rattle.kr_trace_lines.specs.Report.{conflict_data, conflicts_data}
use Rattle.kr_trace_lines.proofs.deviation_writing.write_conflicts.Given as goal

-- what is written, then the text of the rest, is the whole
abbrev pub invariant-loop-conflict : goal.invariant-loop-conflict
invariant-loop-conflict g l = string_bytes l.out ++ items_text l.later (items_of (map (conflict_data (g.P.Protocol.names l.protocol)) (drop l.conflict-index l.conflicts)))
    ≡ string_bytes l.fn.out ++ compact_text (conflicts_data (g.P.Protocol.names l.protocol) l.conflicts)
