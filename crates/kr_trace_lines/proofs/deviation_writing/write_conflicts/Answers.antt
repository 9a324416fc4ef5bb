use Rattle.std.proofs.Common.{◌∙◌, ◌++◌, ap, map, refl, string_bytes}
use Rattle.serde_json.specs.View.{items_of}
use Rattle.kr_trace_lines.specs.Report.{conflict_data}
use Rattle.kr_trace_lines.proofs.Each.{items-more}
use Rattle.kr_trace_lines.proofs.deviation_writing.write_conflicts.Goals as goal

pub loop-conflict-preserved : goal.loop-conflict-preserved
loop-conflict-preserved g c =
    let shown = conflict_data (g.P.Protocol.names c.args.protocol.now) in
    items-more (λ cs. items_of (map shown cs)) shown (λ x xs. refl) c.args.conflicts.now c.loop-conflict.conflict-index _ _ c.loop-conflict.later
    (string_bytes c.loop-conflict.out) (string_bytes c.push_str-in-loop-conflict.new.self) (string_bytes c.write_conflict.new.out) _
    c.loop-conflict-test.true refl c.loop-conflict.invariant
    (c.in_ok-push_str-2.ensures.bytes ∙ ap (λ l. string_bytes c.loop-conflict.out ++ l) c.separator.ensures)
    c.in_ok-write_conflict.ensures
