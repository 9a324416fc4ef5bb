use Rattle.std.proofs.Common.{◌∙◌, ap, subst, sym}
use Rattle.kr_model.specs.Locks.{add_once}
use Rattle.kr_trace_lines.specs.Parts.{AreAmong}
use Rattle.kr_trace_lines.proofs.Distinct.{end_kept}
use Rattle.kr_trace_lines.proofs.parts.PartLines.note_end.Goals as goal

pub invariant_of-self-2 : goal.invariant_of-self-2
invariant_of-self-2 c =
    let before = c.self.inside in
    let kept = end_kept before.commits before.committed.numbers before.ended.numbers c.args.txn c.self.invariant.0 c.self.invariant.1 in
    let ended = c.add.ensures.numbers ∙ ap (add_once c.args.txn) c.in_ok-make_room.ensures.numbers in
    (kept.0, subst (AreAmong before.committed.numbers) (sym ended) kept.1)
