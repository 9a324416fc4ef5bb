use Rattle.std.proofs.Common.{◌≡◌, ◌+◌, ◌∙◌, ap, subst, sym, length, false, rules}
use Rattle.kr_model.specs.Locks.{add_once}
use Rattle.kr_trace_lines.specs.Parts.{AreAmong, PartLines, has}
use Rattle.kr_trace_lines.proofs.Distinct.{commit_kept}
use Rattle.kr_trace_lines.proofs.parts.PartLines.note_commit.Goals as goal

pub invariant_of-self-2 : goal.invariant_of-self-2
invariant_of-self-2 c =
    let before = c.self.inside in
    let t = c.args.txn in
    let cs = before.committed.numbers in
    let es = before.ended.numbers in
    let is_new : has es t ≡ false = ap (λ (v : PartLines). has v.ended t) c.self.view_is ∙ c.requires in
    let kept = commit_kept before.commits cs es t c.self.invariant.0 c.self.invariant.1 is_new in
    let one_more : c.in_ok-commits.commits ≡ before.commits + 1 = search rules in
    let ended = c.add.ensures.numbers ∙ ap (add_once t) c.in_ok-make_room.ensures.numbers in
    let committed = c.add-2.ensures.numbers ∙ ap (add_once t) c.in_ok-make_room-2.ensures.numbers in
    (one_more ∙ kept.0 ∙ ap length (sym committed), subst (λ xs. AreAmong c.add-2.new.self.numbers xs) (sym ended) (subst (λ xs. AreAmong xs (add_once t es)) (sym committed) kept.1))
