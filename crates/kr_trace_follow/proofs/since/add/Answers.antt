use Rattle.std.proofs.Common.{◌≡◌, ◌∙◌, ap, false, ℕ, [], ◌∷◌, ◌++◌, List}
use Rattle.kr_model.specs.declared.Name.{Name}
use Rattle.kr_trace_follow.specs.Since.{Since, notes_in, with_note}
use Rattle.kr_trace_follow.proofs.Notes.{noted_more}
use Rattle.kr_trace_follow.proofs.since.add.Goals as goal

pub returns : goal.returns
returns c =
    let new : c.in_ok-add_again.field-0 ≡ false = c.if-branch.false in
    noted_more c.add_again.new.notes c.insert.new.self c.args.txn c.args.name c.args.line c.push.new.self [] (ap notes_in (c.in_ok-add_again.ensures.absent new))
    (c.in_ok-push.ensures.items ∙ ap (λ (xs : List (Name × ℕ)). xs ++ (c.args.name, c.args.line) ∷ []) c.new-list.ensures.items) c.in_ok-insert.ensures.updates.0
    ∙ ap (λ (f : Since). with_note f c.args.txn c.args.name c.args.line) (c.in_ok-add_again.ensures.same new)
