use Rattle.std.proofs.Common.{◌≡◌, ◌∙◌, subst}
use Rattle.kr_model.specs.Log.{logged}
use Rattle.kr_records.specs.declared.name.Entry.{Entry}
use Rattle.kr_records.proofs.Histories.{log_next}
use Rattle.kr_records.proofs.closing.programs_of.Goals as goal

pub loop-entry-preserved : goal.loop-entry-preserved
loop-entry-preserved c =
    let x : Entry = c.entry-item.result in
    let old = c.loop-entry.log.log in
    let new = c.note.new.self.log in
    let noted : new ≡ logged old (x.event, x.reply) = c.note.ensures ∙ (λ i. logged (c.make_room.ensures.log i) (x.event, c.in_ok-try_copy.ensures i)) in
    log_next c.args.entries.now c.loop-entry.entry-index x c.loop-entry-test.true old new c.loop-entry.invariant (subst (λ (y : Entry). new ≡ logged old (y.event, y.reply)) c.entry-item.is noted)
