use Rattle.std.proofs.Common.{sym}
use Rattle.kr_model.proofs.LogSteps.{logged_silent}
use Rattle.kr_machine.proofs.KeyReplies.{may_note}
use Rattle.kr_machine.proofs.noting.note_copy.Goals as goal

pub note-requires : goal.note-requires
note-requires c = may_note c.args.log.now c.args.event c.in-Some.noted c.requires.room

pub returns-in_default : goal.returns-in_default
returns-in_default c = sym (logged_silent c.args.log.now.log c.args.event c.args.reply.now (c.requires.plain c.in_default.ensures.none))
