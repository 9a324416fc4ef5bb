use Rattle.std.proofs.Common.{sym, ap, refl, subst}
use Rattle.std.specs.Prelude.{IsSome}
use Rattle.kr_trace_follow.specs.Since.{notes_in}
use Rattle.kr_trace_follow.proofs.Notes.{noted_more}
use Rattle.kr_trace_follow.proofs.since.add_again.Goals as goal

pub returns-in-Some-clause-added : goal.returns-in-Some-clause-added
returns-in-Some-clause-added c = λ there.
    noted_more c.args.notes.now (c.get_mut.follows.lender c.push.new.self) c.args.txn c.args.name c.args.line c.push.new.self c.in-Some.list.now.items
    (sym (ap notes_in c.in-Some.ensures.value)) c.in_ok-push.ensures.items ((c.get_mut.follows.holds c.push.new.self).3 (subst IsSome c.in-Some.ensures.value refl)).0
