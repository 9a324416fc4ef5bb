use Rattle.std.proofs.Common.{◌≡◌, [], ◌∷◌, sym, subst}
use Rattle.kr_locks.proofs.BucketLaws.{is_in}
use Rattle.kr_locks.proofs.NotedLaws.{in_last, still_noted, now_noted}
use mathlib.Core.Bool.{false≢true}
use Rattle.std.proofs.Common.{true, ◌++◌}
use Rattle.kr_locks.proofs.buckets.note_first.Goals as goal

pub returns-clause-kept : goal.returns-clause-kept
returns-clause-kept c t n here = still_noted c.args.held.now c.insert.new.self c.args.txn c.push.new.self c.in_ok-insert.ensures.updates.0 (λ x h. absurd (false≢true (subst (λ l. is_in x l ≡ true) c.requires h))) t n here

pub returns-clause-noted : goal.returns-clause-noted
returns-clause-noted c = now_noted c.args.held.now c.insert.new.self c.args.txn c.push.new.self c.in_ok-insert.ensures.updates.0 c.args.name (subst (λ l. is_in c.args.name l ≡ true) (sym c.in_ok-push.ensures.items) (subst (λ l. is_in c.args.name (l ++ c.args.name ∷ []) ≡ true) (sym c.new-list.ensures.items) (in_last c.args.name [])))
