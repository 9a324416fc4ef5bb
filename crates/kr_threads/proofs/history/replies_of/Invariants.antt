use Rattle.std.proofs.Common.{◌≡◌, map, take}
use Rattle.kr_threads.proofs.history.replies_of.Given as goal

-- the replies of the entries so far
abbrev pub invariant-loop-entry : goal.invariant-loop-entry
invariant-loop-entry l = l.replies.items ≡ map (λ e. e.reply) (take l.entry-index l.entries)
