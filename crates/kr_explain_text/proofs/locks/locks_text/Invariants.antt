-- what was written, and what the locks that are left will write, is what all of them write
use Rattle.std.proofs.Common.{◌≡◌, ◌++◌, drop, string_bytes}
use Rattle.kr_explain_text.specs.Spoken.{locks_behind, locks_words}
use Rattle.kr_explain_text.proofs.locks.locks_text.Given as goal

abbrev pub invariant-loop-lock : goal.invariant-loop-lock
invariant-loop-lock g l =
    let names = g.P.Protocol.names l.protocol in
    string_bytes l.out ++ locks_behind names l.before (drop l.lock-index l.locks) ≡ locks_words names l.locks
