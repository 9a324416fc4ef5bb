-- the transactions so far
use Rattle.std.proofs.Common.{◌≡◌, map, take}
use Rattle.kr_explain_text.proofs.programs.committed.Given as goal

abbrev pub invariant-loop-program : goal.invariant-loop-program
invariant-loop-program l = l.txns.items ≡ map (λ p. p.txn) (take l.program-index l.programs)
