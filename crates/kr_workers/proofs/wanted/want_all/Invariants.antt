use Rattle.std.proofs.Common.{take}
use Rattle.std.specs.Prelude.{◌≢◌, AllPairs}
use Rattle.kr_workers.specs.Dealt.{AreWanted}
use Rattle.kr_workers.proofs.wanted.want_all.Given as goal

-- The transactions so far have what they are to do, where each stands once.
abbrev pub invariant-loop-txn : goal.invariant-loop-txn
invariant-loop-txn l = AllPairs (λ t u. t ≢ u) l.txns → AreWanted l.faults (take l.txn-index l.txns) l.fn.hands l.hands
