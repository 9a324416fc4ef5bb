use Rattle.std.proofs.Common.{◌≡◌, [], take}
use Rattle.std.specs.Prelude.{All}
use Rattle.kr_workers.specs.Dealt.{hand_in}
use Rattle.kr_workers.proofs.undoing.are_empty.Given as goal

-- The transactions so far have nothing left.
abbrev pub invariant-loop-txn : goal.invariant-loop-txn
invariant-loop-txn l = All (λ t. hand_in l.hands t ≡ []) (take l.txn-index l.txns)
