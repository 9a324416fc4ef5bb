use Rattle.std.proofs.Common.{ℕ, ◌<◌, true, IsTrue}
use Rattle.kr_alike.specs.Marks.{is_met, plain_ask}
use Rattle.kr_alike.specs.Growth.{IsPassed}
use Rattle.kr_alike.proofs.found.Found.follow_plain.Given as goal

abbrev pub invariant-loop-number : goal.invariant-loop-number
invariant-loop-number g l =
    let p = g.P.Protocol.table l.first in
    let q = g.Q.Protocol.table l.second in
    let w = l.coming in
    IsPassed p q w (λ m. (k : ℕ) → k < l.number → IsTrue (is_met p q w m (plain_ask l.own l.other k))) l.fn.self l.self true
