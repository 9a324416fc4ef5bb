use Rattle.std.proofs.Common.{ℕ, ◌<◌, true}
use Rattle.kr_alike.specs.Marks.{AreMovesMet, modes_of}
use Rattle.kr_alike.specs.Growth.{IsPassed}
use Rattle.kr_alike.proofs.found.Found.follow_all_moves.Given as goal

abbrev pub invariant-loop-code : goal.invariant-loop-code
invariant-loop-code g l =
    let p = g.P.Protocol.table l.first in
    let q = g.Q.Protocol.table l.second in
    let w = l.coming in
    IsPassed p q w (λ m. (k : ℕ) → k < l.code → AreMovesMet p q w m l.own l.other (modes_of k)) l.fn.self l.self true
