use Rattle.std.proofs.Common.{◌≡◌, ℕ, ◌<◌, true}
use Rattle.kr_decide.proofs.ordered.is_at_least.Given as goal

abbrev pub invariant-loop-other : goal.invariant-loop-other
invariant-loop-other g l =
    let p = g.P.Protocol.table l.protocol in
    (k : ℕ) → k < l.other → (p.ok l.mode k ≡ true → p.ok l.lesser k ≡ true) × (p.ok k l.mode ≡ true → p.ok k l.lesser ≡ true)
