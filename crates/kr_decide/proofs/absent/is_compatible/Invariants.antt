use Rattle.std.proofs.Common.{◌≡◌, ℕ, ◌<◌, true}
use Rattle.kr_decide.proofs.absent.is_compatible.Given as goal

abbrev pub invariant-loop-held : goal.invariant-loop-held
invariant-loop-held g l =
    let p = g.P.Protocol.table l.protocol in
    (h : ℕ) → 0 < h → h < l.held → p.ok l.mode h ≡ true → ⊥
