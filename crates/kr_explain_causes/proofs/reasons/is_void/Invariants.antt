use Rattle.std.specs.Prelude.{◌≡◌, ◌<◌, ℕ, true}
use Rattle.kr_explain_causes.proofs.reasons.is_void.Given as goal

-- the request is compatible with each mode so far
abbrev pub invariant-loop-held : goal.invariant-loop-held
invariant-loop-held g l = (m : ℕ) → 0 < m → m < l.held → (g.P.Protocol.table l.protocol).ok l.requested m ≡ true
