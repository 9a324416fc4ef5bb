-- The locks that a request conflicts with, as a number.
use Rattle.std.specs.Prelude.{◌≡◌, ℕ, Bool, not, ◌&&◌, nat_le, nat_lt, if◌then◌else◌}
use Rattle.std.specs.Int.{bit_at}
use Rattle.kr_model.specs.Protocol.{Protocol}

-- h is a mode, and a request in mode q conflicts with it
abbrev pub conflicts : Protocol → ℕ → ℕ → Bool
conflicts p q h = (nat_lt 0 h && nat_le h p.count) && not (p.ok q h)

-- bit h of r is set exactly where h is a mode, and a request in mode q conflicts with it
abbrev pub IsRow : Protocol → ℕ → ℕ → Type 0
IsRow p q r = (h : ℕ) → bit_at r h ≡ (if conflicts p q h then 1 else 0)
