-- A text without the brace in front.
use Rattle.std.specs.Prelude.{◌≡◌, ◌≢◌, ℕ, Bool, true, false, ◌==◌, List, [], ◌∷◌, refl, if◌then◌else◌}
use Rattle.std.proofs.Common.{ap, arith}
use Rattle.kr_ghost_follow.specs.Report.{behind_brace}

-- One that has none.
pub no_brace : (s : List ℕ) → ((rest : List ℕ) → s ≢ 123 ∷ rest) → s ≡ behind_brace s
no_brace [] h = refl
no_brace (c ∷ cs) h = by (c == 123) refl
  where
    by : (b : Bool) → (c == 123) ≡ b → c ∷ cs ≡ (if b then cs else c ∷ cs)
    by true e = absurd (h cs (ap (λ z. z ∷ cs) (grind (arith, e))))
    by false e = refl
