-- Own modes in order, as far as a loop has counted.
use Rattle.std.proofs.Common.{◌≡◌, ℕ, zero, suc, ◌+◌, ◌-◌, ◌≤◌, [], ◌∷◌, ◌++◌, refl, ap, arith}
use Rattle.kr_model.specs.Protocol.{Protocol}
use Rattle.kr_model.specs.Covers.{count_up}
use Rattle.kr_model.proofs.Guarantees.{In, in_modes, in_modes_or_none}
use Rattle.kr_cases.proofs.Counted.{count_up-more, all_modes}
use Rattle.kr_ghost_check.specs.Groups.{modes_from}

-- the numbers from f below m, and m
pub from-more : (f m : ℕ) → f ≤ m → count_up f (m + 1 - f) ≡ count_up f (m - f) ++ m ∷ []
from-more f m le =
    let e = count_up-more f (m - f) in
    let more : m + 1 - f ≡ m - f + 1 = omega arith in
    let last : f + (m - f) ≡ m = omega arith in
    rw (more, e, last) refl

-- all own modes are counted
pub all_counted : (p : Protocol) (f k : ℕ) → f ≤ 1 → k ≡ p.count + 1 → count_up f (k - f) ≡ modes_from p f
all_counted p zero k le e = let same : k - zero ≡ suc p.count = omega arith in ap (count_up 0) same
all_counted p (suc zero) k le e = all_modes p k e
all_counted p (suc (suc f)) k le e = absurd (omega arith)

-- each of them stands among those
pub in_modes_from : (p : Protocol) (f m : ℕ) → f ≤ m → m ≤ p.count → In m (modes_from p f)
in_modes_from p zero m low le = in_modes_or_none p m le
in_modes_from p (suc f) m low le = in_modes p m (record { some = omega arith; in_range = le })
