-- The modes of the twin that are held in a run: none, I, K and X, of which no two are compatible.
use Rattle.std.proofs.Common.{ℕ, ◌≡◌, ◌≢◌, ◌<◌, ◌≤◌, ⊎_elim, arith, false, subst}
use Rattle.std.proofs.lemmas.Bool.{cases_eq}
use Rattle.std.proofs.lemmas.Bool.Decides.{nat_tests}
use Rattle.kr_theorem.specs.Unreached.{I, X, only_beside_weak}
use Rattle.kr_theorem.proofs.unreached.Unsafe.{twin_after}

-- What is converted stays among them, and is some mode.
pub after_within : (h q : ℕ) → h ≤ X → q ≤ X → twin_after h q ≤ X
after_within h q a b = grind (arith, nat_tests)

pub after_some : (h q : ℕ) → 0 < q → 0 < twin_after h q
after_some h q a = grind (arith, nat_tests)

-- It is I only where nothing was held and I is requested.
pub after_I : (h q : ℕ) → 0 < q → twin_after h q ≡ I → q ≡ I
after_I h q a e = grind (arith, nat_tests)

-- K and X stay above I.
pub after_above : (h q : ℕ) → 0 < q → I < h → I < twin_after h q
after_above h q a b = grind (arith, nat_tests)

-- And a request in K or X leaves a mode above I.
pub above_after : (h q : ℕ) → I < q → I < twin_after h q
above_after h q a = grind (arith, nat_tests)

-- No two of them are compatible.
pub conflict : (m h : ℕ) → 0 < m → m ≤ X → 0 < h → h ≤ X → only_beside_weak m h ≡ false
conflict m h a b c d = grind (arith, nat_tests)

-- Where one holds K or X and nobody else holds a lock, nobody holds I.
pub none_beside : (holds : ℕ → ℕ) (t u : ℕ) → (u ≢ t → 0 < holds t → holds u ≡ 0) → I < holds t → holds u ≡ I → ⊥
none_beside holds t u alone above is = ⊎_elim
    (λ e. let here = subst (λ v. holds v ≡ I) e is in omega (arith, here, above))
    (λ other. let none = alone other (omega (arith, above)) in omega (arith, none, is))
    (cases_eq u t)
