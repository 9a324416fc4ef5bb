-- A key that is absent.
use Rattle.std.specs.Prelude.{◌≡◌, ℕ, Bool, true, false, not, ◌==◌, cond, [], ◌∷◌, Some, None, refl}
use Rattle.std.specs.Ordering.{nat_cmp, is_eq}
use Rattle.std.proofs.lemmas.Bool.Decides.{nat_tests}
use Rattle.std.proofs.Common.{◌∙◌, ap, arith}
use Rattle.kr_model.specs.Map.{Map, get, without}

untied_key : (k x : ℕ) → is_eq (nat_cmp k x) ≡ false → not (x == k) ≡ true
untied_key k x h = grind (arith, nat_tests)

-- A map without a key that is absent is the map.
pub without_absent : (m : Map) (k : ℕ) → get m k ≡ None → without m k ≡ m
without_absent [] k h = refl
without_absent (e ∷ m) k h = by (is_eq (nat_cmp k e.0)) refl h (without_absent m k)
  where
    by : (b : Bool) → is_eq (nat_cmp k e.0) ≡ b → cond b (Some e.1) (get m k) ≡ None → (get m k ≡ None → without m k ≡ m) → without (e ∷ m) k ≡ e ∷ m
    by true t h r = absurd (cc)
    by false t h r = ap (λ b. cond b (e ∷ without m k) (without m k)) (untied_key k e.0 t) ∙ ap (λ (l : Map). e ∷ l) (r h)
