-- A text that was put together of pieces, by what the pieces are.
use Rattle.std.specs.Prelude.{◌≡◌, ℕ, List, ◌++◌, Result, Ok, Err, IfOk, String, string_bytes}
use Rattle.std.proofs.Common.{Global, ap, ◌∙◌}

-- a text of these bytes, which are those
pub same_text : {E : Type 0} (r : Result (String Global) E) (made told : List ℕ) → made ≡ told → IfOk r (λ text. string_bytes text ≡ made) → IfOk r (λ text. string_bytes text ≡ told)
same_text (Ok text) made told same is = is ∙ same
same_text (Err e) made told same is = tt

-- two pieces and what stands behind them
pub two : (a x b y c : List ℕ) → a ≡ x → b ≡ y → a ++ (b ++ c) ≡ x ++ (y ++ c)
two a x b y c first second = ap (λ (z : List ℕ). z ++ (b ++ c)) first ∙ ap (λ (z : List ℕ). x ++ (z ++ c)) second

-- two pieces, and a third behind something
pub three : (a x b y between c z end : List ℕ) → a ≡ x → b ≡ y → c ≡ z → a ++ (b ++ (between ++ (c ++ end))) ≡ x ++ (y ++ (between ++ (z ++ end)))
three a x b y between c z end first second third =
    two a x b y (between ++ (c ++ end)) first second ∙ ap (λ (t : List ℕ). x ++ (y ++ (between ++ (t ++ end)))) third

-- four pieces, each behind something
pub four : (a b c d e s x t y u v z w : List ℕ) → s ≡ x → t ≡ y → u ≡ v → z ≡ w → a ++ (s ++ (b ++ (t ++ (c ++ (u ++ (d ++ (z ++ e))))))) ≡ a ++ (x ++ (b ++ (y ++ (c ++ (v ++ (d ++ (w ++ e)))))))
four a b c d e s x t y u v z w first second third fourth =
    ap (λ (k : List ℕ). a ++ (k ++ (b ++ (t ++ (c ++ (u ++ (d ++ (z ++ e)))))))) first
    ∙ (ap (λ (k : List ℕ). a ++ (x ++ (b ++ (k ++ (c ++ (u ++ (d ++ (z ++ e)))))))) second
    ∙ (ap (λ (k : List ℕ). a ++ (x ++ (b ++ (y ++ (c ++ (k ++ (d ++ (z ++ e)))))))) third
    ∙ ap (λ (k : List ℕ). a ++ (x ++ (b ++ (y ++ (c ++ (v ++ (d ++ (k ++ e)))))))) fourth))

-- five pieces, one behind another
pub five : (a x b y c z d u e v : List ℕ) → a ≡ x → b ≡ y → c ≡ z → d ≡ u → e ≡ v → a ++ (b ++ (c ++ (d ++ e))) ≡ x ++ (y ++ (z ++ (u ++ v)))
five a x b y c z d u e v first second third fourth fifth =
    two a x b y (c ++ (d ++ e)) first second
    ∙ (ap (λ (k : List ℕ). x ++ (y ++ k)) (two c z d u e third fourth)
    ∙ ap (λ (k : List ℕ). x ++ (y ++ (z ++ (u ++ k)))) fifth)
