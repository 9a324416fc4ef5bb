-- Pieces of a text, one for each of some numbers, as a loop writes them.
use Rattle.std.proofs.Common.{◌≡◌, ℕ, ◌+◌, ◌-◌, ◌<◌, List, [], ◌∷◌, ◌++◌, Bool, if◌then◌else◌, length, take, get_or, ap, subst, sym, ◌∙◌}
use Rattle.std.specs.List.{filter, flat_map}
use Rattle.std.proofs.lemmas.List.{flat_map_more, take_more}
use Rattle.std.proofs.lemmas.List.Elements.{filter-append}
use Rattle.kr_model.specs.Protocol.{Protocol}
use Rattle.kr_model.specs.Covers.{count_up, modes, modes_or_none}
use Rattle.kr_cases.proofs.Counted.{below-more, before-more, all_modes, all_modes_or_none}

-- one piece more
more : {A : Type 0} (f : A → List ℕ) (before after : List A) (x : A) (out piece shown new : List ℕ) → after ≡ before ++ x ∷ [] → out ≡ flat_map f before → shown ≡ piece → piece ≡ f x → new ≡ out ++ shown → new ≡ flat_map f after
more f before after x out piece shown new is so_far is_shown is_piece is_new =
    is_new ∙ (ap (λ (z : List ℕ). z ++ shown) so_far ∙ (ap (λ (z : List ℕ). flat_map f before ++ z) (is_shown ∙ is_piece) ∙ (flat_map_more f [] before x ∙ ap (flat_map f) (sym is))))

-- a piece for each of the items before a place, and for the one there
pub item_more : {A : Type 0} (f : A → List ℕ) (items xs : List A) (i : ℕ) (d : A) (out piece shown new : List ℕ) → items ≡ xs → i < length items → out ≡ flat_map f (take i xs) → shown ≡ piece → piece ≡ f (get_or items i d) → new ≡ out ++ shown → new ≡ flat_map f (take (i + 1) xs)
item_more f items xs i d out piece shown new same low so_far is_shown is_piece is_new =
    more f (take i xs) (take (i + 1) xs) (get_or xs i d) out piece shown new (take_more xs i d (subst (λ zs. i < length zs) same low)) so_far is_shown (is_piece ∙ ap (λ zs. f (get_or zs i d)) same) is_new

-- a piece for each mode below m, and for m
pub mode_more : (f : ℕ → List ℕ) (m : ℕ) (out piece shown new : List ℕ) → 0 < m → out ≡ flat_map f (count_up 1 (m - 1)) → shown ≡ piece → piece ≡ f m → new ≡ out ++ shown → new ≡ flat_map f (count_up 1 (m + 1 - 1))
mode_more f m out piece shown new some so_far is_shown is_piece is_new = more f (count_up 1 (m - 1)) (count_up 1 (m + 1 - 1)) m out piece shown new (below-more m some) so_far is_shown is_piece is_new

-- a piece for each mode
pub mode_all : (p : Protocol) (f : ℕ → List ℕ) (m : ℕ) (out : List ℕ) → m ≡ p.count + 1 → out ≡ flat_map f (count_up 1 (m - 1)) → out ≡ flat_map f (modes p)
mode_all p f m out is so_far = so_far ∙ ap (flat_map f) (all_modes p m is)

-- a piece for each own mode below o, and for o
pub own_more : (f : ℕ → List ℕ) (o : ℕ) (out piece shown new : List ℕ) → out ≡ flat_map f (count_up 0 o) → shown ≡ piece → piece ≡ f o → new ≡ out ++ shown → new ≡ flat_map f (count_up 0 (o + 1))
own_more f o out piece shown new so_far is_shown is_piece is_new = more f (count_up 0 o) (count_up 0 (o + 1)) o out piece shown new (before-more o) so_far is_shown is_piece is_new

-- a piece for each own mode
pub own_all : (p : Protocol) (f : ℕ → List ℕ) (o : ℕ) (out : List ℕ) → o ≡ p.count + 1 → out ≡ flat_map f (count_up 0 o) → out ≡ flat_map f (modes_or_none p)
own_all p f o out is so_far = so_far ∙ ap (flat_map f) (all_modes_or_none p o is)

-- the own modes below o that pass a test, and o, if it does
pub own_tested : (test : ℕ → Bool) (o : ℕ) (leads : Bool) (owns new : List ℕ) → owns ≡ filter test (count_up 0 o) → leads ≡ test o → new ≡ owns ++ (if leads then o ∷ [] else []) → new ≡ filter test (count_up 0 (o + 1))
own_tested test o leads owns new so_far tested is_new =
    is_new ∙ (ap (λ (z : List ℕ). z ++ (if leads then o ∷ [] else [])) so_far ∙ (ap (λ (b : Bool). filter test (count_up 0 o) ++ (if b then o ∷ [] else [])) tested ∙ (sym (filter-append test (count_up 0 o) (o ∷ [])) ∙ ap (filter test) (sym (before-more o)))))

-- all own modes that pass a test
pub own_kept_all : (p : Protocol) (test : ℕ → Bool) (o : ℕ) (owns : List ℕ) → o ≡ p.count + 1 → owns ≡ filter test (count_up 0 o) → owns ≡ filter test (modes_or_none p)
own_kept_all p test o owns is so_far = so_far ∙ ap (filter test) (all_modes_or_none p o is)
