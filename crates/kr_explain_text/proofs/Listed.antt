-- Modes of a choice, one behind another.
use Rattle.std.proofs.Common.{◌≡◌, ◌++◌, [], ◌∷◌, ℕ, ◌+◌, ◌<◌, ◌≤◌, List, Bool, true, false, ◌==◌, map, drop, length, get_or, refl, sym, ap, ◌∙◌, append_assoc, codes, ◌-◌, arith}
use Rattle.std.proofs.lemmas.List.{append-nil, drop_more, drop_all, length-drop}
use Rattle.std.proofs.lemmas.Bool.Decides.{nat_tests}
use Rattle.kr_explain_text.specs.Lists.{others_listed, mode_word, modes_listed, item_words}

-- whether there is none
abbrev pub is_end : List ℕ → Bool
is_end [] = true
is_end (m ∷ ms) = false

-- the modes that are written from here on
abbrev pub words_from : List (List ℕ) → Bool → Bool → List ℕ → List ℕ
words_from names quoted is_first [] = []
words_from names quoted is_first (m ∷ ms) = item_words is_first (is_end ms) (mode_word names quoted m) ++ words_from names quoted false ms

others : (names : List (List ℕ)) (quoted : Bool) (ms : List ℕ) → words_from names quoted false ms ≡ others_listed (codes "or") (map (mode_word names quoted) ms)
others names quoted [] = refl
others names quoted (m ∷ []) = append-nil (codes " or " ++ mode_word names quoted m)
others names quoted (m ∷ n ∷ ms) = ap (λ (z : List ℕ). (codes ", " ++ mode_word names quoted m) ++ z) (others names quoted (n ∷ ms))

-- they are the list of all
pub all_words : (names : List (List ℕ)) (quoted : Bool) (ms : List ℕ) → words_from names quoted true ms ≡ modes_listed names quoted ms
unfolding modes_listed
all_words names quoted [] = refl
all_words names quoted (m ∷ ms) = ap (λ (z : List ℕ). mode_word names quoted m ++ z) (others names quoted ms)

end_by_length : (ms : List ℕ) → is_end ms ≡ (length ms == 0)
end_by_length [] = refl
end_by_length (m ∷ ms) = grind (arith, nat_tests)

both_ends : (n i : ℕ) → i < n → (n - (i + 1) == 0) ≡ (i + 1 == n)
both_ends n i l = grind (arith, nat_tests)

ends : (ms : List ℕ) (i : ℕ) → i < length ms → is_end (drop (i + 1) ms) ≡ (i + 1 == length ms)
ends ms i l = end_by_length (drop (i + 1) ms) ∙ ap (λ n. n == 0) (length-drop (i + 1) ms) ∙ both_ends (length ms) i l

not_first : (i : ℕ) → (i + 1 == 0) ≡ false
not_first i = grind (arith, nat_tests)

-- one mode more is written
pub word_more : (names : List (List ℕ)) (quoted : Bool) (ms : List ℕ) (i d : ℕ) (out word new all : List ℕ) → i < length ms → word ≡ mode_word names quoted (get_or ms i d) → new ≡ out ++ item_words (i == 0) (i + 1 == length ms) word → out ++ words_from names quoted (i == 0) (drop i ms) ≡ all → new ++ words_from names quoted (i + 1 == 0) (drop (i + 1) ms) ≡ all
word_more names quoted ms i d out word new all l is_word is_new e =
    let rest = drop (i + 1) ms in
    let item : List ℕ = item_words (i == 0) (i + 1 == length ms) word in
    let opened : words_from names quoted (i == 0) (drop i ms) ≡ item_words (i == 0) (is_end rest) (mode_word names quoted (get_or ms i d)) ++ words_from names quoted false rest = ap (words_from names quoted (i == 0)) (drop_more ms i d l) in
    let same : item_words (i == 0) (is_end rest) (mode_word names quoted (get_or ms i d)) ≡ item = ap (λ b. item_words (i == 0) b (mode_word names quoted (get_or ms i d))) (ends ms i l) ∙ ap (item_words (i == 0) (i + 1 == length ms)) (sym is_word) in
    let left : words_from names quoted (i == 0) (drop i ms) ≡ item ++ words_from names quoted (i + 1 == 0) rest = opened ∙ ap (λ (z : List ℕ). z ++ words_from names quoted false rest) same ∙ ap (λ b. item ++ words_from names quoted b rest) (sym (not_first i)) in
    ap (λ (z : List ℕ). z ++ words_from names quoted (i + 1 == 0) rest) is_new ∙ append_assoc out item (words_from names quoted (i + 1 == 0) rest) ∙ ap (λ (z : List ℕ). out ++ z) (sym left) ∙ e

-- when all are written
pub words_all : (names : List (List ℕ)) (quoted : Bool) (ms : List ℕ) (i : ℕ) (out : List ℕ) → length ms ≤ i → out ++ words_from names quoted (i == 0) (drop i ms) ≡ words_from names quoted true ms → out ≡ modes_listed names quoted ms
words_all names quoted ms i out l e = sym (append-nil out) ∙ ap (λ xs. out ++ words_from names quoted (i == 0) xs) (sym (drop_all i ms l)) ∙ e ∙ all_words names quoted ms
