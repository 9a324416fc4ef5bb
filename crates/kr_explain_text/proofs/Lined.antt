-- Texts in lines: as they are, one behind another, and word by word.
use Rattle.std.specs.List.{join_with_byte}
use Rattle.std.proofs.Common.{◌≡◌, ◌⊎◌, inl, inr, ◌++◌, [], ◌∷◌, ℕ, zero, suc, ◌+◌, ◌<◌, List, Bool, true, false, length, map, refl, sym, ap, subst, ◌∙◌, append_assoc, arith}
use Rattle.std.proofs.lemmas.List.{append-nil, map_push, length-map}
use denote.Ref.{Bor}
use native.Mathlib.Numerals.{unary_clauses}
use Rattle.kr_explain_text.specs.Lines.{blanks, AreLines, IsGap, Adds}

-- one more blank
pub one_blank_more : (n : ℕ) → blanks (n + 1) ≡ blanks n ++ 32 ∷ []
one_blank_more zero = refl
one_blank_more (suc n) = simp unary_clauses (ap (λ (b : List ℕ). 32 ∷ b) (simp unary_clauses at (one_blank_more n)))

-- a text is lines of itself
pub itself : (hang : ℕ) (text : List ℕ) → AreLines hang text text
itself hang [] = refl
itself hang (c ∷ text) = (text, (itself hang text, inl refl))

-- lines of one text behind those of another are lines of both
pub behind : (hang : ℕ) (a x b y : List ℕ) → AreLines hang a x → AreLines hang b y → AreLines hang (a ++ b) (x ++ y)
behind hang [] x b y e are = let P : List ℕ → Type 0 = λ z. AreLines hang b (z ++ y) in subst P (sym e) are
behind hang (c ∷ a) x b y (rest, (first, how)) are = (rest ++ y, (behind hang a rest b y first are, same_way how))
  where
    same_way : (x ≡ c ∷ rest) ⊎ ((c ≡ 32) × (x ≡ 10 ∷ (blanks hang ++ rest))) → (x ++ y ≡ c ∷ (rest ++ y)) ⊎ ((c ≡ 32) × (x ++ y ≡ 10 ∷ (blanks hang ++ (rest ++ y))))
    same_way (inl e) = inl (ap (λ (z : List ℕ). z ++ y) e)
    same_way (inr (blank, e)) = inr (blank, ap (λ (z : List ℕ). z ++ y) e ∙ ap (λ (z : List ℕ). 10 ∷ z) (append_assoc (blanks hang) rest y))

-- a gap that isn't the first is lines of a blank
pub gap_lines : (hang : ℕ) (gap : List ℕ) → IsGap hang false gap → AreLines hang (32 ∷ []) gap
gap_lines hang gap (inl e) = ([], (refl, inl e))
gap_lines hang gap (inr e) = ([], (refl, inr (refl, e ∙ ap (λ (z : List ℕ). 10 ∷ z) (sym (append-nil (blanks hang))))))

-- words with blanks between, and one word more
pub one_word_more : (words : List (List ℕ)) (w word : List ℕ) → join_with_byte 32 ((w ∷ words) ++ word ∷ []) ≡ join_with_byte 32 (w ∷ words) ++ (32 ∷ word)
one_word_more [] w word = refl
one_word_more (v ∷ words) w word = ap (λ (z : List ℕ). w ++ (32 ∷ z)) (one_word_more words v word) ∙ sym (append_assoc w (32 ∷ join_with_byte 32 (v ∷ words)) (32 ∷ word))

-- the lines of words, a gap and a word are the lines of one word more
pub word_lines : (hang : ℕ) (words : List (List ℕ)) (is_first : Bool) (x gap word : List ℕ) → (is_first ≡ true → words ≡ []) → (is_first ≡ false → 0 < length words) → AreLines hang (join_with_byte 32 words) x → IsGap hang is_first gap → AreLines hang (join_with_byte 32 (words ++ word ∷ [])) (x ++ (gap ++ word))
word_lines hang [] true x gap word none some are no_gap =
    let P : List ℕ → Type 0 = λ z. AreLines hang word (z ++ (gap ++ word)) in
    let Q : List ℕ → Type 0 = λ z. AreLines hang word (z ++ word) in
    subst P (sym are) (subst Q (sym no_gap) (itself hang word))
word_lines hang [] false x gap word none some are is_gap = absurd (omega (arith, some refl))
word_lines hang (w ∷ words) true x gap word none some are is_gap = absurd (absent (none refl))
  where
    absent : w ∷ words ≡ [] → ⊥
    absent e = cc
word_lines hang (w ∷ words) false x gap word none some are is_gap =
    let P : List ℕ → Type 0 = λ z. AreLines hang z (x ++ (gap ++ word)) in
    subst P (sym (one_word_more words w word)) (behind hang (join_with_byte 32 (w ∷ words)) x (32 ∷ word) (gap ++ word) are (behind hang (32 ∷ []) gap word word (gap_lines hang gap is_gap) (itself hang word)))

-- the words so far, a gap and a word behind what was there
pub added_word : (hang : ℕ) (words : List (Bor (List ℕ))) (word : Bor (List ℕ)) (is_first : Bool) (old out gapped new : List ℕ) → (is_first ≡ true → words ≡ []) → (is_first ≡ false → 0 < length words) → Adds (AreLines hang (join_with_byte 32 (map (λ w. w.now) words))) old out → Adds (IsGap hang is_first) out gapped → new ≡ gapped ++ word.now → Adds (AreLines hang (join_with_byte 32 (map (λ w. w.now) (words ++ word ∷ [])))) old new
added_word hang words word is_first old out gapped new none some (x, (are, e)) (gap, (is_gap, f)) g =
    let P : List (List ℕ) → Type 0 = λ ws. AreLines hang (join_with_byte 32 ws) (x ++ (gap ++ word.now)) in (
      x ++ (gap ++ word.now),
      (
        subst P (sym (map_push (λ (w : Bor (List ℕ)). w.now) words word))
            (word_lines hang (map (λ (w : Bor (List ℕ)). w.now) words) is_first x gap word.now (λ t. ap (map (λ (w : Bor (List ℕ)). w.now)) (none t)) (λ t. omega (arith, some t, length-map words (λ (w : Bor (List ℕ)). w.now))) are is_gap),
        g ∙ ap (λ (z : List ℕ). z ++ word.now) (f ∙ ap (λ (z : List ℕ). z ++ gap) e) ∙ ap (λ (z : List ℕ). z ++ word.now) (append_assoc old x gap) ∙ append_assoc old (x ++ gap) word.now ∙ ap (λ (z : List ℕ). old ++ z) (append_assoc x gap word.now),
      ),
    )
