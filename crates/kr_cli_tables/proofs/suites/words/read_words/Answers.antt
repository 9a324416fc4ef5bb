use Rattle.std.proofs.Common.{◌≡◌, ◌<◌, ◌≤◌, ℕ, List, [], ◌∷◌, map, string_bytes, length, get_or, sym, arith}
use Rattle.std.specs.Prelude.{codes}
use Rattle.std.proofs.lemmas.Slice.Eq.{bytes_eq-Decides}
use Rattle.kr_cli_tables.proofs.suites.words.read_words.Goals as goal

-- the bytes of two words
two_words : {X : Type 0} (f : X → List ℕ) (ws : List X) (a b : X) → 2 ≤ length ws → length ws < 3 → a ≡ get_or ws 0 a → b ≡ get_or ws 1 b → map f ws ≡ f a ∷ f b ∷ []
two_words f [] a b least below first second = absurd (omega (arith, least))
two_words f (x ∷ []) a b least below first second = absurd (omega (arith, least))
two_words f (x ∷ y ∷ []) a b least below first second = cc
two_words f (x ∷ y ∷ z ∷ ws) a b least below first second = absurd (omega (arith, below))

-- what both are is the same
across : {x y z : List ℕ} → x ≡ y → x ≡ z → y ≡ z
across first second = cc

-- two others that are equal to them
same_two : {ws : List (List ℕ)} {a b x y : List ℕ} → ws ≡ a ∷ b ∷ [] → a ≡ x → b ≡ y → ws ≡ x ∷ y ∷ []
same_two words first second = cc

pub returns-in-len2-clause-words : goal.returns-in-len2-clause-words
returns-in-len2-clause-words c =
    let words = two_words string_bytes c.args.words.now c.table-item-then-words-lt3.result c.option-item.result c.in-len2.len_at_least c.in-len2.len_below c.table-item-then-words-lt3.is c.option-item.is in
    let option : c.as_str-then-is_plain-2.result.now ≡ codes "--left" = (bytes_eq-Decides c.as_str-then-is_plain-2.result.now (codes "--left")).0 (sym c.if-eq.ensures) in
    let table : string_bytes c.table-item-then-words-lt3.result ≡ c.as_str-in-len2.result.now = sym c.as_str-in-len2.ensures.value in
    let left : string_bytes c.option-item.result ≡ codes "--left" = across c.as_str-then-is_plain-2.ensures.value option in
    same_two words table left
