use Rattle.std.proofs.Common.{◌≡◌, ◌<◌, ◌≤◌, ℕ, List, [], ◌∷◌, map, string_bytes, length, get_or, sym, arith}
use Rattle.std.specs.Prelude.{codes}
use Rattle.std.proofs.lemmas.Slice.Eq.{bytes_eq-Decides}
use Rattle.kr_cli_tables.proofs.relaxations.words.read_words.Goals as goal

-- the bytes of two words
two_words : {X : Type 0} (f : X → List ℕ) (ws : List X) (a b : X) → 2 ≤ length ws → length ws < 3 → a ≡ get_or ws 0 a → b ≡ get_or ws 1 b → map f ws ≡ f a ∷ f b ∷ []
two_words f [] a b least below first second = absurd (omega (arith, least))
two_words f (x ∷ []) a b least below first second = absurd (omega (arith, least))
two_words f (x ∷ y ∷ []) a b least below first second = cc
two_words f (x ∷ y ∷ z ∷ ws) a b least below first second = absurd (omega (arith, below))

-- the bytes of three words
three_words : {X : Type 0} (f : X → List ℕ) (ws : List X) (a b c : X) → 3 ≤ length ws → length ws < 4 → a ≡ get_or ws 0 a → b ≡ get_or ws 1 b → c ≡ get_or ws 2 c → map f ws ≡ f a ∷ f b ∷ f c ∷ []
three_words f [] a b c least below first second third = absurd (omega (arith, least))
three_words f (x ∷ []) a b c least below first second third = absurd (omega (arith, least))
three_words f (x ∷ y ∷ []) a b c least below first second third = absurd (omega (arith, least))
three_words f (x ∷ y ∷ z ∷ []) a b c least below first second third = cc
three_words f (x ∷ y ∷ z ∷ w ∷ ws) a b c least below first second third = absurd (omega (arith, below))

-- what both are is the same
across : {x y z : List ℕ} → x ≡ y → x ≡ z → y ≡ z
across first second = cc

-- two others that are equal to them
same_two : {ws : List (List ℕ)} {a b x y : List ℕ} → ws ≡ a ∷ b ∷ [] → a ≡ x → b ≡ y → ws ≡ x ∷ y ∷ []
same_two words first second = cc

-- and three others
same_three : {ws : List (List ℕ)} {a b c x y z : List ℕ} → ws ≡ a ∷ b ∷ c ∷ [] → a ≡ x → b ≡ y → c ≡ z → ws ≡ x ∷ y ∷ z ∷ []
same_three words first second third = cc

pub returns-in-len2-clause-words : goal.returns-in-len2-clause-words
returns-in-len2-clause-words c =
    let words = two_words string_bytes c.args.words.now c.table-item-then-words-lt3.result c.option-item.result c.in-len2.len_at_least c.in-len2.len_below c.table-item-then-words-lt3.is c.option-item.is in
    let option : c.as_str-then-is_plain-2.result.now ≡ codes "--write" = (bytes_eq-Decides c.as_str-then-is_plain-2.result.now (codes "--write")).0 (sym c.if-eq.ensures) in
    let table : string_bytes c.table-item-then-words-lt3.result ≡ c.as_str-in-len2.result.now = sym c.as_str-in-len2.ensures.value in
    let write : string_bytes c.option-item.result ≡ codes "--write" = across c.as_str-then-is_plain-2.ensures.value option in
    same_two words table write

pub returns-in-len3-clause-words : goal.returns-in-len3-clause-words
returns-in-len3-clause-words c =
    let words = three_words string_bytes c.args.words.now c.table-item-then-words-lt4.result c.option-item-then-words-lt4.result c.entry-item.result c.in-len3.len_at_least c.in-len3.len_below c.table-item-then-words-lt4.is c.option-item-then-words-lt4.is c.entry-item.is in
    let option : c.as_str-then-is_plain-3.result.now ≡ codes "--why" = (bytes_eq-Decides c.as_str-then-is_plain-3.result.now (codes "--why")).0 (sym c.if-eq-2.ensures) in
    let table : string_bytes c.table-item-then-words-lt4.result ≡ c.as_str-in-len3.result.now = sym c.as_str-in-len3.ensures.value in
    let why : string_bytes c.option-item-then-words-lt4.result ≡ codes "--why" = across c.as_str-then-is_plain-3.ensures.value option in
    let entry : string_bytes c.entry-item.result ≡ c.as_str-in-len3-2.result.now = sym c.as_str-in-len3-2.ensures.value in
    same_three words table why entry
