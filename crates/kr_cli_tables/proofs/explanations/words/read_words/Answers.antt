use Rattle.std.proofs.Common.{◌≡◌, ◌<◌, ◌≤◌, ◌^◌, ℕ, List, [], ◌∷◌, map, string_bytes, length, get_or, ap, sym, arith}
use Rattle.std.specs.Prelude.{codes}
use Rattle.std.specs.Fmt.{decimal}
use Rattle.std.proofs.lemmas.Slice.Eq.{bytes_eq-Decides}
use Rattle.kr_cli_tables.specs.ExplainWords.{words_of, IsAsked}
use Rattle.kr_cli_tables.specs.declared.explanations.words.Wanted.{Wanted}
use Rattle.kr_cli_tables.specs.declared.explanations.words.Wanted.TheVariants.{Explanation, Script}
use Rattle.kr_cli_tables.proofs.explanations.words.read_words.Goals as goal

-- the bytes of three words
three_words : {X : Type 0} (f : X → List ℕ) (ws : List X) (a b d : X) → 3 ≤ length ws → length ws < 4 → a ≡ get_or ws 0 a → b ≡ get_or ws 1 b → d ≡ get_or ws 2 d → map f ws ≡ f a ∷ f b ∷ f d ∷ []
three_words f [] a b d least below first second third = absurd (omega (arith, least))
three_words f (x ∷ []) a b d least below first second third = absurd (omega (arith, least))
three_words f (x ∷ y ∷ []) a b d least below first second third = absurd (omega (arith, least))
three_words f (x ∷ y ∷ z ∷ []) a b d least below first second third = cc
three_words f (x ∷ y ∷ z ∷ w ∷ ws) a b d least below first second third = absurd (omega (arith, below))

-- what both are is the same
across : {x y z : List ℕ} → x ≡ y → x ≡ z → y ≡ z
across first second = cc

-- three others that are equal to them
same_three : {ws : List (List ℕ)} {a b d x y z : List ℕ} → ws ≡ a ∷ b ∷ d ∷ [] → a ≡ x → b ≡ y → d ≡ z → ws ≡ x ∷ y ∷ z ∷ []
same_three words first second third = cc

-- three words, of which the last is how no number is written, ask nothing
ask_nothing : (ws : List (List ℕ)) (a b d : List ℕ) → ws ≡ a ∷ b ∷ d ∷ [] → ((n : ℕ) → 0 < n → n < 2 ^ 64 → d ≡ decimal n → ⊥) → (table : List ℕ) (wanted : Wanted) → IsAsked table wanted → ws ≡ words_of table wanted → ⊥
ask_nothing ws a b d three none table Explanation asked same = absurd (omega (arith, ap length three, ap length same))
ask_nothing ws a b d three none table (Script n) asked same = none n asked.1.0 asked.1.1 (cc)

pub returns-in-Some-clause-words : goal.returns-in-Some-clause-words
returns-in-Some-clause-words c =
    let words = three_words string_bytes c.args.words.now c.table-item-then-words-lt4.result c.option-item.result c.number-item.result c.in-len3.len_at_least c.in-len3.len_below c.table-item-then-words-lt4.is c.option-item.is c.number-item.is in
    let option : c.as_str-then-is_plain-2.result.now ≡ codes "--script" = (bytes_eq-Decides c.as_str-then-is_plain-2.result.now (codes "--script")).0 (sym c.if-eq.ensures) in
    let table : string_bytes c.table-item-then-words-lt4.result ≡ c.as_str-in-Some.result.now = sym c.as_str-in-Some.ensures.value in
    let script : string_bytes c.option-item.result ≡ codes "--script" = across c.as_str-then-is_plain-2.ensures.value option in
    let number : string_bytes c.number-item.result ≡ decimal c.in-Some.number = across c.as_str-in-len3.ensures.value c.in-Some.ensures.some.1 in
    same_three words table script number

pub returns-in-None-clause-none : goal.returns-in-None-clause-none
returns-in-None-clause-none c =
    let words = three_words string_bytes c.args.words.now c.table-item-then-words-lt4.result c.option-item.result c.number-item.result c.in-len3.len_at_least c.in-len3.len_below c.table-item-then-words-lt4.is c.option-item.is c.number-item.is in
    ask_nothing _ _ _ (string_bytes c.number-item.result) words (λ n some small is. c.in-None.ensures.none n some small (cc))
