-- Blocks, one behind another.
use Rattle.std.proofs.Common.{◌≡◌, ◌++◌, [], ◌∷◌, ℕ, ◌+◌, ◌<◌, ◌≤◌, List, length, take, get_or, refl, sym, ap, subst, ◌∙◌, append_assoc, arith}
use Rattle.std.proofs.lemmas.List.{append-nil, take_more, take_all, length-take-le}
use Rattle.kr_explain_core.specs.declared.explanation.Explained.{Explained}
use Rattle.kr_explain_core.specs.Blocks.{AreNumbered}

-- one block more
block_more : (Is : ℕ → Explained → List ℕ → Type 0) (n m : ℕ) (es : List Explained) (e : Explained) (text block : List ℕ) → m ≡ n + length es → AreNumbered Is n es text → Is m e block → AreNumbered Is n (es ++ e ∷ []) (text ++ block)
block_more Is n m [] e text block at none is =
    let P : ℕ → Type 0 = λ k. Is k e block in
    (block, [], (subst P (omega arith) is, (refl, ap (λ (z : List ℕ). z ++ block) none ∙ sym (append-nil block))))
block_more Is n m (d ∷ es) e text block at (first, rest, (is_first, (are, eq))) is =
    let number : m ≡ (n + 1) + length es = omega arith in
    (first, rest ++ block, (is_first, (block_more Is (n + 1) m es e rest block number are is, ap (λ (z : List ℕ). z ++ block) eq ∙ append_assoc first rest block)))

-- two texts that are two others
pub both : {a b c d text : List ℕ} → a ≡ c → b ≡ d → text ≡ a ++ b → text ≡ c ++ d
both p q r = cc

-- a block for the cause at a place, behind those before it
pub block_at : (Is : ℕ → Explained → List ℕ → Type 0) (es : List Explained) (i : ℕ) (e : Explained) (text block piece new : List ℕ) → i < length es → e ≡ get_or es i e → AreNumbered Is 1 (take i es) text → Is (i + 1) e block → piece ≡ block → new ≡ text ++ piece → AreNumbered Is 1 (take (i + 1) es) new
block_at Is es i e text block piece new l is_item are is same is_new =
    let P : List Explained → Type 0 = λ xs. AreNumbered Is 1 xs (text ++ block) in
    let Q : List ℕ → Type 0 = λ t. AreNumbered Is 1 (take (i + 1) es) t in
    let here : take (i + 1) es ≡ take i es ++ e ∷ [] = take_more es i e l ∙ ap (λ x. take i es ++ x ∷ []) (sym is_item) in
    let number : i + 1 ≡ 1 + length (take i es) = omega (arith, length-take-le i es (omega arith)) in
    subst Q (sym (is_new ∙ ap (λ (z : List ℕ). text ++ z) same)) (subst P (sym here) (block_more Is 1 (i + 1) (take i es) e text block number are is))

-- a block for each
pub all_blocks : (Is : ℕ → Explained → List ℕ → Type 0) (es : List Explained) (i : ℕ) (text : List ℕ) → length es ≤ i → AreNumbered Is 1 (take i es) text → AreNumbered Is 1 es text
all_blocks Is es i text l are = let P : List Explained → Type 0 = λ xs. AreNumbered Is 1 xs text in subst P (take_all i es l) are
