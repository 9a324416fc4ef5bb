-- Causes with their blocks, one before the others.
use Rattle.std.specs.Prelude.{◌≡◌, ◌+◌, ◌-◌, ◌≤◌, ℕ, List, [], ◌∷◌, ◌++◌, Bool, length, take, drop, get_or}
use Rattle.std.proofs.Common.{arith, subst}
use Rattle.std.proofs.lemmas.List.{take_rest}
use Rattle.kr_ghost_explain.specs.declared.explanation.MendedCause.{MendedCause}
use Rattle.kr_ghost_explain_text.specs.Told.{AreGhostBlocks, IsGhostBlock}

-- one cause before the others
pub block_next : (names : List (List ℕ)) (harmless : Bool) (n : ℕ) (xs : List MendedCause) (m : MendedCause) (block rest text : List ℕ) → 1 ≤ length xs → m ≡ get_or xs 0 m → IsGhostBlock names harmless n m block → AreGhostBlocks names harmless (n + 1) (take (length xs - 1) (drop 1 xs)) rest → text ≡ block ++ rest → AreGhostBlocks names harmless n xs text
block_next names harmless n [] m block rest text low is titled others written = absurd (omega (arith, low))
block_next names harmless n (x ∷ xs) m block rest text low is titled others written =
    let behind = subst (λ (ys : List MendedCause). AreGhostBlocks names harmless (n + 1) ys rest) (take_rest (x ∷ xs) 1) others in
    (block, rest, (subst (λ (y : MendedCause). IsGhostBlock names harmless n y block) is titled, (behind, written)))
