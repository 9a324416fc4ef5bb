-- A part behind others.
use Rattle.std.specs.Prelude.{ℕ, List, [], ◌∷◌, ◌++◌, ◌≡◌, Result, Ok, Err, is_ok, if◌then◌else◌}
use Rattle.std.proofs.Common.{sym, ap, subst, ◌∙◌}
use Rattle.std.proofs.lemmas.List.{append-nil}
use Rattle.std.proofs.lemmas.List.Concat.{flat_map-append}
use Rattle.std.proofs.Math.Logic.{∥∥₁_map}
use Rattle.kr_view_scenes.specs.declared.part.Part.{Part}
use Rattle.kr_view_scenes.specs.Parts.{part_bytes, parts_bytes, IsMadeOfParts}

-- no parts
pub none : (bytes : List ℕ) → bytes ≡ [] → IsMadeOfParts bytes
none bytes e = ∣ ([], e) ∣₁

-- a part behind the others
one_more : (ps : List Part) (p : Part) (bytes more : List ℕ) → bytes ≡ parts_bytes ps → more ≡ part_bytes p → bytes ++ more ≡ parts_bytes (ps ++ p ∷ [])
one_more ps p bytes more e f =
    let first : bytes ++ more ≡ parts_bytes ps ++ more = ap (λ b. b ++ more) e in
    let second : parts_bytes ps ++ more ≡ parts_bytes ps ++ (part_bytes p ++ []) = ap (λ b. parts_bytes ps ++ b) (f ∙ sym (append-nil (part_bytes p))) in
    first ∙ second ∙ sym (flat_map-append part_bytes ps (p ∷ []))

-- what is made of parts, and a part behind it
made : (p : Part) (bytes more : List ℕ) → IsMadeOfParts bytes → more ≡ part_bytes p → IsMadeOfParts (bytes ++ more)
made p bytes more are is_part = ∥∥₁_map are (λ t. (t.0 ++ p ∷ [], one_more t.0 p bytes more t.1 is_part))

-- the same where the part may not have been written
pub pushed_part : {A E : Type 0} (r : Result A E) (p : Part) (bytes more new : List ℕ) → IsMadeOfParts bytes → more ≡ part_bytes p → new ≡ (if is_ok r then bytes ++ more else bytes) → IsMadeOfParts new
pushed_part (Ok a) p bytes more new are is_part e = let P : List ℕ → Type 0 = λ b. IsMadeOfParts b in subst P (sym e) (made p bytes more are is_part)
pushed_part (Err x) p bytes more new are is_part e = let P : List ℕ → Type 0 = λ b. IsMadeOfParts b in subst P (sym e) are
