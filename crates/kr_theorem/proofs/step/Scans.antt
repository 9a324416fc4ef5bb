-- A scan in progress: where it looks next, the pairs that it has, and the points that a step of it reads.
use Rattle.std.proofs.Common.{ℕ, List, [], ◌∷◌, ◌++◌, Option, Some, None, ◌≤◌, ◌<◌, ◌≡◌, ◌+◌, ⊎_elim, sym, ap, ◌∙◌, arith, false, subst}
use Rattle.std.proofs.lemmas.Bool.{cases_lt}
use Rattle.kr_model.specs.declared.Name.TheVariants.{Key}
use Rattle.kr_model.specs.declared.Cover.TheVariants.{ReadKey, ReadGap}
use Rattle.kr_model.specs.Protocol.{Protocol}
use Rattle.kr_model.specs.Map.{Map, IsMap, at, get, pairs_between}
use Rattle.kr_model.proofs.Guarantees.{Serves}
use Rattle.kr_theorem.proofs.gaps.Gaps.{has, Reach, at-key, at-end, at-unique, cases_name}
use Rattle.kr_theorem.proofs.gaps.Maps.{between_nothing, between_one, between_more, between_none}
use Rattle.kr_theorem.proofs.step.Parts.{Progress, Scanned}
use Rattle.kr_theorem.proofs.step.Covers.{read_cover}
use Rattle.kr_theorem.proofs.step.Invariant.{HasRead}

-- A scan from lo to hi, in progress or about to begin, looks from here next and has these pairs.
abbrev pub LooksFrom : Option Progress → ℕ → ℕ → ℕ → List (ℕ × ℕ) → Type 0
LooksFrom None lo hi from pairs = (lo ≡ from) × (lo ≤ hi) × (pairs ≡ [])
LooksFrom (Some s) lo hi from pairs = (s.low ≡ lo) × (s.high ≡ hi) × (s.last + 1 ≡ from) × (pairs ≡ s.pairs)

module _ (lo hi from : ℕ) (pairs : List (ℕ × ℕ)) where
  -- What it has --

  -- With the next key it has what lies between its lower end and that key.
  pub one_more : (m : Map) → IsMap m → (sc : Option Progress) → LooksFrom sc lo hi from pairs → HasRead m sc
      → (x v : ℕ) → from ≤ x → get m x ≡ Some v → ((q : ℕ) → from ≤ q → q < x → get m q ≡ None) → pairs ++ (x, v) ∷ [] ≡ pairs_between m lo x
  one_more m hm None f read x v le is none =
      ap (λ zs. zs ++ (x, v) ∷ []) f.2 ∙ between_one m lo x v hm (omega (arith, f.0, le)) is (λ q a b. none q (omega (arith, f.0, a)) b)
  one_more m hm (Some s) f read x v le is none =
      ap (λ zs. zs ++ (x, v) ∷ []) (f.3 ∙ read.2 ∙ ap (λ l. pairs_between m l s.last) f.0)
      ∙ sym (between_more m lo s.last x v hm (omega (arith, f.0, f.2, le, read.0)) (omega (arith, f.2, le)) is (λ q a b c. none q (omega (arith, f.2, b)) c))

  -- Where no key is left up to the upper end, it has what lies in its range.
  pub no_more : (m : Map) → IsMap m → (sc : Option Progress) → LooksFrom sc lo hi from pairs → HasRead m sc → ((q : ℕ) → from ≤ q → q ≤ hi → get m q ≡ None) → pairs ≡ pairs_between m lo hi
  no_more m hm None f read none = f.2 ∙ between_nothing m lo hi hm (λ q a b. none q (omega (arith, f.0, a)) b)
  no_more m hm (Some s) f read none = f.3 ∙ read.2 ∙ ap (λ l. pairs_between m l s.last) f.0
      ∙ sym (between_none m lo s.last hi hm (omega (arith, f.1, read.1)) (λ q a b c. none q (omega (arith, f.2, b)) c))

  -- What it has passed --

  pub from_in_range : (m : Map) (sc : Option Progress) → LooksFrom sc lo hi from pairs → HasRead m sc → (lo ≤ from) × (from ≤ hi)
  from_in_range m None f read = (omega (arith, f.0), omega (arith, f.0, f.1))
  from_in_range m (Some s) f read = (omega (arith, f.0, f.2, read.0), omega (arith, f.1, f.2, read.1))

  pub scanned_below : (sc : Option Progress) → LooksFrom sc lo hi from pairs → (y : ℕ) → Scanned sc y → (lo ≤ y) × (y < from)
  scanned_below None f y h = absurd h
  scanned_below (Some s) f y h = (omega (arith, f.0, h.0), omega (arith, f.2, h.1))

  pub below_scanned : (sc : Option Progress) → LooksFrom sc lo hi from pairs → (y : ℕ) → lo ≤ y → y < from → Scanned sc y
  below_scanned None f y a b = absurd (omega (arith, f.0, a, b))
  below_scanned (Some s) f y a b = (omega (arith, f.0, a), omega (arith, f.2, b))

-- What a step reads --

-- The points up to the key that a scan reads hang on that key, and are covered by what is held on it.
pub key_cover : (p : Protocol) (m : Map) → IsMap m → (h : ℕ) → Serves p ReadKey h → Serves p ReadGap h → (from x y : ℕ) → at m from ≡ Key x → from ≤ y → y ≤ x
    → (at m y ≡ Key x) × Serves p (read_cover (has m y)) h
key_cover p m hm h at_key below from x y found a b =
    let k = at-key m from x hm found in (
      at-unique m y x hm (b, λ z c d. k.2 z (omega (arith, a, c)) d) k.1,
      ⊎_elim
          (λ lt. subst (λ z. Serves p (read_cover z) h) (sym (k.2 y a lt)) below)
          (λ ge. let e : y ≡ x = omega (arith, b, ge) in subst (λ z. Serves p (read_cover z) h) (sym (ap (has m) e ∙ k.1)) at_key)
          (cases_lt y x),
    )

-- Where no key is left, the points up to the upper end are absent, and reached from where the scan looks.
pub gap_reach : (m : Map) → IsMap m → (from hi y : ℕ) → ((x : ℕ) → at m from ≡ Key x → hi < x) → from ≤ y → y ≤ hi → (Reach m from y) × (has m y ≡ false)
gap_reach m hm from hi y far a b = ⊎_elim
    (λ none. ((a, λ z c d. at-end m from none z c), at-end m from none y a))
    (λ some. let k = at-key m from some.0 hm some.1 in let lt = far some.0 some.1 in ((a, λ z c d. k.2 z c (omega (arith, d, b, lt))), k.2 y a (omega (arith, b, lt))))
    (cases_name (at m from))
