-- How many cases there are.
use Rattle.std.specs.Prelude.{◌≡◌, Bool, true, false, if◌then◌else◌, ℕ, suc, zero, ◌+◌, ◌*◌, List, [], ◌∷◌, ◌++◌, Some, None, map, length, refl}
use Rattle.std.specs.List.{flat_map}
use Rattle.std.proofs.Common.{sym, ◌∙◌, ap, arith, length-append, append-nil}
use Rattle.kr_model.specs.declared.Rule.{Rule}
use Rattle.kr_model.specs.declared.Rule.TheVariants as rule
use Rattle.kr_model.specs.declared.Row.{Row}
use Rattle.kr_model.specs.declared.Row.TheVariants as row
use Rattle.kr_model.specs.declared.Side.{Side}
use Rattle.kr_model.specs.declared.Side.TheVariants.{Current, Next}
use Rattle.kr_model.specs.declared.Cover.{Cover}
use Rattle.kr_model.specs.declared.Cover.TheVariants.{ReadKey, ReadGap, InsertedKey, DeletedGap, UpdatedKey}
use Rattle.kr_model.specs.declared.Origin.TheVariants as origin
use Rattle.kr_model.specs.Protocol.{Protocol}
use Rattle.kr_model.specs.Covers.{count_up, modes, modes_or_none, cases, cases_of, conversions_of, row_cases, splits_of, case, mode_after, all_covers, case_count, Case}

length_count : (a n : ℕ) → length (count_up a n) ≡ n
length_count a zero = refl
length_count a (suc n) = ap (λ x. suc x) (length_count (suc a) n)

length_mapped : {A B : Type 0} (f : A → B) (xs : List A) → length (map f xs) ≡ length xs
length_mapped f [] = refl
length_mapped f (x ∷ xs) = ap (λ n. suc n) (length_mapped f xs)

times_more : (k n l r : ℕ) → l ≡ n → r ≡ k * n → l + r ≡ suc k * n
times_more k n l r e f = grind arith

length_each : {A B : Type 0} (f : A → List B) (n : ℕ) → ((x : A) → length (f x) ≡ n) → (xs : List A) → length (flat_map f xs) ≡ length xs * n
length_each f n h [] = sym (grind arith)
length_each f n h (x ∷ xs) = length-append (f x) (flat_map f xs) ∙ times_more (length xs) n (length (f x)) (length (flat_map f xs)) (h x) (length_each f n h xs)

length_nested : {A B C : Type 0} (f : A → B → C) (xs : List A) (ys : List B) → length (flat_map (λ x. map (λ y. f x y) ys) xs) ≡ length xs * length ys
length_nested f xs ys = length_each (λ x. map (λ y. f x y) ys) (length ys) (λ x. length_mapped (f x) ys) xs

nine : {A : Type 0} (a b c d e f g h i : List A) → length (a ++ (b ++ (c ++ (d ++ (e ++ (f ++ (g ++ (h ++ i)))))))) ≡ length a + (length b + (length c + (length d + (length e + (length f + (length g + (length h + length i)))))))
nine a b c d e f g h i = simp length-append (omega arith)

product : (m n a b : ℕ) → a ≡ m → b ≡ n → a * b ≡ m * n
product m n a b e f = cc

module _ (p : Protocol) where
  or_none : length (modes_or_none p) ≡ p.count + 1
  or_none = length_count 0 (suc p.count) ∙ omega arith

  conversions : length (cases_of p rule.Conversion) ≡ length (all_covers p) * (p.count * p.count)
  conversions =
      length_each (conversions_of p) (p.count * p.count)
      (λ c. length_nested (λ h q. case rule.Conversion c (origin.Conversion h q) (Some h) (p.convert h q)) (modes p) (modes p) ∙ product p.count p.count (length (modes p)) (length (modes p)) (length_count 1 p.count) (length_count 1 p.count))
      (all_covers p)

  rows : (rl : Rule) (r : Row) (side : Side) (cs : List Cover) → length (row_cases p rl r side cs) ≡ length cs * (p.count + 1)
  rows rl r side cs = length_nested (λ c o. case rl c (origin.Own o) None (mode_after p o (p.ask r side 0))) cs (modes_or_none p) ∙ product (length cs) (p.count + 1) (length cs) (length (modes_or_none p)) refl or_none

  inserts : length (cases_of p rule.Insert) ≡ (p.count + 1) * (p.count + 1)
  inserts = length_nested (λ n o. case rule.Insert InsertedKey (origin.Insert n o) None (mode_after p o (p.ask row.Insert Current n))) (modes_or_none p) (modes_or_none p)
      ∙ product (p.count + 1) (p.count + 1) (length (modes_or_none p)) (length (modes_or_none p)) or_none or_none

  splits : length (cases_of p rule.Split) ≡ 2 * ((p.count + 1) * (p.count + 1))
  splits =
      length_each (splits_of p) ((p.count + 1) * (p.count + 1))
      (λ c. length_nested (λ n o. case rule.Split c (origin.Insert n o) (Some n) (mode_after p o (p.ask row.Insert Current n))) (modes_or_none p) (modes_or_none p)
      ∙ product (p.count + 1) (p.count + 1) (length (modes_or_none p)) (length (modes_or_none p)) or_none or_none)
      (ReadGap ∷ DeletedGap ∷ [])

  deletes : length (cases_of p rule.Delete) ≡ p.count + 1
  deletes = length_mapped (λ n. case rule.Delete DeletedGap (origin.Own n) None (mode_after p n (p.ask row.Delete Next n))) (modes_or_none p) ∙ or_none

  -- the cases of updates, where they are offered
  abbrev more : Bool → List Case
  more b = flat_map (cases_of p) (if b then rule.Update ∷ [] else [])

  abbrev covers : Bool → List Cover
  covers b = ReadKey ∷ ReadGap ∷ InsertedKey ∷ DeletedGap ∷ (if b then UpdatedKey ∷ [] else [])

  counted : (k n : ℕ) → length (all_covers p) ≡ k → length (more p.updates) ≡ n * (p.count + 1)
      → length (cases p) ≡ k * (p.count * p.count) + (6 + n) * (p.count + 1) + 3 * ((p.count + 1) * (p.count + 1))
  counted k n ek en =
      nine (cases_of p rule.Conversion) (cases_of p rule.FetchHit) (cases_of p rule.FetchMiss) (cases_of p rule.ScanKey) (cases_of p rule.ScanStop) (cases_of p rule.Insert) (cases_of p rule.Split) (cases_of p rule.Delete) (more p.updates)
      ∙ added _ _ _ _ _ _ _ _ _ (p.count + 1) (k * (p.count * p.count)) ((p.count + 1) * (p.count + 1)) (n * (p.count + 1)) ((6 + n) * (p.count + 1))
      (conversions ∙ product k (p.count * p.count) (length (all_covers p)) (p.count * p.count) ek refl) (rows rule.FetchHit row.FetchHit Current (ReadKey ∷ [])) (rows rule.FetchMiss row.FetchMiss Next (ReadGap ∷ [])) (rows rule.ScanKey row.ScanKey Current (ReadKey ∷ ReadGap ∷ []))
      (rows rule.ScanStop row.ScanStop Next (ReadGap ∷ [])) inserts splits deletes en (both_parts n (p.count + 1))
    where
      both_parts : (n m : ℕ) → (6 + n) * m ≡ 6 * m + n * m
      both_parts n m = grind arith

      added : (a b c d e f g h i n m s z w : ℕ) → a ≡ m → b ≡ 1 * n → c ≡ 1 * n → d ≡ 2 * n → e ≡ 1 * n → f ≡ s → g ≡ 2 * s → h ≡ n → i ≡ z → w ≡ 6 * n + z
          → a + (b + (c + (d + (e + (f + (g + (h + i))))))) ≡ m + w + 3 * s
      added a b c d e f g h i n m s z w ea eb ec ed ee ef eg eh ei ew = omega arith

  by_updates : (b : Bool) → p.updates ≡ b → length (cases p) ≡ case_count p.count b
  by_updates false e = counted 4 0 (ap (λ b. length (covers b)) e) (ap (λ b. length (more b)) e ∙ sym (no_times (p.count + 1)))
    where
      no_times : (m : ℕ) → 0 * m ≡ 0
      no_times m = grind arith
  by_updates true e = counted 5 1 (ap (λ b. length (covers b)) e)
      (ap (λ b. length (more b)) e ∙ ap (λ (l : List Case). length l) (append-nil (cases_of p rule.Update)) ∙ rows rule.Update row.Update Current (UpdatedKey ∷ []))

  -- the number of cases, by the number of modes and by whether updates are offered
  pub length-cases : length (cases p) ≡ case_count p.count p.updates
  length-cases = by_updates p.updates refl
