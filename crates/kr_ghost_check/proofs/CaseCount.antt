-- How many cases there are.
use Rattle.std.proofs.Common.{◌≡◌, ℕ, zero, suc, ◌+◌, ◌*◌, Bool, true, false, List, [], ◌∷◌, map, length, refl, ap, sym, ◌∙◌, arith, length-append}
use Rattle.std.specs.Prelude.{◌&&◌, cond, if◌then◌else◌}
use Rattle.std.specs.List.{flat_map}
use Rattle.std.proofs.lemmas.List.{length-map}
use Rattle.kr_model.specs.Covers.{count_up, modes, modes_or_none}
use Rattle.kr_ghost.specs.declared.cases.Cover.{Cover}
use Rattle.kr_ghost.specs.declared.cases.Cover.TheVariants.{ReadKey, ReadGap, ChangedKey}
use Rattle.kr_ghost.specs.declared.cases.Rule.TheVariants as rule
use Rattle.kr_ghost.specs.Protocol.{GhostProtocol, inherits}
use Rattle.kr_ghost.specs.declared.vain.Vain.TheVariants.{InsertHit, DeleteMiss, UpdateMiss}
use Rattle.kr_ghost.specs.Covers.{Case, has_row, cases}
use Rattle.kr_ghost_check.specs.Groups.{case_at, line, square, group, groups, line_count}
use Rattle.kr_ghost_check.proofs.Grouped.{cases_grouped}

length_count : (a n : ℕ) → length (count_up a n) ≡ n
length_count a zero = refl
length_count a (suc n) = ap (λ x. suc x) (length_count (suc a) n)

times_more : (k n l r : ℕ) → l ≡ n → r ≡ k * n → l + r ≡ suc k * n
times_more k n l r e f = grind arith

-- lists of the same length, one for each number
length_each : {A : Type 0} (f : ℕ → List A) (n : ℕ) → ((x : ℕ) → length (f x) ≡ n) → (a k : ℕ) → length (flat_map f (count_up a k)) ≡ k * n
length_each f n each a zero = sym (grind arith)
length_each f n each a (suc k) =
    length-append (f a) (flat_map f (count_up (suc a) k)) ∙ times_more k n (length (f a)) (length (flat_map f (count_up (suc a) k))) (each a) (length_each f n each (suc a) k)

-- the lengths of lists, added up
abbrev lengths : {A B : Type 0} → (A → List B) → List A → ℕ
lengths f [] = 0
lengths f (x ∷ xs) = length (f x) + lengths f xs

length_parts : {A B : Type 0} (f : A → List B) (xs : List A) → length (flat_map f xs) ≡ lengths f xs
length_parts f [] = refl
length_parts f (x ∷ xs) = length-append (f x) (flat_map f xs) ∙ ap (λ n. length (f x) + n) (length_parts f xs)

-- lists of length n, of those that are there
some_of : {A : Type 0} (b : Bool) (xs : List A) (n : ℕ) → length xs ≡ n → length (if b then xs else []) ≡ cond b 1 0 * n
some_of true xs n e = e ∙ omega arith
some_of false xs n e = omega arith

both_of : {A : Type 0} (b c : Bool) (xs : List A) (n : ℕ) → length xs ≡ n → length (if b then (if c then xs else []) else []) ≡ cond (b && c) 1 0 * n
both_of true c xs n e = some_of c xs n e
both_of false c xs n e = omega arith

times_five : (a b c d n : ℕ) → (9 + a + b + c + d) * n ≡ 9 * n + a * n + b * n + c * n + d * n
times_five a b c d n = grind arith

module _ (p : GhostProtocol) where
  abbrev m : ℕ
  m = p.table.count

  or_none : {A : Type 0} (f : ℕ → A) → length (map f (modes_or_none p.table)) ≡ m + 1
  or_none f = length-map (modes_or_none p.table) f ∙ length_count 0 (suc m) ∙ omega arith

  conversions : (c : Cover) → length (group p (rule.Conversion, c)) ≡ m * m
  conversions c = length_each (line p rule.Conversion c) m (λ h. length-map (modes p.table) (case_at p rule.Conversion c h) ∙ length_count 1 m) 1 m

  heirs : (b : Bool) → length (if b then square p rule.Heir ReadGap else []) ≡ (if b then m * (m + 1) else 0)
  heirs true = length_each (line p rule.Heir ReadGap) (m + 1) (λ h. or_none (case_at p rule.Heir ReadGap h)) 1 m
  heirs false = refl

  added : (a b c d e f g h i j k u v x w y z s n rows more : ℕ) → a ≡ s → b ≡ s → c ≡ s → d ≡ n → e ≡ n → f ≡ n → g ≡ n → h ≡ n → i ≡ n → j ≡ n → k ≡ n → v ≡ n → x ≡ more → rows ≡ 9 * n + u + w + y + z
      → a + (b + (c + (d + (e + (f + (g + (h + (i + (j + (k + (u + (v + (x + (w + (y + (z + 0)))))))))))))))) ≡ 3 * s + rows + more
  added a b c d e f g h i j k u v x w y z s n rows more ea eb ec ed ee ef eg eh ei ej ek ev ex er = omega arith

  updates : length (group p (rule.Update, ChangedKey)) ≡ cond p.table.updates 1 0 * (m + 1)
  updates = some_of p.table.updates _ (m + 1) (or_none (case_at p rule.Update ChangedKey 0))

  insert_hits : length (group p (rule.InsertHit, ReadKey)) ≡ cond (has_row p InsertHit) 1 0 * (m + 1)
  insert_hits = some_of (has_row p InsertHit) _ (m + 1) (or_none (case_at p rule.InsertHit ReadKey 0))

  delete_misses : length (group p (rule.DeleteMiss, ReadGap)) ≡ cond (has_row p DeleteMiss) 1 0 * (m + 1)
  delete_misses = some_of (has_row p DeleteMiss) _ (m + 1) (or_none (case_at p rule.DeleteMiss ReadGap 0))

  update_misses : length (group p (rule.UpdateMiss, ReadGap)) ≡ cond (p.table.updates && has_row p UpdateMiss) 1 0 * (m + 1)
  update_misses = both_of p.table.updates (has_row p UpdateMiss) _ (m + 1) (or_none (case_at p rule.UpdateMiss ReadGap 0))

  rows : line_count p * (m + 1)
      ≡ 9 * (m + 1) + length (group p (rule.Update, ChangedKey)) + length (group p (rule.InsertHit, ReadKey)) + length (group p (rule.DeleteMiss, ReadGap)) + length (group p (rule.UpdateMiss, ReadGap))
  rows =
      rw (updates, insert_hits, delete_misses, update_misses)
      (times_five (cond p.table.updates 1 0) (cond (has_row p InsertHit) 1 0) (cond (has_row p DeleteMiss) 1 0) (cond (p.table.updates && has_row p UpdateMiss) 1 0) (m + 1))

  pub length_cases : length (cases p) ≡ 3 * (m * m) + line_count p * (m + 1) + (if inherits p.purges then m * (m + 1) else 0)
  length_cases =
      ap (λ (cs : List Case). length cs) (cases_grouped p) ∙ length_parts (group p) groups
      ∙ added _ _ _ _ _ _ _ _ _ _ _ _ _ _ _ _ _ (m * m) (m + 1) (line_count p * (m + 1)) (if inherits p.purges then m * (m + 1) else 0) (conversions ReadKey) (conversions ReadGap) (conversions ChangedKey)
      (or_none (case_at p rule.FetchHit ReadKey 0)) (or_none (case_at p rule.FetchMiss ReadGap 0)) (or_none (case_at p rule.ScanName ReadKey 0)) (or_none (case_at p rule.ScanName ReadGap 0))
      (or_none (case_at p rule.ScanStop ReadGap 0)) (or_none (case_at p rule.Insert ChangedKey 0)) (or_none (case_at p rule.Split ReadGap 0)) (or_none (case_at p rule.Delete ChangedKey 0))
      (or_none (case_at p rule.Revive ChangedKey 0)) (heirs (inherits p.purges)) rows
