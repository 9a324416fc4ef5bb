-- The heirs that are read are modes, or none.
use Rattle.std.proofs.Common.{◌≡◌, ◌==◌, ℕ, ◌+◌, ◌≤◌, List, [], ◌∷◌, length, map, Bool, true, false, Option, Some, None, if◌then◌else◌, nat_le, slice_index_or, zero, suc, refl, arith}
use Rattle.std.proofs.lemmas.List.{length-map}
use Rattle.std.specs.Prelude.{bytes_eq}
use Rattle.std.specs.List.{list_all}
use Rattle.std.proofs.lemmas.Bool.{and_parts}
use Rattle.std.proofs.lemmas.Bool.Decides.{nat_tests}
use Rattle.toml.specs.Data.{Data, Members, get}
use Rattle.kr_table.specs.Reading.{number_from, text_of}
use Rattle.kr_ghost_table.specs.Tables.{is_heir, are_heirs, heir_at}
use Rattle.kr_ghost_table.specs.Reading.{heir, table_heirs}

either : (b : Bool) (i j n : ℕ) → i ≤ n → j ≤ n → (if b then i else j) ≤ n
either true i j n h k = h
either false i j n h k = k

number_bound : (i : ℕ) (modes : List (List ℕ)) (n : List ℕ) → number_from (i + 1) modes n ≤ i + length modes
number_bound i [] n = omega arith
number_bound i (m ∷ ms) n =
    let more = number_bound (i + 1) ms n in
    either (bytes_eq m n) (i + 1) (number_from (i + 1 + 1) ms n) (i + length (m ∷ ms)) (omega arith) (omega (arith, more))

within : (modes names : List (List ℕ)) (d : Data) → list_all (is_heir (length modes)) (map (heir modes d) names) ≡ true
within modes [] d = refl
within modes (n ∷ ns) d =
    let low = number_bound 0 modes (text_of (get n d)) in
    let here : nat_le (heir modes d n) (length modes) ≡ true = grind (arith, nat_tests, low) in
    rw (here, within modes ns d)

same : (n m : ℕ) → n ≡ m → (n == m) ≡ true
same n m h = grind (arith, nat_tests)

pub all_heirs : (modes : List (List ℕ)) (d : Data) (o : Option Members) → are_heirs (length modes) (table_heirs modes d o) ≡ true
all_heirs modes d None = refl
all_heirs modes d (Some ms) = rw (same (length (map (heir modes d) modes)) (length modes) (length-map modes (heir modes d)), within modes modes d)

all_at : (m : ℕ) (hs : List ℕ) (i : ℕ) → list_all (is_heir m) hs ≡ true → slice_index_or hs i 0 ≤ m
all_at m [] i h = omega arith
all_at m (x ∷ xs) zero h = let here : nat_le x m ≡ true = (and_parts (is_heir m x) (list_all (is_heir m) xs) h).0 in grind (arith, nat_tests)
all_at m (x ∷ xs) (suc i) h = all_at m xs i ((and_parts (is_heir m x) (list_all (is_heir m) xs) h).1)

-- the heir of a mode, or of none, is a mode or none
pub heir_within : (m : ℕ) (hs : List ℕ) (h : ℕ) → list_all (is_heir m) hs ≡ true → heir_at hs h ≤ m
heir_within m hs zero k = omega arith
heir_within m hs (suc h) k = all_at m hs h k
