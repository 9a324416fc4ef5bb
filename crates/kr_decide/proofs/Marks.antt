-- A list of marks, with a place for each two modes up to 15.
use Rattle.std.proofs.Common.{ℕ, zero, suc, Bool, true, false, ◌≡◌, ◌<◌, ◌+◌, ◌*◌, ◌∙◌, ◌&&◌, ◌⊎◌, inl, inr, List, length, get_or, set, replicate, nat_lt, refl, sym, subst, arith}
use borrow.Author.Tests.{ltb-true, lt-ltb}
use Rattle.std.proofs.lemmas.Bool.{cases_eq, and_parts}
use Rattle.std.proofs.lemmas.List.{get_or-set_other}
use Rattle.std.proofs.lemmas.Grind.{get_or-set_at}
use Rattle.kr_decide.specs.Met.{marked}

record Parts (list : List Bool) (a b : ℕ) : Type 0 where
  first : a < 16
  second : b < 16
  there : get_or list (a * 16 + b) false ≡ true

parts_of : (list : List Bool) (a b : ℕ) → marked list a b ≡ true → Parts list a b
parts_of list a b h =
    let e = and_parts (nat_lt a 16) (nat_lt b 16 && get_or list (a * 16 + b) false) h in
    let f = and_parts (nat_lt b 16) (get_or list (a * 16 + b) false) e.1 in
    record { first = ltb-true a 16 e.0; second = ltb-true b 16 f.0; there = f.1 }

pub of_parts : (list : List Bool) (a b : ℕ) → a < 16 → b < 16 → get_or list (a * 16 + b) false ≡ true → marked list a b ≡ true
of_parts list a b ha hb there =
    subst (λ (t : Bool). (t && (nat_lt b 16 && get_or list (a * 16 + b) false)) ≡ true) (sym (lt-ltb a 16 ha))
    (subst (λ (t : Bool). (t && get_or list (a * 16 + b) false) ≡ true) (sym (lt-ltb b 16 hb)) there)

-- With the pair of a and b marked, what is marked was so before, or is that pair,
pub one_mark : (list : List Bool) (a b c d : ℕ) → a < 16 → b < 16 → marked (set list (a * 16 + b) true) c d ≡ true → (marked list c d ≡ true) ⊎ ((a ≡ c) × (b ≡ d))
one_mark list a b c d ha hb h = split (parts_of (set list (a * 16 + b) true) c d h) (cases_eq (c * 16 + d) (a * 16 + b))
  where
    split : Parts (set list (a * 16 + b) true) c d → (c * 16 + d ≡ a * 16 + b) ⊎ (c * 16 + d ≡ a * 16 + b → ⊥) → (marked list c d ≡ true) ⊎ ((a ≡ c) × (b ≡ d))
    split q (inl same) = let hd = q.second in inr (omega arith, omega arith)
    split q (inr apart) = inl (of_parts list c d q.first q.second (sym (get_or-set_other list (a * 16 + b) (c * 16 + d) true false apart) ∙ q.there))

-- what was marked is so,
pub mark_kept : (list : List Bool) (n c d : ℕ) → length list ≡ 256 → marked list c d ≡ true → marked (set list n true) c d ≡ true
mark_kept list n c d size h = split (parts_of list c d h) (cases_eq (c * 16 + d) n)
  where
    split : Parts list c d → (c * 16 + d ≡ n) ⊎ (c * 16 + d ≡ n → ⊥) → marked (set list n true) c d ≡ true
    split q (inl same) = let hc = q.first in let hd = q.second in of_parts (set list n true) c d hc hd (get_or-set_at list n (c * 16 + d) true false same (omega arith))
    split q (inr apart) = of_parts (set list n true) c d q.first q.second (get_or-set_other list n (c * 16 + d) true false apart ∙ q.there)

-- and that pair is.
pub mark_new : (list : List Bool) (a b : ℕ) → length list ≡ 256 → a < 16 → b < 16 → marked (set list (a * 16 + b) true) a b ≡ true
mark_new list a b size ha hb = of_parts (set list (a * 16 + b) true) a b ha hb (get_or-set_at list (a * 16 + b) (a * 16 + b) true false refl (omega arith))

pub none_marked : (n a b : ℕ) → marked (replicate n false) a b ≡ true → ⊥
none_marked n a b h = let q = parts_of (replicate n false) a b h in let e = q.there in let f = all_false n (a * 16 + b) in cc
  where
    all_false : (n k : ℕ) → get_or (replicate n false) k false ≡ false
    all_false zero k = refl
    all_false (suc n) zero = refl
    all_false (suc n) (suc k) = all_false n k
