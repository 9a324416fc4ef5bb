-- Marks grow by what is reached.
use Rattle.std.proofs.Common.{ℕ, zero, suc, ◌+◌, ◌*◌, ◌<◌, ◌≤◌, ◌≡◌, ◌⊎◌, inl, inr, refl, sym, ap, ◌∙◌, subst, arith, Bool, true, false, cond, List, length, get_or, set, replicate}
use Rattle.std.proofs.lemmas.List.{length-set, length-replicate, get_or-set_other}
use Rattle.std.proofs.lemmas.List.Sums.{sum_by-set}
use Rattle.std.proofs.lemmas.List.Folds.{sum_by-replicate}
use Rattle.std.proofs.lemmas.Grind.{get_or-set_at}
use Rattle.std.proofs.lemmas.Bool.{cases_eq}
use Rattle.kr_ghost.specs.Protocol.{GhostProtocol, IsLawfulGhost}
use Rattle.kr_ghost.specs.Safe.{free, start}
use Rattle.kr_ghost_decide.specs.declared.found.Found.{Found}
use Rattle.kr_ghost_decide.specs.Holds.{Fact, place, fact_at}
use Rattle.kr_ghost_decide.specs.Found.{IsReached, IsNew, IsFound, has, unmarked}
use Rattle.kr_ghost_decide.proofs.Numbers.{place_below, fact_back}

all_false : (n k : ℕ) → get_or (replicate n false) k false ≡ false
all_false zero k = refl
all_false (suc n) zero = refl
all_false (suc n) (suc k) = all_false n k

one_less : (marks : List Bool) (i : ℕ) → i < length marks → get_or marks i false ≡ false → unmarked (set marks i true) + 1 ≡ unmarked marks + 0
one_less marks i below none = subst (λ (b : Bool). unmarked (set marks i true) + cond b 0 1 ≡ unmarked marks + 0) none (sum_by-set (λ b. cond b 0 1) marks i true false below)

at_one : (marks : List Bool) (i j : ℕ) → get_or (set marks i true) j false ≡ true → (j ≡ i) ⊎ (get_or marks j false ≡ true)
at_one marks i j h = by (cases_eq j i)
  where
    by : (j ≡ i) ⊎ (j ≡ i → ⊥) → (j ≡ i) ⊎ (get_or marks j false ≡ true)
    by (inl e) = inl e
    by (inr d) = inr (sym (get_or-set_other marks i j true false d) ∙ h)

kept : (marks : List Bool) (i j : ℕ) → i < length marks → get_or marks j false ≡ true → get_or (set marks i true) j false ≡ true
kept marks i j below h = by (cases_eq j i)
  where
    by : (j ≡ i) ⊎ (j ≡ i → ⊥) → get_or (set marks i true) j false ≡ true
    by (inl e) = get_or-set_at marks i j true false e below
    by (inr d) = get_or-set_other marks i j true false d ∙ h

module _ (p : GhostProtocol) where
  reached_free : (b : Bool) → IsReached p (record { present = b; own = free; other = free })
  reached_free b = record { beside = start b; own = omega arith; other = omega arith }

  -- At first neither has anything, whether the key is present or not.
  pub found_start : (f : Found) (marks : List Bool) (n : ℕ) → n ≡ 294912 → marks ≡ replicate n false → f.marks.items ≡ set (set marks 0 true) 1 true → f.count ≡ 2 → IsFound p f
  found_start f marks n size none is two = record {
    size = ap length is ∙ length-set (set marks 0 true) 1 true ∙ length-set marks 0 true ∙ whole ∙ size;
    some = omega arith;
    total = total;
    ghost_start = ap (λ l. get_or l 0 false) is ∙ kept (set marks 0 true) 1 0 one_in (get_or-set_at marks 0 0 true false refl zero_in);
    start = ap (λ l. get_or l 1 false) is ∙ get_or-set_at (set marks 0 true) 1 1 true false refl one_in;
    reached = λ k m. by k (at_one (set marks 0 true) 1 k (sym (ap (λ l. get_or l k false) is) ∙ m));
  }
    where
      whole : length marks ≡ n
      whole = ap length none ∙ length-replicate n false

      zero_in : 0 < length marks
      zero_in = let w = whole in omega arith

      one_in : 1 < length (set marks 0 true)
      one_in = let e = length-set marks 0 true in let w = whole in omega arith

      clear : (k : ℕ) → get_or marks k false ≡ false
      clear k = ap (λ l. get_or l k false) none ∙ all_false n k

      total : f.count + unmarked f.marks.items ≡ 294912
      total =
          let e : unmarked f.marks.items ≡ unmarked (set (set marks 0 true) 1 true) = ap unmarked is in
          let g : unmarked (set (set marks 0 true) 1 true) + 1 ≡ unmarked (set marks 0 true) + 0 = one_less (set marks 0 true) 1 one_in (get_or-set_other marks 0 1 true false (λ e. absurd (omega arith)) ∙ clear 1) in
          let h : unmarked (set marks 0 true) + 1 ≡ unmarked marks + 0 = one_less marks 0 zero_in (clear 0) in
          let r : unmarked marks ≡ unmarked (replicate n false) = ap unmarked none in
          let all : unmarked (replicate n false) ≡ n * 1 = sum_by-replicate (λ b. cond b 0 1) n false in
          omega arith

      second : (k : ℕ) → (k ≡ 0) ⊎ (get_or marks k false ≡ true) → IsReached p (fact_at k)
      second k (inl e) = subst (λ i. IsReached p (fact_at i)) (sym e) (reached_free false)
      second k (inr m) = let c = clear k in absurd (cc)

      by : (k : ℕ) → (k ≡ 1) ⊎ (get_or (set marks 0 true) k false ≡ true) → IsReached p (fact_at k)
      by k (inl e) = subst (λ i. IsReached p (fact_at i)) (sym e) (reached_free true)
      by k (inr m) = second k (at_one marks 0 k m)

  module _ (laws : IsLawfulGhost p) where
    pub new_below : (f : Fact) → IsReached p f → place f < 294912
    new_below f r = let w = laws.table in let few = w.few in let a = r.own in let b = r.other in place_below f (omega arith) (omega arith)

    pub new_back : (f : Fact) → IsReached p f → fact_at (place f) ≡ f
    new_back f r = let w = laws.table in let few = w.few in let b = r.other in fact_back f (omega arith)

    -- What is new and reached is marked.
    pub mark_found : (f g : Found) (q : Fact) → IsFound p f → IsNew p f.marks.items q → g.marks.items ≡ set f.marks.items (place q) true → g.count ≡ f.count + 1 → IsFound p g
    mark_found f g q found is_new is more = record {
      size = ap length is ∙ length-set f.marks.items (place q) true ∙ found.size;
      some = omega arith;
      total = total;
      ghost_start = ap (λ l. get_or l 0 false) is ∙ kept f.marks.items (place q) 0 below found.ghost_start;
      start = ap (λ l. get_or l 1 false) is ∙ kept f.marks.items (place q) 1 below found.start;
      reached = λ k m. by k (at_one f.marks.items (place q) k (sym (ap (λ l. get_or l k false) is) ∙ m));
    }
      where
        below : place q < length f.marks.items
        below = let e = new_below q is_new.reached in let z = found.size in omega arith

        total : g.count + unmarked g.marks.items ≡ 294912
        total =
            let e : unmarked g.marks.items ≡ unmarked (set f.marks.items (place q) true) = ap unmarked is in
            let h : unmarked (set f.marks.items (place q) true) + 1 ≡ unmarked f.marks.items + 0 = one_less f.marks.items (place q) below is_new.new in
            let z = found.total in
            omega arith

        by : (k : ℕ) → (k ≡ place q) ⊎ (get_or f.marks.items k false ≡ true) → IsReached p (fact_at k)
        by k (inl e) = subst (λ i. IsReached p (fact_at i)) (sym e) (subst (λ h. IsReached p h) (sym (new_back q is_new.reached)) is_new.reached)
        by k (inr m) = found.reached k m

    -- What is marked is reached.
    pub marked_reached : (f : Found) (q : Fact) → IsFound p f → q.own.mode ≤ 15 → q.other.mode ≤ 15 → has f.marks.items q ≡ true → IsReached p q
    marked_reached f q found a b m = subst (λ h. IsReached p h) (fact_back q b) (found.reached (place q) m)
