-- Numbers that were begun, by place.
use Rattle.std.proofs.Common.{◌≡◌, ℕ, zero, suc, ◌+◌, ◌<◌, ◌==◌, ◌&&◌, ◌||◌, Bool, true, false, cond, List, [], ◌∷◌, ◌++◌, length, Option, Some, None, is_some, refl, ap, sym, ◌∙◌, subst, arith, length-append, length-set}
use Rattle.std.specs.Prelude.{slice_set, nat_eq}
use Rattle.std.specs.HashMap.{HashMap, get}
use Rattle.std.specs.Map.{lookup}
use Rattle.std.proofs.lemmas.Bool.{eqb-true, eq-eqb}
use Rattle.std.proofs.lemmas.Bool.Decides.{nat_tests}
use Rattle.kr_records.specs.declared.numbers.Number.{Number}
use Rattle.kr_records.specs.Numbers.{begun_by, was_begun, is_begun, number_at, IsPlace, ArePlaces, AreDistinct}

-- Truth values --

pub same_truth : (a b : Bool) → (a ≡ true → b ≡ true) → (b ≡ true → a ≡ true) → a ≡ b
same_truth true true f g = refl
same_truth true false f g = sym (f refl)
same_truth false true f g = g refl
same_truth false false f g = refl

and_parts : (a b : Bool) → (a && b) ≡ true → (a ≡ true) × (b ≡ true)
and_parts true true h = (refl, refl)
and_parts true false h = absurd (cc)
and_parts false b h = absurd (cc)

pub or_second : (a b : Bool) → b ≡ true → (a || b) ≡ true
or_second true b h = refl
or_second false b h = h

-- Which numbers were begun --

-- a number that stands somewhere was begun
pub begun_there : (ns : List Number) (t i : ℕ) → i < length ns → (number_at ns i).txn ≡ t → was_begun (begun_by ns) t ≡ true
begun_there [] t i l is = absurd (omega arith)
begun_there (x ∷ xs) t zero l is = ap (λ b. b || was_begun (begun_by xs) t) (eq-eqb x.txn t is)
begun_there (x ∷ xs) t (suc i) l is = or_second (x.txn == t) (was_begun (begun_by xs) t) (begun_there xs t i (omega arith) is)

-- and one that was begun stands somewhere
pub place_of_begun : (ns : List Number) (t : ℕ) → was_begun (begun_by ns) t ≡ true → (i : ℕ) × (i < length ns) × ((number_at ns i).txn ≡ t)
place_of_begun [] t h = absurd (cc)
place_of_begun (x ∷ xs) t h = by (x.txn == t) refl h (place_of_begun xs t)
  where
    by : (b : Bool) → (x.txn == t) ≡ b → (b || was_begun (begun_by xs) t) ≡ true → (was_begun (begun_by xs) t ≡ true → (i : ℕ) × (i < length xs) × ((number_at xs i).txn ≡ t))
        → (i : ℕ) × (i < length (x ∷ xs)) × ((number_at (x ∷ xs) i).txn ≡ t)
    by true is h later = (0, omega arith, eqb-true x.txn t is)
    by false is h later =
        let r = later h in
        (suc r.0, omega (arith, r.1), r.2)

-- the same with the seat
pub begun_there_by : (ns : List Number) (t k i : ℕ) → i < length ns → (number_at ns i).txn ≡ t → (number_at ns i).seat ≡ k → is_begun (begun_by ns) t k ≡ true
begun_there_by [] t k i l is seat = absurd (omega arith)
begun_there_by (x ∷ xs) t k zero l is seat = (λ j. (eq-eqb x.txn t is j && eq-eqb x.seat k seat j) || is_begun (begun_by xs) t k)
begun_there_by (x ∷ xs) t k (suc i) l is seat = or_second ((x.txn == t) && (x.seat == k)) (is_begun (begun_by xs) t k) (begun_there_by xs t k i (omega arith) is seat)

pub place_of_begun_by : (ns : List Number) (t k : ℕ) → is_begun (begun_by ns) t k ≡ true → (i : ℕ) × (i < length ns) × ((number_at ns i).txn ≡ t) × ((number_at ns i).seat ≡ k)
place_of_begun_by [] t k h = absurd (cc)
place_of_begun_by (x ∷ xs) t k h = by ((x.txn == t) && (x.seat == k)) refl h (place_of_begun_by xs t k)
  where
    by : (b : Bool) → ((x.txn == t) && (x.seat == k)) ≡ b → (b || is_begun (begun_by xs) t k) ≡ true
        → (is_begun (begun_by xs) t k ≡ true → (i : ℕ) × (i < length xs) × ((number_at xs i).txn ≡ t) × ((number_at xs i).seat ≡ k))
        → (i : ℕ) × (i < length (x ∷ xs)) × ((number_at (x ∷ xs) i).txn ≡ t) × ((number_at (x ∷ xs) i).seat ≡ k)
    by true is h later =
        let both = and_parts (x.txn == t) (x.seat == k) is in
        (0, omega arith, eqb-true x.txn t both.0, eqb-true x.seat k both.1)
    by false is h later =
        let r = later h in
        (suc r.0, omega (arith, r.1), r.2, r.3)

-- one that a seat began was begun
pub begun_by_one : (ns : List Number) (t k : ℕ) → is_begun (begun_by ns) t k ≡ true → was_begun (begun_by ns) t ≡ true
begun_by_one ns t k h =
    let r = place_of_begun_by ns t k h in
    begun_there ns t r.0 r.1 r.2

-- it stays begun where one more is
pub still_begun : (ns : List (ℕ × ℕ)) (n : ℕ × ℕ) (t : ℕ) → was_begun ns t ≡ true → was_begun (ns ++ n ∷ []) t ≡ true
still_begun [] n t h = absurd (cc)
still_begun (x ∷ xs) n t h = by (x.0 == t) h (still_begun xs n t)
  where
    by : (b : Bool) → (b || was_begun xs t) ≡ true → (was_begun xs t ≡ true → was_begun (xs ++ n ∷ []) t ≡ true) → (b || was_begun (xs ++ n ∷ []) t) ≡ true
    by true h later = refl
    by false h later = later h

pub still_begun_by : (ns : List (ℕ × ℕ)) (n : ℕ × ℕ) (t k : ℕ) → is_begun ns t k ≡ true → is_begun (ns ++ n ∷ []) t k ≡ true
still_begun_by [] n t k h = absurd (cc)
still_begun_by (x ∷ xs) n t k h = by ((x.0 == t) && (x.1 == k)) h (still_begun_by xs n t k)
  where
    by : (b : Bool) → (b || is_begun xs t k) ≡ true → (is_begun xs t k ≡ true → is_begun (xs ++ n ∷ []) t k ≡ true) → (b || is_begun (xs ++ n ∷ []) t k) ≡ true
    by true h later = refl
    by false h later = later h

-- Places --

pub are_distinct : {S : Type 0} (places : HashMap ℕ ℕ S) (ns : List Number) → ArePlaces places ns → AreDistinct ns
are_distinct places ns a i j li lj same =
    let one : get nat_eq places (number_at ns i).txn ≡ Some i = a.each i li in
    let other : get nat_eq places (number_at ns j).txn ≡ Some j = a.each j lj in
    let both : Some i ≡ Some j = sym one ∙ ap (get nat_eq places) same ∙ other in
    cc (both)

pub is_place : {S : Type 0} (places : HashMap ℕ ℕ S) (ns : List Number) (t i : ℕ) → ArePlaces places ns → get nat_eq places t ≡ Some i → IsPlace ns t i
is_place places ns t i a found =
    let r = a.true_of t i found in
    record {
      within = r.0;
      here = r.1;
      only = λ j l is. are_distinct places ns a j i l r.0 (is ∙ sym r.1);
    }

-- a number is found exactly where it was begun
pub found_begun : {S : Type 0} (places : HashMap ℕ ℕ S) (ns : List Number) (t : ℕ) → ArePlaces places ns → is_some (get nat_eq places t) ≡ was_begun (begun_by ns) t
found_begun places ns t a = same_truth (is_some (get nat_eq places t)) (was_begun (begun_by ns) t) (there (get nat_eq places t) refl) begun
  where
    there : (o : Option ℕ) → get nat_eq places t ≡ o → is_some o ≡ true → was_begun (begun_by ns) t ≡ true
    there None is h = absurd (cc)
    there (Some i) is h =
        let r = a.true_of t i is in
        begun_there ns t i r.0 r.1

    begun : was_begun (begun_by ns) t ≡ true → is_some (get nat_eq places t) ≡ true
    begun h =
        let r = place_of_begun ns t h in
        ap is_some (ap (get nat_eq places) (sym r.2) ∙ a.each r.0 r.1)

-- at its place stands the seat that began it
pub seat_there : (ns : List Number) (t k i : ℕ) → IsPlace ns t i → ((number_at ns i).seat == k) ≡ is_begun (begun_by ns) t k
seat_there ns t k i p = same_truth ((number_at ns i).seat == k) (is_begun (begun_by ns) t k) (λ h. begun_there_by ns t k i p.within p.here (eqb-true (number_at ns i).seat k h)) back
  where
    back : is_begun (begun_by ns) t k ≡ true → ((number_at ns i).seat == k) ≡ true
    back h =
        let r = place_of_begun_by ns t k h in
        eq-eqb (number_at ns i).seat k (ap (λ (j : ℕ). (number_at ns j).seat) (sym (p.only r.0 r.1 r.2)) ∙ r.3)

pub never_begun_by : (ns : List Number) (t k : ℕ) → was_begun (begun_by ns) t ≡ false → is_begun (begun_by ns) t k ≡ false
never_begun_by ns t k none = by (is_begun (begun_by ns) t k) refl
  where
    by : (b : Bool) → is_begun (begun_by ns) t k ≡ b → b ≡ false
    by true h = sym (begun_by_one ns t k h) ∙ none
    by false h = refl

at_old : (ns : List Number) (n : Number) (i : ℕ) → i < length ns → number_at (ns ++ n ∷ []) i ≡ number_at ns i
at_old [] n i l = absurd (omega arith)
at_old (x ∷ xs) n zero l = refl
at_old (x ∷ xs) n (suc i) l = at_old xs n i (omega arith)

at_last : (ns : List Number) (n : Number) → number_at (ns ++ n ∷ []) (length ns) ≡ n
at_last [] n = refl
at_last (x ∷ xs) n = at_last xs n

tied : (t u : ℕ) → nat_eq t u ≡ true → t ≡ u
tied t u e = eqb-true t u e

tied_same : (t : ℕ) → nat_eq t t ≡ true
tied_same t = eq-eqb t t refl

-- One number more, which wasn't begun, and its place.
pub places_more : {S : Type 0} (m w : HashMap ℕ ℕ S) (ns : List Number) (n : Number) → ArePlaces m ns → was_begun (begun_by ns) n.txn ≡ false
    → ((u : ℕ) → get nat_eq w u ≡ cond (nat_eq n.txn u) (Some (length ns)) (get nat_eq m u)) → ArePlaces w (ns ++ n ∷ [])
places_more m w ns n a new is = record { each = each; true_of = λ t i found. told t i (nat_eq n.txn t) refl (sym (is t) ∙ found) }
  where
    longer : length (ns ++ n ∷ []) ≡ length ns + 1
    longer = length-append ns (n ∷ [])

    other : (i : ℕ) → i < length ns → (b : Bool) → nat_eq n.txn (number_at ns i).txn ≡ b → b ≡ false
    other i l true e = sym (begun_there ns n.txn i l (sym (tied n.txn (number_at ns i).txn e))) ∙ new
    other i l false e = refl

    old : (i : ℕ) → i < length ns → get nat_eq w (number_at (ns ++ n ∷ []) i).txn ≡ Some i
    old i l =
        ap (λ (x : Number). get nat_eq w x.txn) (at_old ns n i l) ∙ is (number_at ns i).txn
        ∙ ap (λ (b : Bool). cond b (Some (length ns)) (get nat_eq m (number_at ns i).txn)) (other i l (nat_eq n.txn (number_at ns i).txn) refl) ∙ a.each i l

    last : get nat_eq w (number_at (ns ++ n ∷ []) (length ns)).txn ≡ Some (length ns)
    last =
        ap (λ (x : Number). get nat_eq w x.txn) (at_last ns n) ∙ is n.txn
        ∙ ap (λ (b : Bool). cond b (Some (length ns)) (get nat_eq m n.txn)) (tied_same n.txn)

    each : (i : ℕ) → i < length (ns ++ n ∷ []) → get nat_eq w (number_at (ns ++ n ∷ []) i).txn ≡ Some i
    each i l = by (i == length ns) refl
      where
        by : (b : Bool) → (i == length ns) ≡ b → get nat_eq w (number_at (ns ++ n ∷ []) i).txn ≡ Some i
        by true e =
            let here : length ns ≡ i = sym (eqb-true i (length ns) e) in
            subst (λ (j : ℕ). get nat_eq w (number_at (ns ++ n ∷ []) j).txn ≡ Some j) here last
        by false e = old i (grind (arith, nat_tests, longer))

    told : (t i : ℕ) (b : Bool) → nat_eq n.txn t ≡ b → cond b (Some (length ns)) (get nat_eq m t) ≡ Some i → (i < length (ns ++ n ∷ [])) × ((number_at (ns ++ n ∷ []) i).txn ≡ t)
    told t i true e found =
        let here : length ns ≡ i = cc (found) in
        subst (λ (j : ℕ). (j < length (ns ++ n ∷ [])) × ((number_at (ns ++ n ∷ []) j).txn ≡ t)) here
        (omega (arith, longer), ap (λ (x : Number). x.txn) (at_last ns n) ∙ tied n.txn t e)
    told t i false e found =
        let r = a.true_of t i found in
        (omega (arith, longer, r.0), ap (λ (x : Number). x.txn) (at_old ns n i r.0) ∙ r.1)

-- A change at one place that leaves the number.
txn_stays : (ns : List Number) (p : ℕ) (n : Number) → n.txn ≡ (number_at ns p).txn → (i : ℕ) → (number_at (slice_set ns p n) i).txn ≡ (number_at ns i).txn
txn_stays [] p n same i = refl
txn_stays (x ∷ xs) zero n same zero = same
txn_stays (x ∷ xs) zero n same (suc i) = refl
txn_stays (x ∷ xs) (suc p) n same zero = refl
txn_stays (x ∷ xs) (suc p) n same (suc i) = txn_stays xs p n same i

pub places_stay : {S : Type 0} (m : HashMap ℕ ℕ S) (ns : List Number) (p : ℕ) (n : Number) → ArePlaces m ns → n.txn ≡ (number_at ns p).txn → ArePlaces m (slice_set ns p n)
places_stay m ns p n a same = record {
  each = λ i l. ap (get nat_eq m) (txn_stays ns p n same i) ∙ a.each i (subst (λ (k : ℕ). i < k) (length-set ns p n) l);
  true_of = λ t i found. (subst (λ (k : ℕ). i < k) (sym (length-set ns p n)) (a.true_of t i found).0, txn_stays ns p n same i ∙ (a.true_of t i found).1);
}

pub same_places : {S : Type 0} (m w : HashMap ℕ ℕ S) (ns : List Number) → w.entries ≡ m.entries → ArePlaces m ns → ArePlaces w ns
same_places m w ns same a = record {
  each = λ i l. ap (lookup (nat_eq (number_at ns i).txn)) same ∙ a.each i l;
  true_of = λ t i found. a.true_of t i (sym (ap (lookup (nat_eq t)) same) ∙ found);
}
