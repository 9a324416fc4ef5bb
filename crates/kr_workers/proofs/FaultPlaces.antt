-- Faults in order, and the search for one of them.
use Rattle.std.proofs.Common.{◌≡◌, ℕ, ◌+◌, ◌-◌, ◌<◌, ◌==◌, ◌&&◌, ◌||◌, Bool, true, false, cond, List, length, refl, ap, sym, ◌∙◌, subst, arith, get_or}
use Rattle.std.specs.Prelude.{nat_lt}
use Rattle.std.specs.List.Sorted.{IsPartitionedBy}
use Rattle.std.proofs.lemmas.Bool.{eqb-true}
use Rattle.std.proofs.lemmas.Bool.Decides.{nat_tests}
use Rattle.std.proofs.lemmas.List.{get_or_read}
use Rattle.std.proofs.lemmas.List.Folds.{list_any_at, list_any_none}
use Rattle.kr_script.specs.declared.not_done.StepFault.{StepFault}
use Rattle.kr_workers.specs.declared.wanted.Fate.TheVariants.{Done, Missed, Stuck}
use Rattle.kr_workers.specs.Follows.{is_of, is_before, is_deadlock, is_missed, is_stuck, AreRising}
use Rattle.kr_workers.specs.Fates.{fate_of, IsPlace}

-- Order --

-- Whether the pair a, i comes before b, j.
abbrev pub earlier : ℕ → ℕ → ℕ → ℕ → Bool
earlier a i b j = nat_lt a b || ((a == b) && nat_lt i j)

earlier_yet : (a i b j t n : ℕ) → earlier b j t n ≡ true → earlier a i b j ≡ true → earlier a i t n ≡ true
earlier_yet a i b j t n h k = grind (arith, nat_tests)

earlier_apart : (a i t n : ℕ) → earlier a i t n ≡ true → ((a == t) && (i == n)) ≡ false
earlier_apart a i t n h = grind (arith, nat_tests)

later_apart : (a i b j t n : ℕ) → earlier a i t n ≡ false → earlier a i b j ≡ true → ((b == t) && (j == n)) ≡ false
later_apart a i b j t n h k = grind (arith, nat_tests)

-- Rising faults --

-- One fault more that comes after the one before it.
pub rising_more : (faults : List StepFault) (i : ℕ) (f e : StepFault) → 0 < i → i < length faults
    → f ≡ get_or faults i f → e ≡ get_or faults (i - 1) e → is_before f.txn f.step e ≡ true
    → ((j k : ℕ) (d : StepFault) → j < k → k < i → is_before (get_or faults k d).txn (get_or faults k d).step (get_or faults j d) ≡ true)
    → (j k : ℕ) (d : StepFault) → j < k → k < i + 1 → is_before (get_or faults k d).txn (get_or faults k d).step (get_or faults j d) ≡ true
rising_more faults i f e first within f_is e_is before rising j k d jk ki = by (k == i) refl
  where
    step : is_before (get_or faults i d).txn (get_or faults i d).step (get_or faults (i - 1) d) ≡ true
    step =
        let ft : f ≡ get_or faults i d = get_or_read faults i f within f_is d in
        let et : e ≡ get_or faults (i - 1) d = get_or_read faults (i - 1) e (omega arith) e_is d in
        subst (λ (g : StepFault). is_before g.txn g.step (get_or faults (i - 1) d) ≡ true) ft (subst (λ (g : StepFault). is_before f.txn f.step g ≡ true) et before)

    last : (c : Bool) → (j == i - 1) ≡ c → j < i → is_before (get_or faults i d).txn (get_or faults i d).step (get_or faults j d) ≡ true
    last true is l = subst (λ (m : ℕ). is_before (get_or faults i d).txn (get_or faults i d).step (get_or faults m d) ≡ true) (sym (eqb-true j (i - 1) is)) step
    last false is l =
        let g = get_or faults j d in
        let h = get_or faults (i - 1) d in
        earlier_yet g.txn g.step h.txn h.step (get_or faults i d).txn (get_or faults i d).step step (rising j (i - 1) d (grind (arith, nat_tests)) (omega arith))

    by : (c : Bool) → (k == i) ≡ c → is_before (get_or faults k d).txn (get_or faults k d).step (get_or faults j d) ≡ true
    by true is =
        let same : k ≡ i = eqb-true k i is in
        subst (λ (m : ℕ). is_before (get_or faults m d).txn (get_or faults m d).step (get_or faults j d) ≡ true) (sym same) (last (j == i - 1) refl (omega arith))
    by false is = rising j k d jk (grind (arith, nat_tests))

-- One that doesn't come after the one before it.
pub not_rising : (faults : List StepFault) (i : ℕ) (f e : StepFault) → 0 < i → i < length faults
    → f ≡ get_or faults i f → e ≡ get_or faults (i - 1) e → is_before f.txn f.step e ≡ false → AreRising faults → false ≡ true
not_rising faults i f e first within f_is e_is before rising =
    let et : e ≡ get_or faults (i - 1) f = get_or_read faults (i - 1) e (omega arith) e_is f in
    sym (subst (λ (g : StepFault). is_before g.txn g.step (get_or faults (i - 1) f) ≡ false) f_is (subst (λ (g : StepFault). is_before f.txn f.step g ≡ false) et before))
    ∙ rising (i - 1) i f (omega arith) within

-- Rising faults are parted by a step: those before it stand first.
pub parted : (faults : List StepFault) (t n : ℕ) → AreRising faults → IsPartitionedBy (is_before t n) faults
parted faults t n rising i j d ij within later = by (i == j) refl
  where
    by : (c : Bool) → (i == j) ≡ c → is_before t n (get_or faults i d) ≡ true
    by true is = subst (λ (m : ℕ). is_before t n (get_or faults m d) ≡ true) (sym (eqb-true i j is)) later
    by false is =
        let f = get_or faults i d in
        let g = get_or faults j d in
        earlier_yet f.txn f.step g.txn g.step t n later (rising i j d (grind (arith, nat_tests)) within)

-- The search for a step --

-- No fault at any other place is of the step.
elsewhere : (faults : List StepFault) (t n p : ℕ) → AreRising faults → IsPlace faults t n p → (k : ℕ) (d : StepFault) → k < length faults → (k == p) ≡ false → is_of t n (get_or faults k d) ≡ false
elsewhere faults t n p rising place k d within other = by (nat_lt k p) refl
  where
    f : StepFault
    f = get_or faults k d

    by : (c : Bool) → nat_lt k p ≡ c → is_of t n f ≡ false
    by true is = earlier_apart f.txn f.step t n (place.parts.0 k d (omega arith) (grind (arith, nat_tests)))
    by false is =
        let g = get_or faults p d in
        let after : p < k = grind (arith, nat_tests) in
        later_apart g.txn g.step f.txn f.step t n (place.parts.1 p d (omega arith) (omega arith)) (rising p k d after within)

-- It was done where the fault at that place, if there is one, isn't of it.
pub fate_done : (faults : List StepFault) (t n p : ℕ) → AreRising faults → IsPlace faults t n p → (p < length faults → (d : StepFault) → is_of t n (get_or faults p d) ≡ false) → Done ≡ fate_of faults t n
fate_done faults t n p rising place none =
    ap (λ (b : Bool). cond b Stuck (cond false Missed Done)) (sym not_stuck) ∙ ap (λ (b : Bool). cond (is_stuck faults t n) Stuck (cond b Missed Done)) (sym not_missed)
  where
    nowhere : (k : ℕ) (d : StepFault) → k < length faults → is_of t n (get_or faults k d) ≡ false
    nowhere k d within = by (k == p) refl
      where
        by : (c : Bool) → (k == p) ≡ c → is_of t n (get_or faults k d) ≡ false
        by true is =
            let same : k ≡ p = eqb-true k p is in
            subst (λ (m : ℕ). is_of t n (get_or faults m d) ≡ false) (sym same) (none (omega arith) d)
        by false is = elsewhere faults t n p rising place k d within is

    not_missed : is_missed faults t n ≡ false
    not_missed = list_any_none (is_of t n) faults nowhere

    not_stuck : is_stuck faults t n ≡ false
    not_stuck = list_any_none (λ f. is_of t n f && is_deadlock f.cause) faults (λ k d within. ap (λ (b : Bool). b && is_deadlock (get_or faults k d).cause) (nowhere k d within))

-- Where it is, it was missed, and its cause says whether by a deadlock.
pub fate_there : (faults : List StepFault) (t n p : ℕ) → AreRising faults → IsPlace faults t n p → (f : StepFault) → p < length faults → f ≡ get_or faults p f → is_of t n f ≡ true → fate_of faults t n ≡ cond (is_deadlock f.cause) Stuck Missed
fate_there faults t n p rising place f within f_is of =
    ap (λ (b : Bool). cond b Stuck (cond (is_missed faults t n) Missed Done)) stuck ∙ ap (λ (b : Bool). cond (is_deadlock f.cause) Stuck (cond b Missed Done)) missed
  where
    missed : is_missed faults t n ≡ true
    missed = list_any_at (is_of t n) faults p f within (subst (λ (g : StepFault). is_of t n g ≡ true) f_is of)

    stuck : is_stuck faults t n ≡ is_deadlock f.cause
    stuck = by (is_deadlock f.cause) refl
      where
        by : (c : Bool) → is_deadlock f.cause ≡ c → is_stuck faults t n ≡ c
        by true is =
            list_any_at (λ g. is_of t n g && is_deadlock g.cause) faults p f within
            (subst (λ (g : StepFault). (is_of t n g && is_deadlock g.cause) ≡ true) f_is (ap (λ (b : Bool). b && is_deadlock f.cause) of ∙ is))
        by false is = list_any_none (λ g. is_of t n g && is_deadlock g.cause) faults (λ k d in'. at k d in' (k == p) refl)
          where
            none : (b : Bool) → (b && false) ≡ false
            none true = refl
            none false = refl

            at : (k : ℕ) (d : StepFault) → k < length faults → (c : Bool) → (k == p) ≡ c → (is_of t n (get_or faults k d) && is_deadlock (get_or faults k d).cause) ≡ false
            at k d in' true same =
                let here : f ≡ get_or faults k d = get_or_read faults p f within f_is d ∙ ap (λ (m : ℕ). get_or faults m d) (sym (eqb-true k p same)) in
                subst (λ (g : StepFault). (is_of t n g && is_deadlock g.cause) ≡ false) here (ap (λ (b : Bool). is_of t n f && b) is ∙ none (is_of t n f))
            at k d in' false other = ap (λ (b : Bool). b && is_deadlock (get_or faults k d).cause) (elsewhere faults t n p rising place k d in' other)
