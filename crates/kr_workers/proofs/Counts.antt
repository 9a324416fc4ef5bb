-- How many events are of a transaction.
use Rattle.std.proofs.Common.{◌≡◌, ℕ, zero, suc, ◌+◌, ◌-◌, ◌<◌, ◌≤◌, ◌==◌, ◌&&◌, ◌||◌, Bool, true, false, cond, List, [], ◌∷◌, ◌++◌, length, length-append, take, get_or, min, add-one, refl, sym, ap, ◌∙◌, subst, arith, map, rules}
use Rattle.std.specs.Prelude.{slice_index_or, nat_eq, nat_lt, ◌≢◌, ◌↔◌, IsTrue, All}
use Rattle.std.specs.List.{count_by}
use Rattle.std.specs.HashMap.{HashMap, get}
use Rattle.std.specs.Prelude.{unwrap_or, Option, Some, None}
use Rattle.std.proofs.lemmas.Bool.{eqb-true, eq-eqb}
use Rattle.std.proofs.lemmas.Bool.Decides.{nat_tests}
use Rattle.std.proofs.lemmas.List.{get_or_append_left, get_or_push, get_or-map, get_or_default, take_all, take_more, length-take-le, length-map}
use Rattle.std.proofs.lemmas.List.Elements.{All-push}
use Rattle.std.proofs.lemmas.List.Sums.{count_by_more_yes, count_by_more_no, count_by-le-length}
use Rattle.kr_model.specs.declared.Event.{Event}
use Rattle.kr_model.specs.declared.Op.TheVariants.{Go}
use Rattle.kr_script.specs.declared.not_done.StepFault.{StepFault}
use Rattle.kr_workers.specs.Follows.{AreRising}
use Rattle.kr_workers.specs.Dealt.{txn_at}
use Rattle.kr_workers.specs.declared.left_out.LeftOut.{LeftOut}
use Rattle.kr_workers.specs.Counts.{done_by, missed_before, count_in}
use Rattle.kr_workers.specs.Placed.{AreNumbers, AreCounts, IsNumber, IsStart, IsBetween}

nobody : Event
nobody = record { txn = 0; op = Go }

-- No test says both.
pub not_both : (b : Bool) → b ≡ true → b ≡ false → ⊥
not_both b t f = cc

-- What never holds, and a test that says no.
pub never : (A : Type 0) → (A → ⊥) → IsTrue false ↔ A
never A not = (λ yes. absurd (not_both false yes refl), λ a. absurd (not a))

-- An event of the transaction more.
pub done_own : (t k : ℕ) (es : List Event) → k < length es → txn_at es k ≡ t → done_by t (take (k + 1) es) ≡ done_by t (take k es) + 1
done_own t k es within own = count_by_more_yes (λ e. e.txn == t) es k (record { txn = 0; op = Go }) within (eq-eqb (txn_at es k) t own)

-- An event of another more.
pub done_other : (t k : ℕ) (es : List Event) → k < length es → (txn_at es k == t) ≡ false → done_by t (take (k + 1) es) ≡ done_by t (take k es)
done_other t k es within other = count_by_more_no (λ e. e.txn == t) es k (record { txn = 0; op = Go }) within other

-- The number that was found is the event's, and no other.
pub number_found : (es : List Event) (k t it n : ℕ) (found : Option ℕ) → ((m : ℕ) → (found ≡ Some m) ↔ IsNumber es k t m) → found ≡ Some it → (it ≡ n) ↔ IsNumber es k t n
number_found es k t it n found are is = (λ same. (are n).0 (is ∙ ap Some same), λ number. ap (λ (o : Option ℕ). unwrap_or o it) (sym is ∙ (are n).1 number))

-- Where none was found, it has none.
pub none_found : (es : List Event) (k t n : ℕ) (found : Option ℕ) → ((m : ℕ) → (found ≡ Some m) ↔ IsNumber es k t m) → found ≡ None → IsNumber es k t n → ⊥
none_found es k t n found are is number = search (rules, sym is ∙ (are n).1 number)

-- One number more.
pub numbers_more : (numbers longer : List ℕ) (es : List Event) (i n : ℕ) → AreNumbers numbers es → length numbers ≡ i → longer ≡ numbers ++ n ∷ [] → n ≡ done_by (txn_at es i) (take (i + 1) es) → AreNumbers longer es
numbers_more numbers longer es i n are long more is = record { each = λ k within. by k within (k == i) refl }
  where
    by : (k : ℕ) → k < length longer → (b : Bool) → (k == i) ≡ b → slice_index_or longer k 0 ≡ done_by (txn_at es k) (take (k + 1) es)
    by k within true same =
        let k_is : k ≡ i = eqb-true k i same in
        ap (λ (l : List ℕ). slice_index_or l k 0) more ∙ get_or_push numbers n 0 k (long ∙ sym k_is) ∙ is ∙ ap (λ (j : ℕ). done_by (txn_at es j) (take (j + 1) es)) (sym k_is)
    by k within false other =
        let total : length longer ≡ length numbers + 1 = ap length more ∙ length-append numbers (n ∷ []) in
        let before : k < length numbers = grind (arith, nat_tests) in
        ap (λ (l : List ℕ). slice_index_or l k 0) more ∙ get_or_append_left numbers (n ∷ []) 0 k before ∙ are.each k before

pub longer_by_one : (numbers longer : List ℕ) (n i : ℕ) → longer ≡ numbers ++ n ∷ [] → length numbers ≡ i → length longer ≡ i + 1
longer_by_one numbers longer n i more long = ap length more ∙ length-append numbers (n ∷ []) ∙ ap (λ (x : ℕ). x + 1) long

-- One count more.
pub counts_more : {S : Type 0} (m w : HashMap ℕ ℕ S) (es : List Event) (i t n : ℕ) → AreCounts m (take i es) → i < length es → txn_at es i ≡ t → n ≡ count_in m t + 1
    → ((q : ℕ) → get nat_eq w q ≡ cond (nat_eq t q) (Some n) (get nat_eq m q))
    → AreCounts w (take (i + 1) es)
counts_more m w es i t n are within own is put u = ap (λ (o : Option ℕ). unwrap_or o 0) (put u) ∙ by (u == t) refl
  where
    by : (b : Bool) → (u == t) ≡ b → unwrap_or (cond (nat_eq t u) (Some n) (get nat_eq m u)) 0 ≡ done_by u (take (i + 1) es)
    by true same =
        let u_is : u ≡ t = eqb-true u t same in
        ap (λ (c : Bool). unwrap_or (cond c (Some n) (get nat_eq m u)) 0) (eq-eqb t u (sym u_is))
        ∙ is ∙ ap (λ (x : ℕ). x + 1) (are t) ∙ sym (done_own t i es within own) ∙ ap (λ (v : ℕ). done_by v (take (i + 1) es)) (sym u_is)
    by false other =
        ap (λ (c : Bool). unwrap_or (cond c (Some n) (get nat_eq m u)) 0) swapped
        ∙ are u ∙ sym (done_other u i es within (ap (λ (v : ℕ). v == u) own ∙ swapped))
      where
        swapped : (t == u) ≡ false
        swapped = grind (arith, nat_tests)

-- The next number is that of the event.
pub next_number : {S : Type 0} (m : HashMap ℕ ℕ S) (es : List Event) (i t : ℕ) → AreCounts m (take i es) → i < length es → txn_at es i ≡ t → count_in m t + 1 ≡ done_by (txn_at es i) (take (i + 1) es)
next_number m es i t are within own = ap (λ (x : ℕ). x + 1) (are t) ∙ sym (done_own t i es within own) ∙ ap (λ (v : ℕ). done_by v (take (i + 1) es)) (sym own)

-- No more events are of a transaction than there are.
pub count_fits : {S : Type 0} (m : HashMap ℕ ℕ S) (es : List Event) (i t : ℕ) → AreCounts m (take i es) → i ≤ length es → count_in m t ≤ i
count_fits m es i t are within =
    let is : count_in m t ≡ done_by t (take i es) = are t in
    let fits : done_by t (take i es) ≤ length (take i es) = count_by-le-length (λ e. e.txn == t) (take i es) in
    let long : length (take i es) ≡ i = length-take-le i es within in
    omega arith

-- Faults in order --

-- A test that is passed just between two places is passed so often.
passed_up_to : {X : Type 0} (q : X → Bool) (xs : List X) (a b n : ℕ) → a ≤ b → n ≤ length xs
    → ((k : ℕ) (d : X) → k < length xs → a ≤ k → k < b → q (get_or xs k d) ≡ true)
    → ((k : ℕ) (d : X) → k < length xs → k < a → q (get_or xs k d) ≡ false)
    → ((k : ℕ) (d : X) → k < length xs → b ≤ k → q (get_or xs k d) ≡ false)
    → (d : X) → count_by q (take n xs) ≡ min n b - a
passed_up_to q xs a b zero le within pass below above d = let none : min 0 b - a ≡ 0 = omega arith in sym none
passed_up_to q xs a b (suc n) le within pass below above d = ap (λ (m : ℕ). count_by q (take m xs)) (sym (add-one n)) ∙ by (passed_up_to q xs a b n le (omega arith) pass below above d) (nat_lt n a) (nat_lt n b) refl refl
  where
    in' : n < length xs
    in' = omega arith

    by : count_by q (take n xs) ≡ min n b - a → (c e : Bool) → nat_lt n a ≡ c → nat_lt n b ≡ e → count_by q (take (n + 1) xs) ≡ min (suc n) b - a
    by ih true e is_c is_e =
        let low : n < a = grind (arith, nat_tests) in
        let more : min n b - a ≡ min (suc n) b - a = omega arith in
        count_by_more_no q xs n d in' (below n d in' low) ∙ ih ∙ more
    by ih false true is_c is_e =
        let from : a ≤ n = grind (arith, nat_tests) in
        let to : n < b = grind (arith, nat_tests) in
        let more : min n b - a + 1 ≡ min (suc n) b - a = omega arith in
        count_by_more_yes q xs n d in' (pass n d in' from to) ∙ ap (λ (x : ℕ). x + 1) ih ∙ more
    by ih false false is_c is_e =
        let to : b ≤ n = grind (arith, nat_tests) in
        let more : min n b - a ≡ min (suc n) b - a = omega arith in
        count_by_more_no q xs n d in' (above n d in' to) ∙ ih ∙ more

-- Two faults in order, of the same transaction or of two.
same_txn : (a i t n : ℕ) → (nat_lt a t || ((a == t) && nat_lt i n)) ≡ true → a ≡ t → ((a == t) && nat_lt i n) ≡ true
same_txn a i t n before same = grind (arith, nat_tests)

earlier_txn : (a i b j t : ℕ) → (nat_lt a b || ((a == b) && nat_lt i j)) ≡ true → b < t → a < t
earlier_txn a i b j t before less = grind (arith, nat_tests)

txn_less : (a i t n : ℕ) → (nat_lt a t || ((a == t) && nat_lt i n)) ≡ true → a ≢ t → a < t
txn_less a i t n before other = grind (arith, nat_tests)

not_of : (a i t n : ℕ) → a < t → ((a == t) && nat_lt i n) ≡ false
not_of a i t n less = grind (arith, nat_tests)

not_later : (a i t n : ℕ) → (nat_lt t a || ((t == a) && nat_lt n i)) ≡ true → ((a == t) && nat_lt i n) ≡ false
not_later a i t n after = grind (arith, nat_tests)

not_itself : (a t n : ℕ) → ((a == t) && nat_lt n n) ≡ false
not_itself a t n = grind (arith, nat_tests)

-- Of faults in order, those of a transaction before one of them are those from its first on.
pub missed_so_far : (faults : List StepFault) (txns : List ℕ) (i first : ℕ) (d : StepFault) → AreRising faults → txns ≡ map (λ f. f.txn) faults → i < length faults → IsStart txns i first
    → missed_before faults (get_or faults i d).txn (get_or faults i d).step ≡ i - first
missed_so_far faults txns i first d rising txns_are within start =
    ap (λ (l : List StepFault). missed_before l t n) (sym (take_all (length faults) faults (omega arith))) ∙ passed_up_to q faults first i (length faults) start.within (omega arith) pass below above d ∙ all
  where
    t : ℕ
    t = (get_or faults i d).txn

    n : ℕ
    n = (get_or faults i d).step

    q : StepFault → Bool
    q f = (f.txn == t) && nat_lt f.step n

    all : min (length faults) i - first ≡ i - first
    all = omega arith

    txn_is : (k : ℕ) → (e : StepFault) → k < length faults → slice_index_or txns k 0 ≡ (get_or faults k e).txn
    txn_is k e in' = ap (λ (l : List ℕ). slice_index_or l k 0) txns_are ∙ get_or-map (λ f. f.txn) faults k e 0 in'

    pass : (k : ℕ) (e : StepFault) → k < length faults → first ≤ k → k < i → q (get_or faults k e) ≡ true
    pass k e in' from to =
        let f = get_or faults k e in
        let g = get_or faults i e in
        let g_is : g ≡ get_or faults i d = get_or_default faults i e d within in
        let same : f.txn ≡ g.txn = sym (txn_is k e in') ∙ start.same k from (omega arith) ∙ txn_is i e within in
        subst (λ (h : StepFault). ((f.txn == h.txn) && nat_lt f.step h.step) ≡ true) g_is (same_txn f.txn f.step g.txn g.step (rising k i e to within) same)

    less : (e : StepFault) → 0 < first → (get_or faults (first - 1) e).txn < (get_or faults i e).txn
    less e some =
        let f = get_or faults (first - 1) e in
        let g = get_or faults i e in
        let in' : first - 1 < length faults = omega (arith, start.within) in
        let other : f.txn ≢ g.txn = λ is. start.other some (txn_is (first - 1) e in' ∙ is ∙ sym (txn_is i e within)) in
        txn_less f.txn f.step g.txn g.step (rising (first - 1) i e (omega (arith, start.within)) within) other

    below : (k : ℕ) (e : StepFault) → k < length faults → k < first → q (get_or faults k e) ≡ false
    below k e in' to = by (k == first - 1) refl
      where
        f : StepFault
        f = get_or faults k e

        g : StepFault
        g = get_or faults i e

        g_is : g ≡ get_or faults i d
        g_is = get_or_default faults i e d within

        done : f.txn < g.txn → q f ≡ false
        done l = subst (λ (h : StepFault). ((f.txn == h.txn) && nat_lt f.step h.step) ≡ false) g_is (not_of f.txn f.step g.txn g.step l)

        by : (b : Bool) → (k == first - 1) ≡ b → q f ≡ false
        by true same =
            let k_is : k ≡ first - 1 = eqb-true k (first - 1) same in
            done (subst (λ (m : ℕ). (get_or faults m e).txn < g.txn) (sym k_is) (less e (omega arith)))
        by false other =
            let h = get_or faults (first - 1) e in
            let apart : k < first - 1 = grind (arith, nat_tests) in
            done (earlier_txn f.txn f.step h.txn h.step g.txn (rising k (first - 1) e apart (omega (arith, start.within))) (less e (omega arith)))

    above : (k : ℕ) (e : StepFault) → k < length faults → i ≤ k → q (get_or faults k e) ≡ false
    above k e in' from = by (k == i) refl
      where
        f : StepFault
        f = get_or faults k e

        g : StepFault
        g = get_or faults i e

        g_is : g ≡ get_or faults i d
        g_is = get_or_default faults i e d within

        by : (b : Bool) → (k == i) ≡ b → q f ≡ false
        by true same =
            let f_is : f ≡ get_or faults i d = ap (λ (m : ℕ). get_or faults m e) (eqb-true k i same) ∙ g_is in
            subst (λ (h : StepFault). ((h.txn == t) && nat_lt h.step n) ≡ false) (sym f_is) (not_itself t t n)
        by false other =
            let apart : i < k = grind (arith, nat_tests) in
            subst (λ (h : StepFault). ((f.txn == h.txn) && nat_lt f.step h.step) ≡ false) g_is (not_later f.txn f.step g.txn g.step (rising i k e apart in'))

-- Steps that were left out --

txns_of_faults : (ls : List LeftOut) → map (λ l. l.fault.txn) ls ≡ map (λ f. f.txn) (map (λ l. l.fault) ls)
txns_of_faults [] = refl
txns_of_faults (l ∷ ls) = ap (λ (ts : List ℕ). l.fault.txn ∷ ts) (txns_of_faults ls)

-- Of its transaction, so many were left out before it.
pub missed_at : (ls : List LeftOut) (i first : ℕ) (l : LeftOut) → i < length ls → l ≡ get_or ls i l → IsStart (map (λ x. x.fault.txn) ls) i first → AreRising (map (λ x. x.fault) ls)
    → missed_before (map (λ x. x.fault) ls) l.fault.txn l.fault.step ≡ i - first
missed_at ls i first l within is start rising =
    let long : i < length faults = omega (arith, length-map ls (λ x. x.fault)) in
    ap (λ (f : StepFault). missed_before faults f.txn f.step) (sym fault_is) ∙ missed_so_far faults (map (λ x. x.fault.txn) ls) i first l.fault rising (txns_of_faults ls) long start
  where
    faults : List StepFault
    faults = map (λ x. x.fault) ls

    fault_is : get_or faults i l.fault ≡ l.fault
    fault_is = get_or-map (λ x. x.fault) ls i l l.fault within ∙ ap (λ (x : LeftOut). x.fault) (sym is)

-- One more that was left out where its transaction came to it.
pub placed_more : (es : List Event) (ls : List LeftOut) (i first : ℕ) (l : LeftOut) → i < length ls → l ≡ get_or ls i l → IsStart (map (λ x. x.fault.txn) ls) i first → IsBetween es (i - first) l
    → AreRising (map (λ x. x.fault) ls)
    → All (λ x. IsBetween es (missed_before (map (λ x. x.fault) ls) x.fault.txn x.fault.step) x) (take i ls)
    → All (λ x. IsBetween es (missed_before (map (λ x. x.fault) ls) x.fault.txn x.fault.step) x) (take (i + 1) ls)
placed_more es ls i first l within is start between rising so_far =
    subst (All placed) (sym (take_more ls i l within)) (All-push placed (take i ls) (get_or ls i l) so_far (subst placed is here))
  where
    placed : LeftOut → Type 0
    placed x = IsBetween es (missed_before (map (λ y. y.fault) ls) x.fault.txn x.fault.step) x

    here : placed l
    here = subst (λ (n : ℕ). IsBetween es n l) (sym (missed_at ls i first l within is start rising)) between

-- Where all were left out so, this one was.
pub placed_at : (es : List Event) (ls : List LeftOut) (i first : ℕ) (l : LeftOut) → i < length ls → l ≡ get_or ls i l → IsStart (map (λ x. x.fault.txn) ls) i first
    → AreRising (map (λ x. x.fault) ls)
    → All (λ x. IsBetween es (missed_before (map (λ x. x.fault) ls) x.fault.txn x.fault.step) x) ls
    → IsBetween es (i - first) l
placed_at es ls i first l within is start rising all =
    subst (λ (n : ℕ). IsBetween es n l) (missed_at ls i first l within is start rising)
    (subst (λ (x : LeftOut). IsBetween es (missed_before (map (λ y. y.fault) ls) x.fault.txn x.fault.step) x) (sym is) (all i l within))

-- The last place but the next.
pub starts_before : (txns : List ℕ) (i first : ℕ) → IsStart txns i first → IsStart txns (i + 1 - 1) first
starts_before txns i first start = let same : i ≡ i + 1 - 1 = omega arith in subst (λ (k : ℕ). IsStart txns k first) same start
