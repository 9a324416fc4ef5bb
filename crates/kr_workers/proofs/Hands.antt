-- How events are dealt to their transactions.
use Rattle.std.proofs.Common.{◌≡◌, ◌<◌, ◌≤◌, ◌+◌, ℕ, zero, suc, length, take, drop, get_or, length-drop, drop_of_length-le, append_assoc, Bool, true, false, cond, not, ◌==◌, List, [], ◌∷◌, ◌++◌, map, Option, Some, None, refl, sym, ap, ◌∙◌, subst, arith}
use Rattle.std.specs.Prelude.{All, filter, slice_index_or, unwrap_or, option_map, Vec}
use Rattle.std.specs.Global.{Global}
use Rattle.std.specs.BTreeMap.{BTreeMap, get, is_at}
use Rattle.std.specs.Ordering.{nat_cmp}
use Rattle.std.specs.Map.{lookup}
use Rattle.std.proofs.lemmas.Bool.Decides.{nat_tests}
use Rattle.std.proofs.lemmas.Bool.{eqb-true, eq-eqb}
use Rattle.std.proofs.lemmas.List.Elements.{All-push, filter-append}
use Rattle.std.proofs.lemmas.List.{append-nil, map-append, take_more, take-append-drop, take-take, length-take-le, drop-append-le}
use Rattle.kr_model.specs.declared.Event.{Event}
use Rattle.kr_model.specs.declared.Op.{Op}
use Rattle.kr_workers.specs.Follows.{ops_of}
use Rattle.kr_workers.specs.Dealt.{firsts, hand_of, hands_of, some_ops, between, AreHands, IsRun}

abbrev pub Hands : Type 0
Hands = BTreeMap ℕ (Vec Op Global)

abbrev pub Hand : Type 0
Hand = Vec Op Global

-- Maps --

-- A map finds a transaction where the number is the same.
pub same_test : (t u : ℕ) → is_at (nat_cmp t) u ≡ (u == t)
same_test t u = grind (arith, nat_tests)

-- What stands with a transaction in the list of a map is what the map finds.
pub hand_there : (es : List (ℕ × Hand)) (t : ℕ) → hand_of t (map (λ e. (e.0, e.1.items)) es) ≡ unwrap_or (option_map (λ (v : Hand). v.items) (lookup (is_at (nat_cmp t)) es)) []
hand_there [] t = refl
hand_there (e ∷ es) t =
    subst (λ (c : Bool). cond (e.0 == t) e.1.items (hand_of t (map (λ e. (e.0, e.1.items)) es)) ≡ unwrap_or (option_map (λ (v : Hand). v.items) (cond c (Some e.1) (lookup (is_at (nat_cmp t)) es))) []) (sym (same_test t e.0))
    (by (e.0 == t) (hand_there es t))
  where
    by : (b : Bool) → hand_of t (map (λ e. (e.0, e.1.items)) es) ≡ unwrap_or (option_map (λ (v : Hand). v.items) (lookup (is_at (nat_cmp t)) es)) []
        → cond b e.1.items (hand_of t (map (λ e. (e.0, e.1.items)) es)) ≡ unwrap_or (option_map (λ (v : Hand). v.items) (cond b (Some e.1) (lookup (is_at (nat_cmp t)) es))) []
    by true ih = refl
    by false ih = ih

-- A run of events more --

-- The operations of events one list after another.
pub ops_both : (es more : List Event) (t : ℕ) → ops_of t (es ++ more) ≡ ops_of t es ++ ops_of t more
ops_both [] more t = refl
ops_both (x ∷ xs) more t = by (x.txn == t) (ops_both xs more t)
  where
    by : (b : Bool) → ops_of t (xs ++ more) ≡ ops_of t xs ++ ops_of t more → cond b (x.op ∷ ops_of t (xs ++ more)) (ops_of t (xs ++ more)) ≡ cond b (x.op ∷ ops_of t xs) (ops_of t xs) ++ ops_of t more
    by true ih = ap (λ (os : List Op). x.op ∷ os) ih
    by false ih = ih

tail_of : (t : ℕ) (x : Event) (xs : List Event) → All (λ e. e.txn ≡ t) (x ∷ xs) → All (λ e. e.txn ≡ t) xs
tail_of t x xs all k d within = all (suc k) d (omega (arith, within))

-- Events of one transaction: all operations are its own.
pub ops_own : (run : List Event) (t : ℕ) → All (λ e. e.txn ≡ t) run → ops_of t run ≡ map (λ e. e.op) run
ops_own [] t all = refl
ops_own (x ∷ xs) t all =
    ap (λ (b : Bool). cond b (x.op ∷ ops_of t xs) (ops_of t xs)) (eq-eqb x.txn t (all 0 x (omega arith))) ∙ ap (λ (os : List Op). x.op ∷ os) (ops_own xs t (tail_of t x xs all))

-- And another has none.
pub ops_none : (run : List Event) (t u : ℕ) → (t == u) ≡ false → All (λ e. e.txn ≡ t) run → ops_of u run ≡ []
ops_none [] t u other all = refl
ops_none (x ∷ xs) t u other all =
    ap (λ (b : Bool). cond b (x.op ∷ ops_of u xs) (ops_of u xs)) (ap (λ (v : ℕ). v == u) (all 0 x (omega arith)) ∙ other) ∙ ops_none xs t u other (tail_of t x xs all)

-- The transaction, where it had no operations.
abbrev pub first_of : List Op → ℕ → List ℕ
first_of [] t = t ∷ []
first_of (o ∷ os) t = []

first_stays : (os : List Op) (t u : ℕ) → (u == t) ≡ false → filter (λ v. not (v == t)) (first_of os u) ≡ first_of os u
first_stays [] t u other = ap (λ (b : Bool). cond (not b) (u ∷ []) []) other
first_stays (o ∷ os) t u other = refl

first_goes : (os : List Op) (t u : ℕ) → (u == t) ≡ true → filter (λ v. not (v == t)) (first_of os u) ≡ []
first_goes [] t u same = ap (λ (b : Bool). cond (not b) (u ∷ []) []) same
first_goes (o ∷ os) t u same = refl

swapped : (t u : ℕ) → (t == u) ≡ (u == t)
swapped t u = grind (arith, nat_tests)

pub firsts_more : (es : List Event) (e : Event) → firsts (es ++ e ∷ []) ≡ firsts es ++ first_of (ops_of e.txn es) e.txn
firsts_more [] e = refl
firsts_more (x ∷ xs) e =
    ap (λ (ts : List ℕ). x.txn ∷ filter (λ v. not (v == x.txn)) ts) (firsts_more xs e)
    ∙ ap (λ (ts : List ℕ). x.txn ∷ ts) (filter-append (λ v. not (v == x.txn)) (firsts xs) (first_of (ops_of e.txn xs) e.txn))
    ∙ by (x.txn == e.txn) refl
  where
    by : (b : Bool) → (x.txn == e.txn) ≡ b
        → x.txn ∷ filter (λ v. not (v == x.txn)) (firsts xs) ++ filter (λ v. not (v == x.txn)) (first_of (ops_of e.txn xs) e.txn) ≡ x.txn ∷ filter (λ v. not (v == x.txn)) (firsts xs) ++ first_of (cond b (x.op ∷ ops_of e.txn xs) (ops_of e.txn xs)) e.txn
    by true is = ap (λ (ts : List ℕ). x.txn ∷ filter (λ v. not (v == x.txn)) (firsts xs) ++ ts) (first_goes (ops_of e.txn xs) x.txn e.txn (sym (swapped x.txn e.txn) ∙ is))
    by false is = ap (λ (ts : List ℕ). x.txn ∷ filter (λ v. not (v == x.txn)) (firsts xs) ++ ts) (first_stays (ops_of e.txn xs) x.txn e.txn (sym (swapped x.txn e.txn) ∙ is))

-- After a run of one transaction, which comes last where it is new.
pub firsts_run : (es : List Event) (e : Event) (run : List Event) (t : ℕ) → All (λ x. x.txn ≡ t) (e ∷ run) → firsts (es ++ e ∷ run) ≡ firsts es ++ first_of (ops_of t es) t
firsts_run es e [] t all = firsts_more es e ∙ ap (λ (u : ℕ). firsts es ++ first_of (ops_of u es) u) (all 0 e (omega arith))
firsts_run es e (f ∷ more) t all =
    ap firsts (sym (append_assoc es (e ∷ []) (f ∷ more)))
    ∙ firsts_run (es ++ e ∷ []) f more t (tail_of t e (f ∷ more) all)
    ∙ ap (λ (ts : List ℕ). firsts (es ++ e ∷ []) ++ ts) (had (ops_of t es) (ops_both es (e ∷ []) t ∙ ap (λ (os : List Op). ops_of t es ++ os) (ops_own (e ∷ []) t one)))
    ∙ append-nil (firsts (es ++ e ∷ []))
    ∙ firsts_more es e ∙ ap (λ (u : ℕ). firsts es ++ first_of (ops_of u es) u) (all 0 e (omega arith))
  where
    one : All (λ x. x.txn ≡ t) (e ∷ [])
    one k d within = by k within
      where
        by : (j : ℕ) → j < 1 → (slice_index_or (e ∷ []) j d).txn ≡ t
        by zero w = all 0 d (omega arith)
        by (suc j) w = absurd (omega (arith, w))

    had : (os : List Op) → ops_of t (es ++ e ∷ []) ≡ os ++ e.op ∷ [] → first_of (ops_of t (es ++ e ∷ [])) t ≡ []
    had [] is = ap (λ (xs : List Op). first_of xs t) is
    had (o ∷ os) is = ap (λ (xs : List Op). first_of xs t) is

-- Hands --

-- One event more from the same place.
pub between_more : (start end : ℕ) (events : List Event) (d : Event) → start ≤ end → end < length events → between start (end + 1) events ≡ between start end events ++ get_or events end d ∷ []
between_more start end events d from within =
    ap (drop start) (take_more events end d within)
    ∙ drop-append-le start (take end events) (get_or events end d ∷ []) (omega (arith, from, length-take-le end events (omega (arith, within))))

-- One event more of the run.
pub run_more : (t start end : ℕ) (events : List Event) (d : Event) (before ops longer : List Op) → start ≤ end → end < length events
    → (get_or events end d).txn ≡ t → longer ≡ ops ++ (get_or events end d).op ∷ []
    → All (λ e. e.txn ≡ t) (between start end events) × (ops ≡ before ++ map (λ e. e.op) (between start end events))
    → All (λ e. e.txn ≡ t) (between start (end + 1) events) × (longer ≡ before ++ map (λ e. e.op) (between start (end + 1) events))
run_more t start end events d before ops longer from within own is so_far = (
  subst (All (λ e. e.txn ≡ t)) (sym more) (All-push (λ (e : Event). e.txn ≡ t) (between start end events) e so_far.0 own),
  is ∙ ap (λ (os : List Op). os ++ e.op ∷ []) so_far.1 ∙ append_assoc before (map (λ x. x.op) (between start end events)) (e.op ∷ [])
      ∙ ap (λ (os : List Op). before ++ os) (sym (map-append (λ (x : Event). x.op) (between start end events) (e ∷ [])))
      ∙ ap (λ (es : List Event). before ++ map (λ x. x.op) es) (sym more),
)
  where
    e : Event
    e = get_or events end d

    more : between start (end + 1) events ≡ between start end events ++ e ∷ []
    more = between_more start end events d from within

-- None up to the place itself.
pub between_none : (start : ℕ) (events : List Event) → start < length events → between start start events ≡ []
between_none start events within = drop_of_length-le (take start events) (omega (arith, length-take-le start events (omega (arith, within))))

-- The events up to a place, and then a run.
pub taken_run : (t start end : ℕ) (events : List Event) → IsRun t start end events → take end events ≡ take start events ++ between start end events
taken_run t start end events run = sym (take-append-drop start (take end events)) ∙ ap (λ (es : List Event). es ++ between start end events) (take-take start end events (omega (arith, run.begins)))

some_longer : (os ps : List Op) (p : Op) → some_ops (os ++ p ∷ ps) ≡ Some (os ++ p ∷ ps)
some_longer [] ps p = refl
some_longer (o ∷ os) ps p = refl

-- A run isn't empty.
run_begins : (t start end : ℕ) (events : List Event) → IsRun t start end events → 0 < length (between start end events)
run_begins t start end events run = omega (arith, run.begins, run.within, length-drop start (take end events), length-take-le end events run.within)

some_run : (os : List Op) (es : List Event) → 0 < length es → some_ops (os ++ map (λ e. e.op) es) ≡ Some (os ++ map (λ e. e.op) es)
some_run os [] some = absurd (omega (arith, some))
some_run os (e ∷ es) some = some_longer os (map (λ e. e.op) es) e.op

-- The map finds these operations of a transaction: they are its own.
pub some_are : (os xs : List Op) → Some xs ≡ some_ops os → xs ≡ os
some_are [] xs is = absurd (cc)
some_are (o ∷ os) xs is = cc

not_first : (os xs : List Op) (t : ℕ) → Some xs ≡ some_ops os → first_of os t ≡ []
not_first [] xs t is = absurd (cc)
not_first (o ∷ os) xs t is = refl

-- It finds none: the transaction has none.
pub none_are : (os : List Op) → None ≡ some_ops os → os ≡ []
none_are [] is = refl
none_are (o ∷ os) is = absurd (cc)

-- The operations of each transaction after a run, in a map in which its transaction has them with it.
each_more : (events run : List Event) (t : ℕ) (m w : Hands) (v : Hand)
    → ((u : ℕ) → option_map (λ (h : Hand). h.items) (get nat_cmp m u) ≡ some_ops (ops_of u events))
    → 0 < length run → All (λ e. e.txn ≡ t) run
    → v.items ≡ ops_of t events ++ map (λ e. e.op) run
    → ((q : ℕ) → get nat_cmp w q ≡ cond (is_at (nat_cmp t) q) (Some v) (get nat_cmp m q))
    → (u : ℕ) → option_map (λ (h : Hand). h.items) (get nat_cmp w u) ≡ some_ops (ops_of u (events ++ run))
each_more events run t m w v each some all longer put u =
    ap (option_map (λ (h : Hand). h.items)) (put u)
    ∙ by (t == u) refl (same_test t u ∙ swapped u t)
    ∙ ap some_ops (sym (ops_both events run u))
  where
    by : (b : Bool) → (t == u) ≡ b → is_at (nat_cmp t) u ≡ b
        → option_map (λ (h : Hand). h.items) (cond (is_at (nat_cmp t) u) (Some v) (get nat_cmp m u)) ≡ some_ops (ops_of u events ++ ops_of u run)
    by true is at =
        ap (λ (c : Bool). option_map (λ (h : Hand). h.items) (cond c (Some v) (get nat_cmp m u))) at
        ∙ ap Some longer
        ∙ sym (some_run (ops_of t events) run some)
        ∙ ap (λ (os : List Op). some_ops (ops_of t events ++ os)) (sym (ops_own run t all))
        ∙ ap (λ (x : ℕ). some_ops (ops_of x events ++ ops_of x run)) (eqb-true t u is)
    by false is at =
        ap (λ (c : Bool). option_map (λ (h : Hand). h.items) (cond c (Some v) (get nat_cmp m u))) at
        ∙ each u ∙ ap some_ops (sym (append-nil (ops_of u events)))
        ∙ ap (λ (os : List Op). some_ops (ops_of u events ++ os)) (sym (ops_none run t u is all))

-- The transactions after a run.
firsts_after : (events run : List Event) (t : ℕ) → 0 < length run → All (λ e. e.txn ≡ t) run → firsts (events ++ run) ≡ firsts events ++ first_of (ops_of t events) t
firsts_after events [] t some all = absurd (omega (arith, some))
firsts_after events (e ∷ es) t some all = firsts_run events e es t all

-- A run of a transaction that has occurred.
pub dealt_again : (events : List Event) (t start end : ℕ) (txns : List ℕ) (m w : Hands) (u v : Hand)
    → IsRun t start end events
    → AreHands (take start events) txns m
    → Some u ≡ get nat_cmp m t
    → v.items ≡ u.items ++ map (λ e. e.op) (between start end events)
    → ((q : ℕ) → get nat_cmp w q ≡ cond (is_at (nat_cmp t) q) (Some v) (get nat_cmp m q))
    → AreHands (take end events) txns w
dealt_again events t start end txns m w u v run hands found longer put =
    let so_far = take start events in
    let more = between start end events in
    let some = run_begins t start end events run in
    let there : Some u.items ≡ some_ops (ops_of t so_far) = ap (option_map (λ (h : Hand). h.items)) found ∙ hands.each t in
    subst (λ (es : List Event). AreHands es txns w) (sym (taken_run t start end events run)) (record {
      firsts_are = hands.firsts_are ∙ sym (firsts_after so_far more t some run.of_one ∙ ap (λ (ts : List ℕ). firsts so_far ++ ts) (not_first (ops_of t so_far) u.items t there) ∙ append-nil (firsts so_far));
      each = each_more so_far more t m w v hands.each some run.of_one (longer ∙ ap (λ (os : List Op). os ++ map (λ e. e.op) more) (some_are (ops_of t so_far) u.items there)) put;
    })

-- The first run of a transaction.
pub dealt_first : (events : List Event) (t start end : ℕ) (txns : List ℕ) (m w : Hands) (v : Hand)
    → IsRun t start end events
    → ops_of t (take start events) ≡ []
    → AreHands (take start events) txns m
    → v.items ≡ map (λ e. e.op) (between start end events)
    → ((q : ℕ) → get nat_cmp w q ≡ cond (is_at (nat_cmp t) q) (Some v) (get nat_cmp m q))
    → AreHands (take end events) (txns ++ t ∷ []) w
dealt_first events t start end txns m w v run none hands longer put =
    let so_far = take start events in
    let more = between start end events in
    let some = run_begins t start end events run in
    subst (λ (es : List Event). AreHands es (txns ++ t ∷ []) w) (sym (taken_run t start end events run)) (record {
      firsts_are = ap (λ (ts : List ℕ). ts ++ t ∷ []) hands.firsts_are ∙ sym (firsts_after so_far more t some run.of_one ∙ ap (λ (os : List Op). firsts so_far ++ first_of os t) none);
      each = each_more so_far more t m w v hands.each some run.of_one (longer ∙ ap (λ (os : List Op). os ++ map (λ e. e.op) more) (sym none)) put;
    })

-- The hands of all events are the dealing.
pub hands_are : (events : List Event) (txns : List ℕ) (m : Hands) → AreHands events txns m → (t : ℕ) → hand_of t (hands_of m) ≡ ops_of t events
hands_are events txns m hands t = hand_there m.entries t ∙ ap (λ (o : Option (List Op)). unwrap_or o []) (hands.each t) ∙ given (ops_of t events)
  where
    given : (os : List Op) → unwrap_or (some_ops os) [] ≡ os
    given [] = refl
    given (o ∷ os) = refl
