-- Maps: two with the same value at each key are one, and what a scan reads of a map depends on the keys of its range alone.
use Rattle.std.proofs.Common.{ℕ, [], ◌∷◌, ◌++◌, Option, Some, None, ◌==◌, ◌≤◌, ◌<◌, ◌≡◌, ◌+◌, ⊎_elim, refl, sym, ap, ap₂, ◌∙◌, arith, Bool, true, false, ◌&&◌, leb, is_some}
use Rattle.std.specs.Prelude.{if◌then◌else◌}
use Rattle.std.specs.Ordering.{nat_cmp}
use Rattle.std.specs.Cmp.{nat_cmp_total}
use Rattle.std.specs.FinMap.Entries.{find-where_key, same_entries}
use Rattle.std.proofs.lemmas.Bool.Decides.{nat_tests}
use Rattle.std.proofs.lemmas.Map.Lookups.{exact_unsigned}
use Rattle.std.proofs.lemmas.Bool.{cases_lt, cases_eq, cases_order, cases_Bool, leb-true, and_parts, and_from, and_left, and_right, le-leb, lt-leb}
use Rattle.kr_model.specs.Map.{Map, IsMap, get, pairs_between}
use Rattle.kr_model.proofs.MapLaws.{same_test, t_of, sorted_where}
use Rattle.kr_theorem.proofs.gaps.Gaps.{has, Rising, rising}

-- What holds of both branches holds of a choice.
pub if_both : {X : Type 0} (b : Bool) (x y : X) (P : X → Type 0) → (b ≡ true → P x) → (b ≡ false → P y) → P (if b then x else y)
if_both true x y P f g = f refl
if_both false x y P f g = g refl

-- What is cut to a range --

IsMap-between : (m : Map) (lo hi : ℕ) → IsMap m → IsMap (pairs_between m lo hi)
IsMap-between m lo hi h = sorted_where (λ x. leb lo x && leb x hi) m h

-- Values --

-- Two maps with the same value at each key are the same.
pub same_map : (m n : Map) → IsMap m → IsMap n → ((q : ℕ) → get m q ≡ get n q) → m ≡ n
same_map m n hm hn same = same_entries nat_cmp nat_cmp_total exact_unsigned m n (t_of _ hm) (t_of _ hn) same

-- The value of a key, by recursion on the pairs.
abbrev look : Map → ℕ → Option ℕ
look [] k = None
look (e ∷ m) k = if e.0 == k then Some e.1 else look m k

look_is : (m : Map) (k : ℕ) → look m k ≡ get m k
look_is [] k = refl
look_is (e ∷ m) k = ap (λ z. if e.0 == k then Some e.1 else z) (look_is m k) ∙ ap (λ c. if c then Some e.1 else get m k) (sym (same_test k e.0 (e.0 == k) refl))

look-below : (m : Map) (low y : ℕ) → Rising low m → y < low → look m y ≡ None
look-below [] low y r lt = refl
look-below (e ∷ m) low y r lt = grind (arith, nat_tests, r.0, look-below m (e.0 + 1) y r.1)

has-look : (m : Map) (q : ℕ) → has m q ≡ is_some (look m q)
has-look [] q = refl
has-look (e ∷ m) q = ⊎_elim
    (λ same. ap (λ c. if c then true else has m q) same ∙ sym (ap (λ c. is_some (if c then Some e.1 else look m q)) same))
    (λ differ. ap (λ c. if c then true else has m q) differ ∙ has-look m q ∙ sym (ap (λ c. is_some (if c then Some e.1 else look m q)) differ))
    (cases_Bool (e.0 == q))

-- A key stands where it has a value.
pub has-get : (m : Map) (q : ℕ) → has m q ≡ is_some (get m q)
has-get m q = has-look m q ∙ ap is_some (look_is m q)

-- The same by what the value is.
pub has_none : (m : Map) (k : ℕ) → get m k ≡ None → has m k ≡ false
has_none m k e = has-get m k ∙ ap is_some e

pub has_some : (m : Map) (k v : ℕ) → get m k ≡ Some v → has m k ≡ true
has_some m k v e = has-get m k ∙ ap is_some e

pub none_has : (m : Map) (k : ℕ) → has m k ≡ false → get m k ≡ None
none_has m k h = by_value (get m k) (sym (has-get m k) ∙ h)
  where
    by_value : (o : Option ℕ) → is_some o ≡ false → o ≡ None
    by_value None e = refl
    by_value (Some v) e = absurd (cc)

-- Where the values are the same, so are the keys.
pub has_same : (m n : Map) (k : ℕ) → get n k ≡ get m k → has n k ≡ has m k
has_same m n k e = has-get n k ∙ ap is_some e ∙ sym (has-get m k)

-- What lies between two keys --

-- A key between keeps its value, and no other has one.
pub get-between : (m : Map) (lo hi q : ℕ) → get (pairs_between m lo hi) q ≡ (if leb lo q && leb q hi then get m q else None)
get-between m lo hi q = find-where_key nat_cmp (λ x. leb lo x && leb x hi) q (λ x e. ap (λ y. leb lo y && leb y hi) (sym (exact_unsigned q x e))) m

-- It depends on the keys between alone.
pub between_same : (m n : Map) (lo hi : ℕ) → IsMap m → IsMap n → ((q : ℕ) → lo ≤ q → q ≤ hi → get m q ≡ get n q) → pairs_between m lo hi ≡ pairs_between n lo hi
between_same m n lo hi hm hn same = same_map (pairs_between m lo hi) (pairs_between n lo hi) (IsMap-between m lo hi hm) (IsMap-between n lo hi hn)
    (λ q. get-between m lo hi q ∙ if_both (leb lo q && leb q hi) (get m q) None (λ x. x ≡ get (pairs_between n lo hi) q)
    (λ t. let p = and_parts (leb lo q) (leb q hi) t in same q (leb-true lo q p.0) (leb-true q hi p.1) ∙ sym (get-between n lo hi q ∙ ap (λ c. if c then get n q else None) t))
    (λ f. sym (get-between n lo hi q ∙ ap (λ c. if c then get n q else None) f)))

-- No key from lo to hi: nothing lies between.
pub between_nothing : (m : Map) (lo hi : ℕ) → IsMap m → ((q : ℕ) → lo ≤ q → q ≤ hi → get m q ≡ None) → [] ≡ pairs_between m lo hi
between_nothing m lo hi hm none = between_same ([]) m lo hi refl hm (λ q a b. sym (none q a b))

-- One key alone.
pub between_one : (m : Map) (lo x v : ℕ) → IsMap m → lo ≤ x → get m x ≡ Some v → ((q : ℕ) → lo ≤ q → q < x → get m q ≡ None) → (x, v) ∷ [] ≡ pairs_between m lo x
between_one m lo x v hm le is none = same_map ((x, v) ∷ []) (pairs_between m lo x) refl (IsMap-between m lo x hm)
    (λ q. sym (look_is ((x, v) ∷ []) q) ∙ sym (get-between m lo x q ∙ ⊎_elim
    (λ e. grind (arith, nat_tests, is, le, e))
    (λ lts. ⊎_elim (λ lt. grind (arith, nat_tests, lt, none q)) (λ lt. grind (arith, nat_tests, lt)) lts)
    (cases_order q x)))

between-keep : (e : ℕ × ℕ) (m : Map) (lo hi : ℕ) → lo ≤ e.0 → e.0 ≤ hi → pairs_between (e ∷ m) lo hi ≡ e ∷ pairs_between m lo hi
between-keep e m lo hi a b = ap (λ c. if c then e ∷ pairs_between m lo hi else pairs_between m lo hi) (and_from _ _ (le-leb lo e.0 a) (le-leb e.0 hi b))

between-low : (e : ℕ × ℕ) (m : Map) (lo hi : ℕ) → e.0 < lo → pairs_between (e ∷ m) lo hi ≡ pairs_between m lo hi
between-low e m lo hi a = ap (λ c. if c then e ∷ pairs_between m lo hi else pairs_between m lo hi) (and_left _ _ (lt-leb lo e.0 a))

between-high : (e : ℕ × ℕ) (m : Map) (lo hi : ℕ) → hi < e.0 → pairs_between (e ∷ m) lo hi ≡ pairs_between m lo hi
between-high e m lo hi a = ap (λ c. if c then e ∷ pairs_between m lo hi else pairs_between m lo hi) (and_right _ _ (lt-leb e.0 hi a))

between_past : (m : Map) (a lo hi : ℕ) → Rising a m → hi < a → pairs_between m lo hi ≡ []
between_past [] a lo hi r lt = refl
between_past (e ∷ m) a lo hi r lt = between-high e m lo hi (omega (arith, r.0, lt)) ∙ between_past m (e.0 + 1) lo hi r.1 (omega (arith, r.0, lt))

more_between : (m : Map) (a lo y x v : ℕ) → Rising a m → lo ≤ x → y < x → look m x ≡ Some v → ((q : ℕ) → lo ≤ q → y < q → q < x → look m q ≡ None) → pairs_between m lo x ≡ pairs_between m lo y ++ (x, v) ∷ []
more_between [] a lo y x v r le lt is none = absurd (grind (arith, is))
more_between (e ∷ m) a lo y x v r le lt is none = ⊎_elim
    (λ same.
    let here : e ≡ (x, v) = (λ i. (same i, (let w : e.1 ≡ v = grind (arith, nat_tests, is, same) in w) i)) in
    between-keep e m lo x (omega (arith, le, same)) (omega (arith, same)) ∙ ap₂ (λ (z : ℕ × ℕ) zs. z ∷ zs) here (between_past m (e.0 + 1) lo x r.1 (omega (arith, same)))
    ∙ ap (λ zs. zs ++ (x, v) ∷ []) (sym (between-high e m lo y (omega (arith, same, lt)) ∙ between_past m (e.0 + 1) lo y r.1 (omega (arith, same, lt)))))
    (λ apart. ⊎_elim
    (λ below.
    let deeper : look m x ≡ Some v = grind (arith, nat_tests, is, below) in
    let none' : (q : ℕ) → lo ≤ q → y < q → q < x → look m q ≡ None = λ q c d f. ⊎_elim (λ k. look-below m (e.0 + 1) q r.1 (omega (arith, k))) (λ ne. grind (arith, nat_tests, none q c d f, ne)) (cases_eq q e.0) in
    let more = more_between m (e.0 + 1) lo y x v r.1 le lt deeper none' in
    ⊎_elim (λ low. between-low e m lo x low ∙ more ∙ ap (λ zs. zs ++ (x, v) ∷ []) (sym (between-low e m lo y low)))
    (λ in_lo. ⊎_elim (λ over. absurd (grind (arith, nat_tests, none e.0 in_lo over below)))
    (λ in_y. between-keep e m lo x in_lo (omega (arith, below)) ∙ ap (λ zs. e ∷ zs) more ∙ ap (λ zs. zs ++ (x, v) ∷ []) (sym (between-keep e m lo y in_lo in_y)))
    (cases_lt y e.0))
    (cases_lt e.0 lo))
    (λ past. absurd (grind (arith, nat_tests, is, look-below m (e.0 + 1) x r.1, past)))
    apart)
    (cases_order e.0 x)

-- No key above y up to hi: as far as y is as far as hi.
pub between_none : (m : Map) (lo y hi : ℕ) → IsMap m → y ≤ hi → ((q : ℕ) → lo ≤ q → y < q → q ≤ hi → get m q ≡ None) → pairs_between m lo hi ≡ pairs_between m lo y
between_none m lo y hi hm le none = same_map (pairs_between m lo hi) (pairs_between m lo y) (IsMap-between m lo hi hm) (IsMap-between m lo y hm)
    (λ q. let there : lo ≤ q → y < q → q ≤ hi → get m q ≡ None = none q in get-between m lo hi q ∙ (grind (arith, nat_tests, get-between m lo y q)))

-- One key more: no key stands between y and x.
pub between_more : (m : Map) (lo y x v : ℕ) → IsMap m → lo ≤ x → y < x → get m x ≡ Some v → ((q : ℕ) → lo ≤ q → y < q → q < x → get m q ≡ None) → pairs_between m lo x ≡ pairs_between m lo y ++ (x, v) ∷ []
between_more m lo y x v hm le lt is none = more_between m 0 lo y x v (rising m hm) le lt (look_is m x ∙ is) (λ q b c d. look_is m q ∙ none q b c d)
