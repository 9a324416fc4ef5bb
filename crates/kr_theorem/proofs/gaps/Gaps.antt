-- Gaps: which points hang on which name, and what becomes of that when a key comes or goes.
use Rattle.std.proofs.Common.{ℕ, [], ◌∷◌, ◌==◌, ◌≤◌, ◌<◌, ◌≡◌, ◌≢◌, ◌+◌, ◌-◌, ◌⊎◌, inl, inr, ⊎_elim, refl, sym, ap, ◌∙◌, arith, Bool, true, false, subst, zero, suc}
use Rattle.std.specs.Prelude.{◌&&◌, if◌then◌else◌}
use Rattle.std.specs.Ordering.{nat_cmp, is_lt}
use Rattle.std.specs.declared.cmp.Ordering.{Ordering}
use Rattle.std.specs.declared.cmp.Ordering.TheVariants.{Less, Equal, Greater}
use Rattle.std.specs.FinMap.{is_sorted}
use Rattle.std.specs.FinMap.Entries.{below_all}
use Rattle.std.proofs.lemmas.Bool.Decides.{nat_tests, leb_tells}
use Rattle.std.proofs.lemmas.Bool.{cases_lt, cases_eq, cases_order}
use Rattle.kr_model.specs.declared.Name.{Name}
use Rattle.kr_model.specs.declared.Name.TheVariants.{Key, End}
use Rattle.kr_model.specs.Map.{Map, IsMap, at}

-- Whether a key stands there.
abbrev pub has : Map → ℕ → Bool
has [] k = false
has (e ∷ m) k = if e.0 == k then true else has m k

-- A point p reaches a point c if no key stands from p up to, but not including, c. A present point reaches itself alone, and an absent one all points up to the next
-- key, that key included.
abbrev pub Reach : Map → ℕ → ℕ → Type 0
Reach m p c = (p ≤ c) × ((y : ℕ) → p ≤ y → y < c → has m y ≡ false)

-- The keys of a map rise --

-- The keys rise, the first not below low.
abbrev pub Rising : ℕ → Map → Type 0
Rising low [] = Unit
Rising low (e ∷ m) = (low ≤ e.0) × Rising (e.0 + 1) m

pub and_one : (a b : Bool) → (a && b) ≡ true → a ≡ true
and_one true b h = refl
and_one false b h = absurd (cc)

pub and_two : (a b : Bool) → (a && b) ≡ true → b ≡ true
and_two true b h = h
and_two false b h = absurd (cc)

less_than : (a b : ℕ) → is_lt (nat_cmp a b) ≡ true → a < b
less_than a b h = by_cases (nat_cmp a b) refl h
  where
    by_cases : (o : Ordering) → nat_cmp a b ≡ o → is_lt o ≡ true → a < b
    by_cases Less is g = grind (arith, nat_tests, is)
    by_cases Equal is g = absurd (cc)
    by_cases Greater is g = absurd (cc)

rising_above : (x : ℕ) (m : Map) → below_all nat_cmp x m ≡ true → is_sorted nat_cmp m ≡ true → Rising (x + 1) m
rising_above x [] b h = tt
rising_above x (e ∷ m) b h =
    let lt = less_than x e.0 (and_one (is_lt (nat_cmp x e.0)) (below_all nat_cmp x m) b) in
    (omega (arith, lt), rising_above e.0 m (and_one (below_all nat_cmp e.0 m) (is_sorted nat_cmp m) h) (and_two (below_all nat_cmp e.0 m) (is_sorted nat_cmp m) h))

-- The keys of a map rise from 0.
pub rising : (m : Map) → IsMap m → Rising 0 m
rising [] h = tt
rising (e ∷ m) h = (omega arith, rising_above e.0 m (and_one (below_all nat_cmp e.0 m) (is_sorted nat_cmp m) h) (and_two (below_all nat_cmp e.0 m) (is_sorted nat_cmp m) h))

-- What `at` answers --

end_not_key : (x : ℕ) → End ≡ Key x → ⊥
end_not_key x e = cc

has-below : (m : Map) (low y : ℕ) → Rising low m → y < low → has m y ≡ false
has-below [] low y r lt = refl
has-below (e ∷ m) low y r lt = grind (arith, nat_tests, r.0, has-below m (e.0 + 1) y r.1)

key_at : (m : Map) (low c x : ℕ) → Rising low m → at m c ≡ Key x → (c ≤ x) × (has m x ≡ true) × ((y : ℕ) → c ≤ y → y < x → has m y ≡ false)
key_at [] low c x r is = absurd (end_not_key x is)
key_at (e ∷ m) low c x r is = ⊎_elim
    (λ h. (grind (arith, h, is), grind (arith, nat_tests, h, is), λ y cy yx. grind (arith, nat_tests, h, is, has-below m (e.0 + 1) y r.1)))
    (λ h. let i : at m c ≡ Key x = grind (arith, h, is) in let t = key_at m (e.0 + 1) c x r.1 i in
    (t.0, grind (arith, nat_tests, t.1), λ y cy yx. grind (arith, nat_tests, h, t.2 y cy yx)))
    (leb_tells c e.0)

-- A key that is found is not below the point, is present, and no key stands between.
pub at-key : (m : Map) (c x : ℕ) → IsMap m → at m c ≡ Key x → (c ≤ x) × (has m x ≡ true) × ((y : ℕ) → c ≤ y → y < x → has m y ≡ false)
at-key m c x r is = key_at m 0 c x (rising m r) is

-- Where the end is found, no key stands from the point on.
pub at-end : (m : Map) (c : ℕ) → at m c ≡ End → (y : ℕ) → c ≤ y → has m y ≡ false
at-end [] c is y le = refl
at-end (e ∷ m) c is y le = ⊎_elim (λ h. grind (arith, h, is)) (λ h. let i : at m c ≡ End = grind (arith, h, is) in grind (arith, nat_tests, h, at-end m c i y le)) (leb_tells c e.0)

-- A name is the end or a key.
pub cases_name : (o : Name) → (o ≡ End) ⊎ ((x : ℕ) × (o ≡ Key x))
cases_name End = inl refl
cases_name (Key x) = inr (x, refl)

-- A present key that a point reaches is the one found from there.
pub at-unique : (m : Map) (c x : ℕ) → IsMap m → Reach m c x → has m x ≡ true → at m c ≡ Key x
at-unique m c x r reach there = ⊎_elim
    (λ none. absurd (grind (arith, at-end m c none x reach.0, there)))
    (λ some. let t = at-key m c some.0 r some.1 in
    let same : some.0 ≡ x = ⊎_elim (λ e. e) (λ lts. ⊎_elim (λ lt. absurd (grind (arith, reach.1 some.0 t.0 lt, t.1))) (λ lt. absurd (grind (arith, t.2 x reach.0 lt, there))) lts) (cases_order some.0 x) in
    some.1 ∙ ap Key same)
    (cases_name (at m c))

-- Reaches --

-- Each point reaches itself, and a reach up to an absent point goes on.
pub reach-refl : (m : Map) (p : ℕ) → Reach m p p
reach-refl m p = (omega arith, λ y a b. absurd (omega (arith, a, b)))

pub reach-more : (m : Map) (p y : ℕ) → Reach m p y → has m y ≡ false → Reach m p (suc y)
reach-more m p y r none = (omega (arith, r.0), λ z a b. ⊎_elim (λ lt. r.1 z a lt) (λ ge. let e : z ≡ y = omega (arith, ge, b) in ap (has m) e ∙ none) (cases_lt z y))

-- Parts of a reach are reaches, and reaches compose.
pub reach-part : (m : Map) (p c d : ℕ) → Reach m p c → p ≤ d → d ≤ c → Reach m p d
reach-part m p c d r a b = (a, λ y e f. r.1 y e (omega (arith, f, b)))

pub reach-from : (m : Map) (p q c : ℕ) → Reach m p c → p ≤ q → q ≤ c → Reach m q c
reach-from m p q c r a b = (b, λ y e f. r.1 y (omega (arith, a, e)) f)

pub reach-trans : (m : Map) (p q c : ℕ) → Reach m p q → Reach m q c → Reach m p c
reach-trans m p q c r s = (omega (arith, r.0, s.0), λ y a b. ⊎_elim (λ lt. r.1 y a lt) (λ ge. s.1 y ge b) (cases_lt y q))

-- A point reaches the key found from it.
pub at-reach : (m : Map) (p x : ℕ) → IsMap m → at m p ≡ Key x → Reach m p x
at-reach m p x r is = let t = at-key m p x r is in (t.0, t.2)

-- All points of a reach hang on one name.
pub reach-at : (m : Map) (p c : ℕ) → IsMap m → Reach m p c → at m p ≡ at m c
reach-at m p c r reach = ⊎_elim
    (λ none. ⊎_elim (λ n. n ∙ sym none)
    (λ some. let t = at-key m p some.0 r some.1 in absurd (⊎_elim (λ lt. grind (arith, reach.1 some.0 t.0 lt, t.1)) (λ ge. grind (arith, at-end m c none some.0 ge, t.1)) (cases_lt some.0 c)))
    (cases_name (at m p)))
    (λ some. let t = at-key m c some.0 r some.1 in at-unique m p some.0 r (reach-trans m p c some.0 reach (at-reach m c some.0 r some.1)) t.1 ∙ sym some.1)
    (cases_name (at m c))

-- A point reaches another, or not.
pub reach-dec : (m : Map) (p c : ℕ) → IsMap m → (Reach m p c) ⊎ (Reach m p c → ⊥)
reach-dec m p c r = ⊎_elim (λ lt. inr (λ s. absurd (omega (arith, s.0, lt))))
    (λ le. ⊎_elim (λ none. inl (le, λ y a b. at-end m p none y a))
    (λ some. let t = at-key m p some.0 r some.1 in ⊎_elim (λ lt. inr (λ s. absurd (grind (arith, s.1 some.0 t.0 lt, t.1)))) (λ ge. inl (reach-part m p some.0 c (t.0, t.2) le ge)) (cases_lt some.0 c))
    (cases_name (at m p)))
    (cases_lt c p)

-- Where two maps have the same keys in the reach of a point, it keeps its name.
pub at-stable : (m n : Map) (p : ℕ) → IsMap m → IsMap n → ((y : ℕ) → Reach m p y → has n y ≡ has m y) → at n p ≡ at m p
at-stable m n p rm rn same = ⊎_elim
    (λ none. ⊎_elim (λ e. e ∙ sym none)
    (λ some. let t = at-key n p some.0 rn some.1 in absurd (grind (arith, t.1, same some.0 (t.0, λ y a b. at-end m p none y a), at-end m p none some.0 t.0)))
    (cases_name (at n p)))
    (λ some. let t = at-key m p some.0 rm some.1 in
    let reach : Reach m p some.0 = (t.0, t.2) in
    at-unique n p some.0 rn (t.0, λ y a b. same y (reach-part m p some.0 y reach a (omega (arith, b))) ∙ t.2 y a b) (same some.0 reach ∙ t.1) ∙ sym some.1)
    (cases_name (at m p))

reach-upto : (m n : Map) (p c : ℕ) → ((y : ℕ) → Reach m p y → has n y ≡ has m y) → Reach n p c → (d : ℕ) → p + d ≤ c → Reach m p (p + d)
reach-upto m n p c same r zero le = let e : p + 0 ≡ p = omega arith in (omega arith, λ y a b. absurd (omega (arith, a, b)))
reach-upto m n p c same r (suc d) le =
    let before = reach-upto m n p c same r d (omega (arith, le)) in
    let gone : has m (p + d) ≡ false = sym (same (p + d) before) ∙ r.1 (p + d) (omega arith) (omega (arith, le)) in
    let more = reach-more m p (p + d) before gone in
    reach-part m p (suc (p + d)) (p + suc d) more (omega arith) (omega arith)

-- Its reach grows by nothing.
pub reach-stable : (m n : Map) (p c : ℕ) → ((y : ℕ) → Reach m p y → has n y ≡ has m y) → Reach n p c → Reach m p c
reach-stable m n p c same r = let e : p + (c - p) ≡ c = omega (arith, r.0) in
    reach-part m p (p + (c - p)) c (reach-upto m n p c same r (c - p) (omega (arith, r.0))) r.0 (omega (arith, r.0))

-- One key comes or goes --
-- The maps have the same keys but for k.
abbrev pub Alike : ℕ → Map → Map → Type 0
Alike k m n = (y : ℕ) → y ≢ k → has n y ≡ has m y

-- A point that doesn't reach k has the same keys in its reach.
pub alike-outside : (m n : Map) (k p : ℕ) → Alike k m n → (Reach m p k → ⊥) → (y : ℕ) → Reach m p y → has n y ≡ has m y
alike-outside m n k p alike out y r = alike y (λ e. out (subst (λ z. Reach m p z) e r))

-- A key comes: what reached it hangs on it, and no reach grows.
pub at-insert : (m n : Map) (k p : ℕ) → IsMap n → Alike k m n → has n k ≡ true → Reach m p k → at n p ≡ Key k
at-insert m n k p rn alike there r = at-unique n p k rn (r.0, λ y a b. alike y (λ e. absurd (omega (arith, e, b))) ∙ r.1 y a b) there

pub reach-insert : (m n : Map) (k p c : ℕ) → Alike k m n → has m k ≡ false → Reach n p c → Reach m p c
reach-insert m n k p c alike absent r = (r.0, λ y a b. ⊎_elim (λ e. ap (has m) e ∙ absent) (λ ne. sym (alike y ne) ∙ r.1 y a b) (cases_eq y k))

-- A key goes: what reached it hangs on the name above it, and such a reach goes on to what the point above the key reached.
pub at-delete : (m n : Map) (k p : ℕ) → IsMap m → IsMap n → Alike k m n → has n k ≡ false → Reach m p k → at n p ≡ at m (suc k)
at-delete m n k p rm rn alike gone r =
    let low : Reach n p k = (r.0, λ y a b. alike y (λ e. absurd (omega (arith, e, b))) ∙ r.1 y a b) in
    reach-at n p (suc k) rn (reach-more n p k low gone) ∙ at-stable m n (suc k) rm rn (λ y s. alike y (λ e. absurd (omega (arith, e, s.0))))

pub reach-delete : (m n : Map) (k p c : ℕ) → Alike k m n → Reach n p c → (Reach m p c) ⊎ ((Reach m p k) × (k < c) × Reach m (suc k) c)
reach-delete m n k p c alike r = ⊎_elim
    (λ low. inl (r.0, λ y a b. sym (alike y (λ e. absurd (omega (arith, e, a, low)))) ∙ r.1 y a b))
    (λ ge. ⊎_elim
    (λ lt. inr (
      (ge, λ y a b. sym (alike y (λ e. absurd (omega (arith, e, b)))) ∙ r.1 y a (omega (arith, b, lt))),
      lt,
      (omega (arith, lt), λ y a b. sym (alike y (λ e. absurd (omega (arith, e, a)))) ∙ r.1 y (omega (arith, a, ge)) b),
    ))
    (λ high. inl (r.0, λ y a b. sym (alike y (λ e. absurd (omega (arith, e, b, high)))) ∙ r.1 y a b))
    (cases_lt k c))
    (cases_lt k p)
