-- Where no key of a stretch has a value, the search for a name may go on past it.
use Rattle.std.specs.Prelude.{T, not, ◌&&◌, filter}
use Rattle.std.specs.Ordering.{nat_cmp, is_lt, is_le}
use Rattle.std.specs.FinMap.{is_sorted}
use Rattle.std.specs.FinMap.Entries.{below_all}
use Rattle.std.specs.declared.cmp.Ordering.TheVariants.{Less}
use Rattle.std.proofs.Common.{◌≡◌, ℕ, ◌+◌, length, get_or, ◌<◌, ◌≤◌, ◌⊎◌, inl, inr, true, false, cond, [], ◌∷◌, List, Option, Some, None, sym, ◌∙◌, ap, refl, arith}
use Rattle.std.proofs.lemmas.Bool.Decides.{nat_tests}
use Rattle.kr_model.specs.declared.Name.{Name}
use Rattle.kr_model.specs.declared.Name.TheVariants.{Key, End}
use Rattle.kr_model.specs.Map.{Map, get, at}
use Rattle.kr_model.proofs.MapLaws.{keys_apart, key_tie}
use Rattle.kr_model.proofs.Trees.{not_found}
use Rattle.kr_index.specs.declared.slots.Slot.{Slot}
use Rattle.kr_index.specs.Slots.{Entries, pairs_of, with_value, least}
use Rattle.kr_index.specs.declared.stretches.Stretch.{Stretch}
use Rattle.kr_index.specs.Stretches.{IsIn, IsRising, IsBare}
use Rattle.kr_index.proofs.SlotLaws.{first, second}
use Rattle.kr_parts.proofs.NextNames.{two, past, here, skip, none_from, none_below}

-- A walk through the entries from c up to e --

-- the entries with keys from c on and below e
abbrev pub between : ℕ → ℕ → Entries → Entries
between c e es = filter (λ x. is_le (nat_cmp c x.0) && not (is_le (nat_cmp e x.0))) es

-- the first name if there is one, or else the second
abbrev pub or_at : Name → Name → Name
or_at (Key k) n = Key k
or_at End n = n

outside : (c e : ℕ) (x : ℕ × Slot) (es : Entries) → (x.0 < c) ⊎ (e ≤ x.0) → between c e (x ∷ es) ≡ between c e es
outside c e x es h = ap (λ b. cond b (x ∷ between c e es) (between c e es)) (test h)
  where
    test : (x.0 < c) ⊎ (e ≤ x.0) → (is_le (nat_cmp c x.0) && not (is_le (nat_cmp e x.0))) ≡ false
    test (inl lt) = grind (arith, nat_tests)
    test (inr le) = grind (arith, nat_tests)

inside : (c e : ℕ) (x : ℕ × Slot) (es : Entries) → c ≤ x.0 → x.0 < e → between c e (x ∷ es) ≡ x ∷ between c e es
inside c e x es le lt = ap (λ b. cond b (x ∷ between c e es) (between c e es)) (the (is_le (nat_cmp c x.0) && not (is_le (nat_cmp e x.0)) ≡ true) (grind (arith, nat_tests)))
  where
    the : (A : Type 0) → A → A
    the A a = a

lt_of : (x y : ℕ) → T (is_lt (nat_cmp x y)) → x < y
lt_of x y h = grind (arith, nat_tests)

none_between : (c e x : ℕ) (es : Entries) → e ≤ x → T (below_all nat_cmp x es) → between c e es ≡ []
none_between c e x [] le below = refl
none_between c e x (y ∷ es) le below = outside c e y es (inr (omega (arith, lt_of x y.0 (first _ _ below)))) ∙ none_between c e x es le (second _ _ below)

with_past : (k : ℕ) (o : Option ℕ) (m : Map) (c : ℕ) → k < c → at (with_value k o m) c ≡ at m c
with_past k None m c lt = refl
with_past k (Some v) m c lt = past (k, v) m c lt

pub walked : (es : Entries) (c e : ℕ) → T (is_sorted nat_cmp es) → c ≤ e → at (pairs_of es) c ≡ or_at (least (pairs_of (between c e es))) (at (pairs_of es) e)
walked [] c e sorted le = refl
walked (x ∷ es) c e sorted le = by (walked es c e (second _ _ sorted) le) (two x.0 c) (two x.0 e)
  where
    found : at (pairs_of es) c ≡ or_at (least (pairs_of (between c e es))) (at (pairs_of es) e) → (o : Option ℕ) → c ≤ x.0 → x.0 < e → at (with_value x.0 o (pairs_of es)) c ≡ or_at (least (with_value x.0 o (pairs_of (between c e es)))) (at (with_value x.0 o (pairs_of es)) e)
    found rest None from lt = rest
    found rest (Some v) from lt = here (x.0, v) (pairs_of es) c from

    beyond : at (pairs_of es) c ≡ or_at (least (pairs_of (between c e es))) (at (pairs_of es) e) → (o : Option ℕ) → e ≤ x.0 → at (with_value x.0 o (pairs_of es)) c ≡ or_at (least (pairs_of (between c e es))) (at (with_value x.0 o (pairs_of es)) e)
    beyond rest None far = rest
    beyond rest (Some v) far =
        here (x.0, v) (pairs_of es) c (omega arith)
        ∙ sym (ap (λ (l : Entries). or_at (least (pairs_of l)) (at ((x.0, v) ∷ pairs_of es) e)) (none_between c e x.0 es far (first _ _ sorted)) ∙ here (x.0, v) (pairs_of es) e far)

    by : at (pairs_of es) c ≡ or_at (least (pairs_of (between c e es))) (at (pairs_of es) e) → (x.0 < c) ⊎ (c ≤ x.0) → (x.0 < e) ⊎ (e ≤ x.0) → at (pairs_of (x ∷ es)) c ≡ or_at (least (pairs_of (between c e (x ∷ es)))) (at (pairs_of (x ∷ es)) e)
    by rest (inl lt) b =
        with_past x.0 x.1.value (pairs_of es) c lt ∙ rest
        ∙ sym (ap (λ (l : Entries). or_at (least (pairs_of l)) (at (pairs_of (x ∷ es)) e)) (outside c e x es (inl lt)) ∙ ap (or_at (least (pairs_of (between c e es)))) (with_past x.0 x.1.value (pairs_of es) e (omega arith)))
    by rest (inr from) (inl lt) = found rest x.1.value from lt ∙ sym (ap (λ (l : Entries). or_at (least (pairs_of l)) (at (pairs_of (x ∷ es)) e)) (inside c e x es from lt))
    by rest (inr from) (inr far) = beyond rest x.1.value far ∙ sym (ap (λ (l : Entries). or_at (least (pairs_of l)) (at (pairs_of (x ∷ es)) e)) (outside c e x es (inr far)))

-- Stretches --

module _ (ss : List Stretch) (m : Map) (c e i : ℕ) (w : IsIn ss c i) (next : i + 1 < length ss) (end : (d : Stretch) → e ≡ (get_or ss (i + 1) d).from) where
  before_end : (d : Stretch) → c < e
  before_end d = omega (arith, w.before_next d next, end d)

  -- a bare stretch is stepped over
  pub stepped : IsBare ss m i → Stretch → at m c ≡ at m e
  stepped bare d = skip m c e (omega (arith, before_end d)) (λ q a b. bare.absent q (record {
    in_range = w.in_range;
    not_before = λ d'. omega (arith, w.not_before d', a);
    before_next = λ d' lt. omega (arith, end d', b);
  }))

  -- its end is in the next one
  pub next_home : IsRising ss → IsIn ss e (i + 1)
  next_home r = record {
    in_range = next;
    not_before = λ d. omega (arith, end d);
    before_next = λ d lt. omega (arith, end d, r.rises (i + 1) (i + 1 + 1) d (omega arith) lt);
  }

module _ (ss : List Stretch) (m : Map) (i c : ℕ) (first_key : (d : Stretch) → c ≡ (get_or ss i d).from) where
  -- a stretch that no name is in is bare
  pub bare_at_end : Stretch → at m c ≡ End → IsBare ss m i
  bare_at_end d none = record { absent = λ q w. none_from m c none q (omega (arith, first_key d, w.not_before d)) }

  pub bare_below : Stretch → T (is_sorted nat_cmp m) → (k : ℕ) → at m c ≡ Key k → i + 1 < length ss → ((d : Stretch) → (get_or ss (i + 1) d).from ≤ k) → IsBare ss m i
  bare_below d sorted k name next far = record { absent = λ q w. none_below m c k sorted name q (omega (arith, first_key d, w.not_before d)) (omega (arith, w.before_next d next, far d)) }
