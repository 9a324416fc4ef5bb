-- A list of pairs that grows: what is known of it stays, and one more pair keeps it.
use Rattle.std.proofs.Common.{ℕ, zero, suc, Bool, true, false, ◌≡◌, ◌≤◌, ◌<◌, ◌+◌, ◌∙◌, Option, Some, None, List, [], ◌∷◌, ◌++◌, length, get_or, set, replicate, ap, refl, sym, subst, cond, add-zero, inl, inr, arith, ◌⊎◌}
use Rattle.std.proofs.lemmas.Bool.{cases_eq}
use Rattle.std.proofs.lemmas.List.{get_or-set_other, length-set, length-replicate}
use Rattle.std.proofs.lemmas.List.Sums.{sum_by-set}
use Rattle.std.proofs.Math.ListN.{get_or-append, length-append}
use Rattle.std.proofs.Math.Seq.{get_or-append_seam}
use Rattle.kr_model.specs.declared.Row.{Row}
use Rattle.kr_model.specs.declared.Row.TheVariants as row
use Rattle.kr_model.specs.declared.Side.TheVariants.{Current, Next}
use Rattle.kr_model.specs.declared.Span.{Span}
use Rattle.kr_model.specs.declared.Span.TheVariants.{Instant, Commit}
use Rattle.kr_model.specs.Covers.{mode_after}
use Rattle.kr_model.specs.declared.Side.{Side}
use Rattle.kr_model.specs.declared.LockState.{LockState}
use Rattle.kr_model.specs.Protocol.{Protocol, IsLawful, IsMode}
use Rattle.kr_model.specs.Safe.{after, asked, given}
use Rattle.kr_decide.specs.declared.pair.Pair.{Pair}
use Rattle.kr_decide.specs.declared.pair.Way.{Way}
use Rattle.kr_decide.specs.declared.pair.Way.TheVariants as way
use Rattle.kr_decide.specs.declared.finding.Found.{Found}
use Rattle.kr_decide.specs.Numbers.{pair_number}
use Rattle.kr_decide.specs.Pairs.{no_pair, pair_at, IsMoved, IsWay, AreDerived}
use Rattle.kr_decide.specs.declared.finding.Spot.{Spot}
use Rattle.kr_decide.specs.Findings.{Has, left, IsFound, IsSpot, Grows}
use Rattle.kr_decide.proofs.SameNumbers.{same_pair}

-- What stands before stays, and is the same in the longer list.
abbrev pub Stays : List Pair → List Pair → Type 0
Stays xs ys = (k : ℕ) → k < length xs → pair_at ys k ≡ pair_at xs k

pub at_before : (xs : List Pair) (x : Pair) → Stays xs (xs ++ x ∷ [])
at_before xs x k h = get_or-append xs (x ∷ []) no_pair k h

pub at_end : (xs : List Pair) (x : Pair) → pair_at (xs ++ x ∷ []) (length xs) ≡ x
at_end xs x = get_or-append_seam xs x [] no_pair

pub one_more : (xs : List Pair) (x : Pair) → length (xs ++ x ∷ []) ≡ length xs + 1
one_more xs x = length-append xs (x ∷ [])

-- A fact of each place, past the end too, stays one with one more pair of which it holds.
pub at_each : (P : Pair → Type 0) (xs : List Pair) (x : Pair) → P no_pair → P x → ((k : ℕ) → P (pair_at xs k)) → (k : ℕ) → P (pair_at (xs ++ x ∷ []) k)
at_each P [] x none new old zero = new
at_each P [] x none new old (suc k) = none
at_each P (y ∷ xs) x none new old zero = old zero
at_each P (y ∷ xs) x none new old (suc k) = at_each P xs x none new (λ i. old (suc i)) k

-- A way from the first k pairs is one in each longer list.
pub way_kept : (p : Protocol) (xs ys : List Pair) (k : ℕ) (x y : LockState) (w : Way) → ((i : ℕ) → i < k → pair_at ys i ≡ pair_at xs i) → IsWay p xs k x y w → IsWay p ys k x y w
way_kept p xs ys k x y way.Start same h = h
way_kept p xs ys k x y (way.Turned i) same h =
    (h.0, subst (λ (z : Pair). x ≡ z.other) (sym (same i h.0)) h.1, subst (λ (z : Pair). y ≡ z.own) (sym (same i h.0)) h.2)
way_kept p xs ys k x y (way.Left i) same h = (h.0, h.1, subst (λ (z : Pair). y ≡ z.other) (sym (same i h.0)) h.2)
way_kept p xs ys k x y (way.Moved i r s j) same h =
    (h.0, h.1, subst (λ (z : Pair). IsMoved p z (pair_at ys j) r s x y) (sym (same i h.0)) (subst (λ (z : Pair). IsMoved p (pair_at xs i) z r s x y) (sym (same j h.1)) h.2))

pub has_kept : (xs ys : List Pair) (x y : LockState) → length xs ≤ length ys → Stays xs ys → Has xs x y → Has ys x y
has_kept xs ys x y longer stays h = record {
  place = h.place;
  within = omega arith;
  own = subst (λ (z : Pair). z.own ≡ x) (sym (stays h.place h.within)) h.own;
  other = subst (λ (z : Pair). z.other ≡ y) (sym (stays h.place h.within)) h.other;
}

-- A pair at the end of the list is in it.
pub has_end : (xs : List Pair) (x : Pair) → Has (xs ++ x ∷ []) x.own x.other
has_end xs x = record {
  place = length xs;
  within = let e = one_more xs x in omega arith;
  own = ap (λ (z : Pair). z.own) (at_end xs x);
  other = ap (λ (z : Pair). z.other) (at_end xs x);
}

-- So is each of a list with one more.
derived_more : (p : Protocol) (xs : List Pair) (x : Pair) → AreDerived p xs → IsWay p xs (length xs) x.own x.other x.way → AreDerived p (xs ++ x ∷ [])
derived_more p xs x old new k within =
    let e = one_more xs x in
    split (before_or_end (omega arith))
  where
    before_or_end : k < length xs + 1 → (k < length xs) ⊎ (k ≡ length xs)
    before_or_end h = grind arith

    Here : ℕ → Type 0
    Here i = IsWay p (xs ++ x ∷ []) i (pair_at (xs ++ x ∷ []) i).own (pair_at (xs ++ x ∷ []) i).other (pair_at (xs ++ x ∷ []) i).way

    before : k < length xs → Here k
    before h =
        subst (λ (z : Pair). IsWay p (xs ++ x ∷ []) k z.own z.other z.way) (sym (at_before xs x k h))
        (way_kept p xs (xs ++ x ∷ []) k _ _ _ (λ i l. at_before xs x i (omega arith)) (old k h))

    at_last : Here (length xs)
    at_last =
        subst (λ (z : Pair). IsWay p (xs ++ x ∷ []) (length xs) z.own z.other z.way) (sym (at_end xs x))
        (way_kept p xs (xs ++ x ∷ []) (length xs) x.own x.other x.way (λ i l. at_before xs x i l) new)

    split : (k < length xs) ⊎ (k ≡ length xs) → Here k
    split (inl h) = before h
    split (inr here) = subst Here (sym here) at_last

-- What has been seen is in the list, with one more pair that is marked as seen.
seen_more : (xs : List Pair) (x : Pair) (us : List Bool) → x.other.mode ≤ 15
    → ((a b : LockState) → a.mode ≤ 15 → b.mode ≤ 15 → get_or us (pair_number a b) true ≡ false → Has xs a b)
    → (a b : LockState) → a.mode ≤ 15 → b.mode ≤ 15 → get_or (set us (pair_number x.own x.other) false) (pair_number a b) true ≡ false → Has (xs ++ x ∷ []) a b
seen_more xs x us range old a b ra rb h = split (cases_eq (pair_number a b) (pair_number x.own x.other))
  where
    split : (pair_number a b ≡ pair_number x.own x.other) ⊎ (pair_number a b ≡ pair_number x.own x.other → ⊥) → Has (xs ++ x ∷ []) a b
    split (inl same) =
        let e = same_pair a b x.own x.other rb range same in
        let h = has_end xs x in
        record { place = h.place; within = h.within; own = h.own ∙ sym e.0; other = h.other ∙ sym e.1 }
    split (inr apart) =
        has_kept xs (xs ++ x ∷ []) a b (let e = one_more xs x in omega arith) (at_before xs x)
        (old a b ra rb (sym (get_or-set_other us (pair_number x.own x.other) (pair_number a b) false true apart) ∙ h))

-- One fewer is left.
left_less : (us : List Bool) (n : ℕ) → n < length us → get_or us n true ≡ true → left (set us n false) + 1 ≡ left us
left_less us n within unseen =
    let e : left (set us n false) + cond (get_or us n true) 1 0 ≡ left us + 0 = sum_by-set (λ (b : Bool). cond b 1 0) us n false true within in
    let one : cond (get_or us n true) 1 0 ≡ 1 = ap (λ (b : Bool). cond b 1 0) unseen in
    ap (λ (v : ℕ). left (set us n false) + v) (sym one) ∙ e ∙ add-zero (left us)

-- A pair that wasn't seen is put behind the others.
pub grown : (p : Protocol) (f f' : Found) (x : Pair) → p.count ≤ 15 → IsFound p f
    → IsWay p f.pairs.items (length f.pairs.items) x.own x.other x.way → x.own.mode ≤ p.count → x.other.mode ≤ p.count → pair_number x.own x.other < 147456
    → get_or f.unseen.items (pair_number x.own x.other) true ≡ true
    → f'.pairs.items ≡ f.pairs.items ++ x ∷ [] → f'.unseen.items ≡ set f.unseen.items (pair_number x.own x.other) false → f'.nexts.items ≡ f.nexts.items
    → Grows p f f'
grown p f f' x few old new own other within unseen pairs unseens nexts = record {
  found = record {
    derived = subst (AreDerived p) (sym pairs) (derived_more p f.pairs.items x old.derived new);
    own = λ k. subst (λ (l : List Pair). (pair_at l k).own.mode ≤ p.count) (sym pairs) (at_each (λ (z : Pair). z.own.mode ≤ p.count) f.pairs.items x (omega arith) own old.own k);
    other = λ k. subst (λ (l : List Pair). (pair_at l k).other.mode ≤ p.count) (sym pairs) (at_each (λ (z : Pair). z.other.mode ≤ p.count) f.pairs.items x (omega arith) other old.other k);
    size = ap length unseens ∙ length-set f.unseen.items (pair_number x.own x.other) false ∙ old.size;
    seen = λ a b ra rb h.
        subst (λ (l : List Pair). Has l a b) (sym pairs)
        (seen_more f.pairs.items x f.unseen.items (omega arith) old.seen a b ra rb (subst (λ (l : List Bool). get_or l (pair_number a b) true ≡ false) unseens h));
  };
  longer = let e = ap length pairs ∙ one_more f.pairs.items x in omega arith;
  kept = λ k h. subst (λ (l : List Pair). pair_at l k ≡ pair_at f.pairs.items k) (sym pairs) (at_before f.pairs.items x k h);
  total =
      let e = ap length pairs ∙ one_more f.pairs.items x in
      let size = old.size in
      let l : left f'.unseen.items + 1 ≡ left f.unseen.items = ap (λ (us : List Bool). left us + 1) unseens ∙ left_less f.unseen.items (pair_number x.own x.other) (omega arith) unseen in
      omega arith;
  nexts = nexts;
}

-- What has grown twice has grown, and what has not changed too.
pub grows_on : (p : Protocol) (a b c : Found) → Grows p a b → Grows p b c → Grows p a c
grows_on p a b c ab bc = record {
  found = bc.found;
  longer = let x = ab.longer in let y = bc.longer in omega arith;
  kept = λ k h. bc.kept k (let x = ab.longer in omega arith) ∙ ab.kept k h;
  total = bc.total ∙ ab.total;
  nexts = bc.nexts ∙ ab.nexts;
}

pub grows_none : (p : Protocol) (a : Found) → IsFound p a → Grows p a a
grows_none p a found = record { found = found; longer = omega arith; kept = λ k h. refl; total = refl; nexts = refl }

pub has_grown : (p : Protocol) (a b : Found) (x y : LockState) → Grows p a b → Has a.pairs.items x y → Has b.pairs.items x y
has_grown p a b x y g h = has_kept a.pairs.items b.pairs.items x y g.longer g.kept h

-- The mode after a request is one of the protocol.
pub after_within : (p : Protocol) → IsLawful p → (r : Row) (s : Side) (x n : LockState) → x.mode ≤ p.count → n.mode ≤ p.count → (after p r s x n).mode ≤ p.count
after_within p laws r s x n mx mn = by_asked (asked p r s x n) refl
  where
    given_within : (r : Row) (s : Side) → given r s x n ≤ p.count
    given_within row.Insert Next = mx
    given_within row.Delete Next = mx
    given_within row.Insert Current = mn
    given_within row.Delete Current = mn
    given_within row.FetchHit s = omega arith
    given_within row.FetchMiss s = omega arith
    given_within row.ScanKey s = omega arith
    given_within row.ScanStop s = omega arith
    given_within row.Update s = omega arith

    convert_within : (h q : ℕ) → h ≤ p.count → IsMode p q → p.convert h q ≤ p.count
    convert_within zero q h m = let e = laws.convert-none_held q m.in_range in let r = m.in_range in omega arith
    convert_within (suc h) q w m = let c = laws.convert-modes (suc h) q (record { some = omega arith; in_range = w }) m in c.in_range

    by_asked : (a : Option (ℕ × Span)) → asked p r s x n ≡ a → mode_after p x.mode (asked p r s x n) ≤ p.count
    by_asked None e = subst (λ (z : Option (ℕ × Span)). mode_after p x.mode z ≤ p.count) (sym e) mx
    by_asked (Some (q, Instant)) e = subst (λ (z : Option (ℕ × Span)). mode_after p x.mode z ≤ p.count) (sym e) mx
    by_asked (Some (q, Commit)) e = subst (λ (z : Option (ℕ × Span)). mode_after p x.mode z ≤ p.count) (sym e) (convert_within x.mode q mx (laws.ask-mode r s (given r s x n) q Commit (given_within r s) e))

-- Before any pair is found, none is seen.
pub found_none : (p : Protocol) (f : Found) → f.pairs.items ≡ [] → f.unseen.items ≡ replicate 147456 true → IsFound p f
found_none p f none unseen = record {
  derived = λ k h. absurd (let e = ap length none in omega arith);
  own = λ k. subst (λ (l : List Pair). (pair_at l k).own.mode ≤ p.count) (sym none) (omega arith);
  other = λ k. subst (λ (l : List Pair). (pair_at l k).other.mode ≤ p.count) (sym none) (omega arith);
  size = ap length unseen ∙ length-replicate 147456 true;
  seen = λ x y mx my h. absurd (let e = sym (subst (λ (l : List Bool). get_or l (pair_number x y) true ≡ false) unseen h) ∙ all_true 147456 (pair_number x y) in cc);
}
  where
    all_true : (n k : ℕ) → get_or (replicate n true) k true ≡ true
    all_true zero k = refl
    all_true (suc n) zero = refl
    all_true (suc n) (suc k) = all_true n k

-- the modes of a spot are those of the protocol
pub record AreModes (p : Protocol) (s : Spot) : Type 0 where
  pub own : s.pair.own.mode ≤ p.count
  pub other : s.pair.other.mode ≤ p.count
  pub next : s.above.state.mode ≤ p.count

pub modes_of : (p : Protocol) (f : Found) (s : Spot) → IsFound p f → IsSpot f.pairs.items s → AreModes p s
modes_of p f s found is = record {
  own = subst (λ (q : Pair). q.own.mode ≤ p.count) is.pair (found.own s.from);
  other = subst (λ (q : Pair). q.other.mode ≤ p.count) is.pair (found.other s.from);
  next = subst (λ (x : LockState). x.mode ≤ p.count) is.above.state (found.own s.above.place);
}
