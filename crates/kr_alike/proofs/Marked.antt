-- The marks say which requests come.
use Rattle.std.proofs.Common.{ℕ, ◌<◌, ◌≤◌, ◌≡◌, ◌⊎◌, inl, inr, refl, sym, ap, ◌∙◌, subst, Bool, true, false, List, IsTrue, arith}
use Rattle.std.specs.Prelude.{◌+◌, ◌*◌, ◌/◌, ◌%◌, not, ◌&&◌, ◌||◌, slice_index_or}
use Rattle.std.proofs.lemmas.Bool.{and_parts}
use Rattle.kr_model.specs.declared.Row.{Row}
use Rattle.kr_model.specs.declared.Row.TheVariants as row
use Rattle.kr_model.specs.declared.Side.{Side}
use Rattle.kr_model.specs.declared.Side.TheVariants.{Current, Next}
use Rattle.kr_model.specs.Protocol.{Protocol, IsLawful}
use Rattle.kr_model.specs.Covers.{mode_after, conflicts_with}
use Rattle.kr_model.specs.Safe.{free, start, MayAsk}
use Rattle.kr_theorem.proofs.safe.Range.{beside_range}
use Rattle.kr_alike.specs.declared.coming.Coming.{Coming}
use Rattle.kr_alike.specs.declared.modes.Modes.{Modes}
use Rattle.kr_alike.specs.Closed.{none, given, is_blocked, after, IsClosedFor, HasClosedSetFor}
use Rattle.kr_alike.specs.Marks.{by_next, asked_place, is_insert}
use Rattle.kr_alike.specs.Growth.{Comes}
use Rattle.kr_alike.proofs.Held.{same_modes}
use Rattle.kr_alike.specs.Coming.{MayComeBeside, MayCome, HasClosedSet}
use Rattle.kr_alike.specs.Asked.{row_at, side_at, IsAsked, AreAsked, AreLeft}

-- Places --

place_below : (r s x b : ℕ) → r < 7 → s < 2 → x ≤ 15 → b ≤ 15 → ((r * 2 + s) * 16 + x) * 16 + b < 3584
place_below r s x b c d e f = omega arith

place_row : (r s x b : ℕ) → s < 2 → x ≤ 15 → b ≤ 15 → (((r * 2 + s) * 16 + x) * 16 + b) / 512 ≡ r
place_row r s x b d e f = omega arith

place_side : (r s x b : ℕ) → s < 2 → x ≤ 15 → b ≤ 15 → (((r * 2 + s) * 16 + x) * 16 + b) / 256 % 2 ≡ s
place_side r s x b d e f = omega arith

place_own : (r s x b : ℕ) → x ≤ 15 → b ≤ 15 → (((r * 2 + s) * 16 + x) * 16 + b) / 16 % 16 ≡ x
place_own r s x b e f = omega arith

place_next : (r s x b : ℕ) → b ≤ 15 → (((r * 2 + s) * 16 + x) * 16 + b) % 16 ≡ b
place_next r s x b f = omega arith

-- The mark at the place of these numbers.
at_place : (p : Protocol) (marks : List Bool) (r s x b : ℕ) → AreAsked p marks → r < 7 → s < 2 → x ≤ 15 → b ≤ 15 → IsAsked p (row_at r) (side_at s) x b → IsTrue (slice_index_or marks (((r * 2 + s) * 16 + x) * 16 + b) true)
at_place p marks r s x b asked in_r in_s in_x in_b is =
    let k = ((r * 2 + s) * 16 + x) * 16 + b in
    let m = asked.marked k (place_below r s x b in_r in_s in_x in_b) in
    m.1 (subst (λ z. IsAsked p (row_at z) (side_at (k / 256 % 2)) (k / 16 % 16) (k % 16)) (sym (place_row r s x b in_s in_x in_b))
    (subst (λ z. IsAsked p (row_at r) (side_at z) (k / 16 % 16) (k % 16)) (sym (place_side r s x b in_s in_x in_b))
    (subst (λ z. IsAsked p (row_at r) (side_at s) z (k % 16)) (sym (place_own r s x b in_x in_b))
    (subst (λ z. IsAsked p (row_at r) (side_at s) x z) (sym (place_next r s x b in_b)) is))))

decoded : (p : Protocol) (marks : List Bool) (r : Row) (s : Side) (x n : ℕ) → AreAsked p marks → x ≤ 15 → n ≤ 15 → IsAsked p r s x (by_next r s n) → IsTrue (slice_index_or marks (asked_place r s x n) true)
decoded p marks row.FetchHit Current x n asked l m is = at_place p marks 0 0 x 0 asked (omega arith) (omega arith) l (omega arith) is
decoded p marks row.FetchHit Next x n asked l m is = at_place p marks 0 1 x 0 asked (omega arith) (omega arith) l (omega arith) is
decoded p marks row.FetchMiss Current x n asked l m is = at_place p marks 1 0 x 0 asked (omega arith) (omega arith) l (omega arith) is
decoded p marks row.FetchMiss Next x n asked l m is = at_place p marks 1 1 x 0 asked (omega arith) (omega arith) l (omega arith) is
decoded p marks row.ScanKey Current x n asked l m is = at_place p marks 2 0 x 0 asked (omega arith) (omega arith) l (omega arith) is
decoded p marks row.ScanKey Next x n asked l m is = at_place p marks 2 1 x 0 asked (omega arith) (omega arith) l (omega arith) is
decoded p marks row.ScanStop Current x n asked l m is = at_place p marks 3 0 x 0 asked (omega arith) (omega arith) l (omega arith) is
decoded p marks row.ScanStop Next x n asked l m is = at_place p marks 3 1 x 0 asked (omega arith) (omega arith) l (omega arith) is
decoded p marks row.Insert Current x n asked l m is = at_place p marks 4 0 x n asked (omega arith) (omega arith) l m is
decoded p marks row.Insert Next x n asked l m is = at_place p marks 4 1 x 0 asked (omega arith) (omega arith) l (omega arith) is
decoded p marks row.Delete Current x n asked l m is = at_place p marks 5 0 x n asked (omega arith) (omega arith) l m is
decoded p marks row.Delete Next x n asked l m is = at_place p marks 5 1 x 0 asked (omega arith) (omega arith) l (omega arith) is
decoded p marks row.Update Current x n asked l m is = at_place p marks 6 0 x 0 asked (omega arith) (omega arith) l (omega arith) is
decoded p marks row.Update Next x n asked l m is = at_place p marks 6 1 x 0 asked (omega arith) (omega arith) l (omega arith) is

-- All that may come comes.
module _ (p : Protocol) (laws : IsLawful p) (w : Coming) (asked : AreAsked p w.asked.items) (left : AreLeft p w.left.items (p.count + 1)) where
  and_true : (a b : Bool) → a ≡ true → b ≡ true → (a && b) ≡ true
  and_true a b e f = ap (λ z. z && b) e ∙ f

  or_true : (a b : Bool) → b ≡ true → (a || b) ≡ true
  or_true true b e = refl
  or_true false b e = e

  beside_marked : (r : Row) (s : Side) (y : ℕ) → y ≤ p.count → MayComeBeside p r s y → (not (is_insert r s) || slice_index_or w.left.items y true) ≡ true
  beside_marked row.Insert Current y le may = let m = left.marked y (omega arith) in m.1 may
  beside_marked row.Insert Next y le may = refl
  beside_marked row.FetchHit s y le may = refl
  beside_marked row.FetchMiss s y le may = refl
  beside_marked row.ScanKey s y le may = refl
  beside_marked row.ScanStop s y le may = refl
  beside_marked row.Delete s y le may = refl
  beside_marked row.Update s y le may = refl

  pub may_comes : (r : Row) (s : Side) (x n y : ℕ) → y ≤ p.count → MayCome p r s x n y → Comes w r s x n y
  may_comes r s x n y le may =
      let own_range = beside_range p laws may.own free may.own_reached in
      let next_range = beside_range p laws may.next free may.next_reached in
      let few = laws.few in
      let a = own_range.0 in
      let b = next_range.0 in
      let e = may.own_mode in
      let f = may.next_mode in
      and_true _ _
      (decoded p w.asked.items r s x n asked (omega arith) (omega arith)
      (record { own = may.own; reached = may.own_reached; mode = may.own_mode; above = record { next = may.next; reached = may.next_reached; asks = (ap (by_next r s) may.next_mode, may.asks) } }))
      (beside_marked r s y le may.beside)

  -- So a set that is closed under what comes is closed under what may come.
  pub closed_safely : (q : Protocol) → HasClosedSetFor p q (Comes w) → HasClosedSet p q
  closed_safely q some =
      let c = some.closed in
      record {
        updates = some.updates;
        has = some.has;
        closed = record {
          within = c.within;
          start = c.start;
          turn = c.turn;
          leave = c.leave;
          answer = λ r s x y n may h k. c.answer r s x y n (may_comes r s x.first n.first y.first (let z = c.within y x (c.turn x y h) in z.0) may) h k;
          move = λ r s x y n may h k. c.move r s x y n (may_comes r s x.first n.first y.first (let z = c.within y x (c.turn x y h) in z.0) may) h k;
        };
      }

-- All that comes may come, in the modes of the tables --

-- The request is asked by the marks.
read_back : (p : Protocol) (marks : List Bool) (r s x b : ℕ) → AreAsked p marks → r < 7 → s < 2 → x ≤ 15 → b ≤ 15 → IsTrue (slice_index_or marks (((r * 2 + s) * 16 + x) * 16 + b) true) → IsAsked p (row_at r) (side_at s) x b
read_back p marks r s x b asked in_r in_s in_x in_b is =
    let k = ((r * 2 + s) * 16 + x) * 16 + b in
    let m = asked.marked k (place_below r s x b in_r in_s in_x in_b) in
    subst (λ z. IsAsked p (row_at z) (side_at s) x b) (place_row r s x b in_s in_x in_b)
    (subst (λ z. IsAsked p (row_at (k / 512)) (side_at z) x b) (place_side r s x b in_s in_x in_b)
    (subst (λ z. IsAsked p (row_at (k / 512)) (side_at (k / 256 % 2)) z b) (place_own r s x b in_x in_b)
    (subst (λ z. IsAsked p (row_at (k / 512)) (side_at (k / 256 % 2)) (k / 16 % 16) z) (place_next r s x b in_b) (m.0 is))))

encoded : (p : Protocol) (marks : List Bool) (r : Row) (s : Side) (x n : ℕ) → AreAsked p marks → x ≤ 15 → n ≤ 15 → IsTrue (slice_index_or marks (asked_place r s x n) true) → IsAsked p r s x (by_next r s n)
encoded p marks row.FetchHit Current x n asked l m is = read_back p marks 0 0 x 0 asked (omega arith) (omega arith) l (omega arith) is
encoded p marks row.FetchHit Next x n asked l m is = read_back p marks 0 1 x 0 asked (omega arith) (omega arith) l (omega arith) is
encoded p marks row.FetchMiss Current x n asked l m is = read_back p marks 1 0 x 0 asked (omega arith) (omega arith) l (omega arith) is
encoded p marks row.FetchMiss Next x n asked l m is = read_back p marks 1 1 x 0 asked (omega arith) (omega arith) l (omega arith) is
encoded p marks row.ScanKey Current x n asked l m is = read_back p marks 2 0 x 0 asked (omega arith) (omega arith) l (omega arith) is
encoded p marks row.ScanKey Next x n asked l m is = read_back p marks 2 1 x 0 asked (omega arith) (omega arith) l (omega arith) is
encoded p marks row.ScanStop Current x n asked l m is = read_back p marks 3 0 x 0 asked (omega arith) (omega arith) l (omega arith) is
encoded p marks row.ScanStop Next x n asked l m is = read_back p marks 3 1 x 0 asked (omega arith) (omega arith) l (omega arith) is
encoded p marks row.Insert Current x n asked l m is = read_back p marks 4 0 x n asked (omega arith) (omega arith) l m is
encoded p marks row.Insert Next x n asked l m is = read_back p marks 4 1 x 0 asked (omega arith) (omega arith) l (omega arith) is
encoded p marks row.Delete Current x n asked l m is = read_back p marks 5 0 x n asked (omega arith) (omega arith) l m is
encoded p marks row.Delete Next x n asked l m is = read_back p marks 5 1 x 0 asked (omega arith) (omega arith) l (omega arith) is
encoded p marks row.Update Current x n asked l m is = read_back p marks 6 0 x 0 asked (omega arith) (omega arith) l (omega arith) is
encoded p marks row.Update Next x n asked l m is = read_back p marks 6 1 x 0 asked (omega arith) (omega arith) l (omega arith) is

-- A request that goes by nothing on the next name may come with nothing there.
plain_may : (p : Protocol) (r : Row) (s : Side) (x y : ℕ) → (i : IsAsked p r s x 0) → (let a = i.above in MayAsk p r s i.own a.next → MayAsk p r s i.own free) → MayComeBeside p r s y → MayCome p r s x 0 y
plain_may p r s x y i turn beside =
    let a = i.above in
    record { own = i.own; next = free; own_reached = i.reached; next_reached = start; own_mode = i.mode; next_mode = refl; asks = turn a.asks.1; beside = beside }

next_may : (p : Protocol) (r : Row) (s : Side) (x n y : ℕ) → (i : IsAsked p r s x n) → (let a = i.above in a.next.mode ≡ n) → MayComeBeside p r s y → MayCome p r s x n y
next_may p r s x n y i is beside =
    let a = i.above in
    record { own = i.own; next = a.next; own_reached = i.reached; next_reached = a.reached; own_mode = i.mode; next_mode = is; asks = a.asks.1; beside = beside }

abbrev IsPlain : Row → Side → Type 0
IsPlain row.Insert Current = ⊥
IsPlain row.Delete Current = ⊥
IsPlain _ _ = Unit {0}

-- It goes by nothing there, so it is answered and leads on as if one had nothing there; or it may come as it is.
abbrev Either : Protocol → Row → Side → ℕ → ℕ → ℕ → Type 0
Either p r s x n y = MayCome p r s x n y ⊎ (MayCome p r s x 0 y × IsPlain r s)

comes_may : (p : Protocol) (r : Row) (s : Side) (x n y : ℕ) → IsAsked p r s x (by_next r s n) → MayComeBeside p r s y → Either p r s x n y
comes_may p row.FetchHit Current x n y i beside = inr (plain_may p row.FetchHit Current x y i (λ h. h) beside, tt)
comes_may p row.FetchHit Next x n y i beside = inr (plain_may p row.FetchHit Next x y i (λ h. h) beside, tt)
comes_may p row.FetchMiss Current x n y i beside = inr (plain_may p row.FetchMiss Current x y i (λ h. h) beside, tt)
comes_may p row.FetchMiss Next x n y i beside = inr (plain_may p row.FetchMiss Next x y i (λ h. h) beside, tt)
comes_may p row.ScanKey Current x n y i beside = inr (plain_may p row.ScanKey Current x y i (λ h. h) beside, tt)
comes_may p row.ScanKey Next x n y i beside = inr (plain_may p row.ScanKey Next x y i (λ h. h) beside, tt)
comes_may p row.ScanStop Current x n y i beside = inr (plain_may p row.ScanStop Current x y i (λ h. h) beside, tt)
comes_may p row.ScanStop Next x n y i beside = inr (plain_may p row.ScanStop Next x y i (λ h. h) beside, tt)
comes_may p row.Insert Current x n y i beside = inl (next_may p row.Insert Current x n y i (let a = i.above in a.asks.0) beside)
comes_may p row.Insert Next x n y i beside = inr (plain_may p row.Insert Next x y i (λ h. h) beside, tt)
comes_may p row.Delete Current x n y i beside = inl (next_may p row.Delete Current x n y i (let a = i.above in a.asks.0) beside)
comes_may p row.Delete Next x n y i beside = inr (plain_may p row.Delete Next x y i (λ h. h) beside, tt)
comes_may p row.Update Current x n y i beside = inr (plain_may p row.Update Current x y i (λ h. h) beside, tt)
comes_may p row.Update Next x n y i beside = inr (plain_may p row.Update Next x y i (λ h. h) beside, tt)

plain_given : (r : Row) (s : Side) (x n : ℕ) → IsPlain r s → given r s x n ≡ given r s x 0
plain_given row.FetchHit Current x n plain = refl
plain_given row.FetchHit Next x n plain = refl
plain_given row.FetchMiss Current x n plain = refl
plain_given row.FetchMiss Next x n plain = refl
plain_given row.ScanKey Current x n plain = refl
plain_given row.ScanKey Next x n plain = refl
plain_given row.ScanStop Current x n plain = refl
plain_given row.ScanStop Next x n plain = refl
plain_given row.Insert Current x n plain = absurd plain
plain_given row.Insert Next x n plain = refl
plain_given row.Delete Current x n plain = absurd plain
plain_given row.Delete Next x n plain = refl
plain_given row.Update Current x n plain = refl
plain_given row.Update Next x n plain = refl

-- The marks of what comes beside a lock.
beside_may : (p : Protocol) (marks : List Bool) (r : Row) (s : Side) (y : ℕ) → AreLeft p marks (p.count + 1) → y ≤ p.count → (not (is_insert r s) || slice_index_or marks y true) ≡ true → MayComeBeside p r s y
beside_may p marks row.Insert Current y left le h = let m = left.marked y (omega arith) in m.0 h
beside_may p marks row.Insert Next y left le h = tt
beside_may p marks row.FetchHit s y left le h = tt
beside_may p marks row.FetchMiss s y left le h = tt
beside_may p marks row.ScanKey s y left le h = tt
beside_may p marks row.ScanStop s y left le h = tt
beside_may p marks row.Delete s y left le h = tt
beside_may p marks row.Update s y left le h = tt

module _ (p : Protocol) (laws : IsLawful p) (w : Coming) (asked : AreAsked p w.asked.items) (left : AreLeft p w.left.items (p.count + 1)) where
  either : (r : Row) (s : Side) (x n y : ℕ) → x ≤ p.count → n ≤ p.count → y ≤ p.count → Comes w r s x n y → Either p r s x n y
  either r s x n y in_x in_n in_y c =
      let few = laws.few in
      let z = and_parts (slice_index_or w.asked.items (asked_place r s x n) true) _ c in
      comes_may p r s x n y (encoded p w.asked.items r s x n asked (omega arith) (omega arith) z.0) (beside_may p w.left.items r s y left in_y z.1)

  -- So a set that is closed under what may come is closed under what comes.
  pub closed_fully : (q : Protocol) → HasClosedSet p q → HasClosedSetFor p q (Comes w)
  closed_fully q some = record {
    updates = some.updates;
    has = some.has;
    closed = record {
      within = c.within;
      start = c.start;
      turn = c.turn;
      leave = c.leave;
      answer = λ r s x y n come h k. answer r s x y n h k (may r s x y n come h k);
      move = λ r s x y n come h k free. move r s x y n h k free (may r s x y n come h k);
    };
  }
    where
      c : IsClosedFor p q (MayCome p) (λ x y. IsTrue (some.has x y))
      c = some.closed

      may : (r : Row) (s : Side) (x y n : Modes) → Comes w r s x.first n.first y.first → IsTrue (some.has x y) → IsTrue (some.has n none) → Either p r s x.first n.first y.first
      may r s x y n come h k =
          let a = c.within x y h in
          let b = c.within y x (c.turn x y h) in
          let d = c.within n none k in
          either r s x.first n.first y.first a.0 d.0 b.0 come

      answer : (r : Row) (s : Side) (x y n : Modes) → IsTrue (some.has x y) → IsTrue (some.has n none) → Either p r s x.first n.first y.first → is_blocked p r s x.first n.first y.first ≡ is_blocked q r s x.second n.second y.second
      answer r s x y n h k (inl m) = c.answer r s x y n m h k
      answer r s x y n h k (inr (m, plain)) =
          ap (λ a. conflicts_with p y.first x.first a) (ap (λ g. p.ask r s g) (plain_given r s x.first n.first plain))
          ∙ c.answer r s x y none m h c.start
          ∙ sym (ap (λ a. conflicts_with q y.second x.second a) (ap (λ g. q.ask r s g) (plain_given r s x.second n.second plain)))

      move : (r : Row) (s : Side) (x y n : Modes) → IsTrue (some.has x y) → IsTrue (some.has n none) → is_blocked p r s x.first n.first y.first ≡ false → Either p r s x.first n.first y.first → IsTrue (some.has (after p q r s x n) y)
      move r s x y n h k free (inl m) = c.move r s x y n m h k free
      move r s x y n h k free (inr (m, plain)) =
          let e = ap (λ g. p.ask r s g) (plain_given r s x.first n.first plain) in
          let f = ap (λ g. q.ask r s g) (plain_given r s x.second n.second plain) in
          subst (λ z. IsTrue (some.has z y)) (sym (same_modes _ _ _ _ (ap (λ a. mode_after p x.first a) e) (ap (λ a. mode_after q x.second a) f)))
          (c.move r s x y none m h c.start (sym (ap (λ a. conflicts_with p y.first x.first a) e) ∙ free))
