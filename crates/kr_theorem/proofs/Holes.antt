-- Where a lock lets in what it has to keep out, under an ordered protocol, some fixed schedule goes wrong.
use Rattle.std.proofs.Common.{◌≡◌, ℕ, zero, suc, ◌≤◌, ◌⊎◌, inl, inr, refl, sym, arith, subst, Bool, true, false}
use Rattle.std.specs.Prelude.{◌||◌, Option, Some, None}
use Rattle.kr_model.specs.declared.Row.{Row}
use Rattle.kr_model.specs.declared.Row.TheVariants.{FetchHit, FetchMiss, ScanKey, ScanStop, Insert, Delete, Update}
use Rattle.kr_model.specs.declared.Side.{Side}
use Rattle.kr_model.specs.declared.Side.TheVariants.{Current, Next}
use Rattle.kr_model.specs.declared.KeyUse.{KeyUse}
use Rattle.kr_model.specs.declared.KeyUse.TheVariants.{Read as KeyRead, Updated as KeyUpdated, Inserted as KeyInserted}
use Rattle.kr_model.specs.declared.GapUse.{GapUse}
use Rattle.kr_model.specs.declared.GapUse.TheVariants.{Read as GapRead, Deleted as GapDeleted}
use Rattle.kr_model.specs.declared.LockState.{LockState}
use Rattle.kr_model.specs.declared.Name.TheVariants.{End}
use Rattle.kr_model.specs.declared.Span.{Span}
use Rattle.kr_model.specs.declared.Span.TheVariants.{Instant, Commit}
use Rattle.kr_model.specs.Protocol.{Protocol, IsLawful}
use Rattle.kr_model.specs.Covers.{mode_after, conflicts_with}
use Rattle.kr_model.proofs.Requests.{asks_one}
use Rattle.kr_theorem.proofs.Unblocked.{beside_none}
use Rattle.kr_model.specs.Safe.{free, by_key, by_gap, keeps_out, given, asked, is_blocked, MayAsk, Beside, IsSafe}
use Rattle.kr_theorem.specs.Ordered.{IsAtLeast, IsOrdered}
use Rattle.kr_theorem.specs.Fixed.{first, lowest, LetsIn, FixedHole, fetch_lets_delete, fetch_lets_update, scan_lets_delete, scan_lets_update, miss_lets_delete, stop_lets_delete, update_lets_fetch, update_lets_scan, update_lets_delete, update_lets_update, insert_lets_fetch, insert_lets_scan, insert_lets_delete, insert_lets_update, insert_lets_miss, insert_lets_stop, insert_lets_delete_below, delete_lets_miss, delete_lets_scan, delete_lets_stop, delete_lets_delete, delete_lets_delete_below, miss_lets_insert, scan_lets_insert, stop_lets_insert, delete_lets_insert}
use Rattle.kr_theorem.proofs.Order.{at_least_trans, after_more, less_let_in}
use Rattle.kr_theorem.proofs.Held.{IsBelow, KeepsKey, KeepsGap, IsHeld, asks_mode, asks_more, first_within, lowest_within, given_within, offered, beside_held}
use Rattle.kr_theorem.proofs.Repeats.{enough}

-- Each lesser lock lets in the request of one who has nothing.
abbrev IsOpen : Protocol → ℕ → Row → Side → Type 0
IsOpen p h r s = (m : ℕ) → m ≤ p.count → IsAtLeast p h m → LetsIn p m r s

-- A delete of an inserted key: an insert keeps no lock on the next name, which could block it there.
inserted_lets_delete : (p : Protocol) → IsLawful p → IsOrdered p → LetsIn p (first p Insert Current) Delete Current → FixedHole p
inserted_lets_delete p laws ordered lets_in = insert_lets_delete lets_in (at_next (p.ask Insert Next 0) (λ q span e. ordered.insert_next 0 q span (omega arith) e))
  where
    at_next : (a : Option (ℕ × Span)) → ((q : ℕ) (span : Span) → a ≡ Some (q, span) → span ≡ Instant) → conflicts_with p (mode_after p 0 a) 0 (p.ask Delete Next 0) ≡ false
    at_next None instant = beside_none p laws End 0 (omega arith) (p.ask Delete Next 0) (asks_one p laws (Some End) Delete Next 0 (omega arith))
    at_next (Some (q, Instant)) instant = beside_none p laws End 0 (omega arith) (p.ask Delete Next 0) (asks_one p laws (Some End) Delete Next 0 (omega arith))
    at_next (Some (q, Commit)) instant = let e = instant q Commit refl in absurd (cc)

-- What is let in for the sake of the key.
key_hole : (p : Protocol) → IsLawful p → IsOrdered p → (k : KeyUse) (r : Row) (s : Side) (h : ℕ) → KeepsKey p k h → (r ≡ Update → p.updates ≡ true) → IsOpen p h r s → by_key k r s ≡ true → FixedHole p
key_hole p laws ordered KeyRead Delete Current h (inl keeps) updates let_in e = fetch_lets_delete (let_in (first p FetchHit Current) (first_within p laws FetchHit Current) keeps)
key_hole p laws ordered KeyRead Delete Current h (inr keeps) updates let_in e = scan_lets_delete (let_in (first p ScanKey Current) (first_within p laws ScanKey Current) keeps)
key_hole p laws ordered KeyRead Update Current h (inl keeps) updates let_in e = fetch_lets_update (updates refl) (let_in (first p FetchHit Current) (first_within p laws FetchHit Current) keeps)
key_hole p laws ordered KeyRead Update Current h (inr keeps) updates let_in e = scan_lets_update (updates refl) (let_in (first p ScanKey Current) (first_within p laws ScanKey Current) keeps)
key_hole p laws ordered KeyUpdated FetchHit Current h keeps updates let_in e = update_lets_fetch keeps.0 (let_in (first p Update Current) (first_within p laws Update Current) keeps.1)
key_hole p laws ordered KeyUpdated ScanKey Current h keeps updates let_in e = update_lets_scan keeps.0 (let_in (first p Update Current) (first_within p laws Update Current) keeps.1)
key_hole p laws ordered KeyUpdated Delete Current h keeps updates let_in e = update_lets_delete keeps.0 (let_in (first p Update Current) (first_within p laws Update Current) keeps.1)
key_hole p laws ordered KeyUpdated Update Current h keeps updates let_in e = update_lets_update keeps.0 (let_in (first p Update Current) (first_within p laws Update Current) keeps.1)
key_hole p laws ordered KeyInserted FetchHit Current h keeps updates let_in e = insert_lets_fetch (let_in (first p Insert Current) (first_within p laws Insert Current) keeps)
key_hole p laws ordered KeyInserted FetchMiss Next h keeps updates let_in e = insert_lets_miss (let_in (first p Insert Current) (first_within p laws Insert Current) keeps)
key_hole p laws ordered KeyInserted ScanKey Current h keeps updates let_in e = insert_lets_scan (let_in (first p Insert Current) (first_within p laws Insert Current) keeps)
key_hole p laws ordered KeyInserted ScanStop Next h keeps updates let_in e = insert_lets_stop (let_in (first p Insert Current) (first_within p laws Insert Current) keeps)
key_hole p laws ordered KeyInserted Delete Current h keeps updates let_in e = inserted_lets_delete p laws ordered (let_in (first p Insert Current) (first_within p laws Insert Current) keeps)
key_hole p laws ordered KeyInserted Delete Next h keeps updates let_in e = insert_lets_delete_below (let_in (first p Insert Current) (first_within p laws Insert Current) keeps)
key_hole p laws ordered KeyInserted Update Current h keeps updates let_in e = insert_lets_update (updates refl) (let_in (first p Insert Current) (first_within p laws Insert Current) keeps)
key_hole p laws ordered k r s h keeps updates let_in e = absurd (cc)

-- A lock on a name with a gap to keep is at least that of a first request, or that of an insert.
first_or_insert : (p : Protocol) → IsLawful p → IsOrdered p → (r : Row) (s : Side) (h : ℕ) → IsBelow p r s h → IsAtLeast p h (first p r s) ⊎ IsAtLeast p h (first p Insert Current)
first_or_insert p laws ordered r s h b = by b.n b.at_least
  where
    by : (n : ℕ) → IsAtLeast p h (lowest p (first p r s) n) → IsAtLeast p h (first p r s) ⊎ IsAtLeast p h (first p Insert Current)
    by zero keeps = inl keeps
    by (suc n) keeps =
        let above = lowest p (first p r s) n in
        let within = lowest_within p laws (first p r s) n (first_within p laws r s) in
        let more = after_more p laws ordered 0 (p.ask Insert Current above) (p.ask Insert Current 0) (omega arith) (asks_mode p laws Insert Current above within) (asks_mode p laws Insert Current 0 (omega arith)) (asks_more p laws ordered Insert Current above within) in
        inr (at_least_trans p h (lowest p (first p r s) (suc n)) (first p Insert Current) keeps more)

-- An insert is let in below the lowest of few keys.
record IsLetInBelow (p : Protocol) (r : Row) (s : Side) : Type 0 where
  n : ℕ
  within : n ≤ p.count
  lets_in : LetsIn p (lowest p (first p r s) n) Insert Next

below_hole : (p : Protocol) → IsLawful p → (r : Row) (s : Side) (h : ℕ) → IsBelow p r s h → IsOpen p h Insert Next → IsLetInBelow p r s
below_hole p laws r s h b let_in =
    let within = first_within p laws r s in
    let few = enough p laws (first p r s) b.n within in
    record {
      n = few.fewer;
      within = few.within;
      lets_in = subst (λ m. LetsIn p m Insert Next) (sym few.equal) (let_in (lowest p (first p r s) b.n) (lowest_within p laws (first p r s) b.n within) b.at_least);
    }

read_hole : (p : Protocol) → IsLawful p → (h : ℕ) → KeepsGap p GapRead h → IsOpen p h Insert Next → FixedHole p
read_hole p laws h (inl keeps) let_in = let w = below_hole p laws FetchMiss Next h keeps let_in in miss_lets_insert w.n w.within w.lets_in
read_hole p laws h (inr (inl keeps)) let_in = let w = below_hole p laws ScanKey Current h keeps let_in in scan_lets_insert w.n w.within w.lets_in
read_hole p laws h (inr (inr keeps)) let_in = let w = below_hole p laws ScanStop Next h keeps let_in in stop_lets_insert w.n w.within w.lets_in

-- So what such a lock lets in, a first request's lets in, or an insert's.
of_either : (p : Protocol) → IsLawful p → (r : Row) (s : Side) (row : Row) (side : Side) (h : ℕ) → IsAtLeast p h (first p r s) ⊎ IsAtLeast p h (first p Insert Current) → IsOpen p h row side
    → (LetsIn p (first p r s) row side → FixedHole p) → (LetsIn p (first p Insert Current) row side → FixedHole p) → FixedHole p
of_either p laws r s row side h (inl keeps) let_in own inserted = own (let_in (first p r s) (first_within p laws r s) keeps)
of_either p laws r s row side h (inr keeps) let_in own inserted = inserted (let_in (first p Insert Current) (first_within p laws Insert Current) keeps)

-- What is let in for the sake of the gap.
gap_hole : (p : Protocol) → IsLawful p → IsOrdered p → (g : GapUse) (r : Row) (s : Side) (h : ℕ) → KeepsGap p g h → IsOpen p h r s → by_gap g r s ≡ true → FixedHole p
gap_hole p laws ordered GapRead Insert Next h keeps let_in e = read_hole p laws h keeps let_in
gap_hole p laws ordered GapRead Delete Current h (inl keeps) let_in e = of_either p laws FetchMiss Next Delete Current h (first_or_insert p laws ordered FetchMiss Next h keeps) let_in miss_lets_delete (inserted_lets_delete p laws ordered)
gap_hole p laws ordered GapRead Delete Current h (inr (inl keeps)) let_in e = of_either p laws ScanKey Current Delete Current h (first_or_insert p laws ordered ScanKey Current h keeps) let_in scan_lets_delete (inserted_lets_delete p laws ordered)
gap_hole p laws ordered GapRead Delete Current h (inr (inr keeps)) let_in e = of_either p laws ScanStop Next Delete Current h (first_or_insert p laws ordered ScanStop Next h keeps) let_in stop_lets_delete (inserted_lets_delete p laws ordered)
gap_hole p laws ordered GapDeleted Insert Next h keeps let_in e = let w = below_hole p laws Delete Next h keeps let_in in delete_lets_insert w.n w.within w.lets_in
gap_hole p laws ordered GapDeleted FetchMiss Next h keeps let_in e = of_either p laws Delete Next FetchMiss Next h (first_or_insert p laws ordered Delete Next h keeps) let_in delete_lets_miss insert_lets_miss
gap_hole p laws ordered GapDeleted ScanKey Current h keeps let_in e = of_either p laws Delete Next ScanKey Current h (first_or_insert p laws ordered Delete Next h keeps) let_in delete_lets_scan insert_lets_scan
gap_hole p laws ordered GapDeleted ScanStop Next h keeps let_in e = of_either p laws Delete Next ScanStop Next h (first_or_insert p laws ordered Delete Next h keeps) let_in delete_lets_stop insert_lets_stop
gap_hole p laws ordered GapDeleted Delete Current h keeps let_in e = of_either p laws Delete Next Delete Current h (first_or_insert p laws ordered Delete Next h keeps) let_in delete_lets_delete (inserted_lets_delete p laws ordered)
gap_hole p laws ordered GapDeleted Delete Next h keeps let_in e = of_either p laws Delete Next Delete Next h (first_or_insert p laws ordered Delete Next h keeps) let_in delete_lets_delete_below insert_lets_delete_below
gap_hole p laws ordered g r s h keeps let_in e = absurd (cc)

either : (a b : Bool) → (a || b) ≡ true → (a ≡ true) ⊎ (b ≡ true)
either true b e = inl refl
either false b e = inr e

-- A lock that lets in what it has to keep out.
pub hole : (p : Protocol) → IsLawful p → IsOrdered p → (r : Row) (s : Side) (x y n : LockState) → Beside p x y → Beside p n free → MayAsk p r s x n → keeps_out y r s ≡ true → is_blocked p r s x n y ≡ false → FixedHole p
hole p laws ordered r s x y n b reached may out granted = by (either (by_key y.key r s) (by_gap y.gap r s) out)
  where
    of_x : IsHeld p x
    of_x = (beside_held p laws ordered x y b).0

    of_y : IsHeld p y
    of_y = (beside_held p laws ordered x y b).1

    in_given : given r s x n ≤ p.count
    in_given = given_within p r s x n of_x.within (beside_held p laws ordered n free reached).0.within

    let_in : IsOpen p y.mode r s
    let_in m mm less = less_let_in p laws ordered x.mode y.mode m (asked p r s x n) (p.ask r s 0) of_x.within of_y.within mm (asks_mode p laws r s (given r s x n) in_given) (asks_mode p laws r s 0 (omega arith)) (asks_more p laws ordered r s (given r s x n) in_given) less granted

    by : (by_key y.key r s ≡ true) ⊎ (by_gap y.gap r s ≡ true) → FixedHole p
    by (inl e) = key_hole p laws ordered y.key r s y.mode of_y.key (offered p r s x n may) let_in e
    by (inr e) = gap_hole p laws ordered y.gap r s y.mode of_y.gap let_in e

pub fixed_or_safe : (p : Protocol) → IsLawful p → IsOrdered p → (FixedHole p → ⊥) → IsSafe p
fixed_or_safe p laws ordered none r s x y n b reached may out = by (is_blocked p r s x n y) (λ e. hole p laws ordered r s x y n b reached may out e)
  where
    by : (blocked : Bool) → (blocked ≡ false → FixedHole p) → blocked ≡ true
    by true holed = refl
    by false holed = absurd (none (holed refl))
