-- Under an ordered protocol a lock state that protects something has at least the mode of the least request that protects it.
use Rattle.std.proofs.Common.{◌≡◌, ℕ, zero, suc, ◌≤◌, ◌⊎◌, inl, inr, refl, arith, true}
use Rattle.kr_model.specs.declared.Row.{Row}
use Rattle.kr_model.specs.declared.Row.TheVariants.{FetchHit, FetchMiss, ScanKey, ScanStop, Insert, Delete, Update}
use Rattle.kr_model.specs.declared.Side.{Side}
use Rattle.kr_model.specs.declared.Side.TheVariants.{Current, Next}
use Rattle.kr_model.specs.declared.KeyUse.{KeyUse}
use Rattle.kr_model.specs.declared.KeyUse.TheVariants.{Free as KeyFree, Read as KeyRead, Updated as KeyUpdated, Inserted as KeyInserted}
use Rattle.kr_model.specs.declared.GapUse.{GapUse}
use Rattle.kr_model.specs.declared.GapUse.TheVariants.{Free as GapFree, Read as GapRead, Deleted as GapDeleted}
use Rattle.kr_model.specs.declared.LockState.{LockState}
use Rattle.kr_model.specs.Protocol.{Protocol, IsLawful}
use Rattle.kr_model.specs.Covers.{mode_after}
use Rattle.kr_model.specs.Safe.{free, and_read, and_updated, and_gap, key_after, gap_after, given, asked, after, MayAsk, Beside, start, turn, leave, move}
use Rattle.kr_theorem.specs.Ordered.{IsAtLeast, AsksAtLeast, IsOrdered}
use Rattle.kr_theorem.specs.Fixed.{first, lowest}
use Rattle.kr_theorem.proofs.Order.{IsForMode, at_least_trans, at_least_none, after_within, after_rises, after_more}

-- Mode m is at least that on the lowest of some keys that one has inserted who had made one request on the name above them.
pub record IsBelow (p : Protocol) (r : Row) (s : Side) (m : ℕ) : Type 0 where
  pub n : ℕ
  pub at_least : IsAtLeast p m (lowest p (first p r s) n)

-- Mode m is at least that of the least request that does this with the key.
abbrev pub KeepsKey : Protocol → KeyUse → ℕ → Type 0
KeepsKey p KeyFree m = Unit {0}
KeepsKey p KeyRead m = IsAtLeast p m (first p FetchHit Current) ⊎ IsAtLeast p m (first p ScanKey Current)
KeepsKey p KeyUpdated m = (p.updates ≡ true) × IsAtLeast p m (first p Update Current)
KeepsKey p KeyInserted m = IsAtLeast p m (first p Insert Current)

-- The same of what is done in the gap.
abbrev pub KeepsGap : Protocol → GapUse → ℕ → Type 0
KeepsGap p GapFree m = Unit {0}
KeepsGap p GapRead m = IsBelow p FetchMiss Next m ⊎ (IsBelow p ScanKey Current m ⊎ IsBelow p ScanStop Next m)
KeepsGap p GapDeleted m = IsBelow p Delete Next m

-- A lock state has at least the modes that its uses need.
pub record IsHeld (p : Protocol) (x : LockState) : Type 0 where
  pub within : x.mode ≤ p.count
  pub key : KeepsKey p x.key x.mode
  pub gap : KeepsGap p x.gap x.mode

-- What is known of the mode after a request: it is at least the one before, and the one after the request of one who had nothing.
record IsMade (p : Protocol) (r : Row) (s : Side) (o m : ℕ) : Type 0 where
  rises : IsAtLeast p m o
  gains : IsAtLeast p m (first p r s)

pub asks_mode : (p : Protocol) → IsLawful p → (r : Row) (s : Side) (own : ℕ) → own ≤ p.count → IsForMode p (p.ask r s own)
asks_mode p laws r s own le q span e = laws.ask-mode r s own q span le e

pub first_within : (p : Protocol) → IsLawful p → (r : Row) (s : Side) → first p r s ≤ p.count
first_within p laws r s = after_within p laws 0 (p.ask r s 0) (asks_mode p laws r s 0 (omega arith)) (omega arith)

pub lowest_within : (p : Protocol) → IsLawful p → (m n : ℕ) → m ≤ p.count → lowest p m n ≤ p.count
lowest_within p laws m zero le = le
lowest_within p laws m (suc n) le = after_within p laws 0 (p.ask Insert Current (lowest p m n)) (asks_mode p laws Insert Current (lowest p m n) (lowest_within p laws m n le)) (omega arith)

pub given_within : (p : Protocol) (r : Row) (s : Side) (x n : LockState) → x.mode ≤ p.count → n.mode ≤ p.count → given r s x n ≤ p.count
given_within p FetchHit s x n xx nn = omega arith
given_within p FetchMiss s x n xx nn = omega arith
given_within p ScanKey s x n xx nn = omega arith
given_within p ScanStop s x n xx nn = omega arith
given_within p Insert Current x n xx nn = nn
given_within p Insert Next x n xx nn = xx
given_within p Delete Current x n xx nn = nn
given_within p Delete Next x n xx nn = xx
given_within p Update s x n xx nn = omega arith

-- Whoever requests, requests at least what one does who has nothing on the next name.
pub asks_more : (p : Protocol) → IsLawful p → IsOrdered p → (r : Row) (s : Side) (own : ℕ) → own ≤ p.count → AsksAtLeast p (p.ask r s own) (p.ask r s 0)
asks_more p laws ordered r s own le = ordered.ask r s 0 own (omega arith) le (at_least_none p laws own)

below_rises : (p : Protocol) (r : Row) (s : Side) (o m : ℕ) → IsAtLeast p m o → IsBelow p r s o → IsBelow p r s m
below_rises p r s o m rises b = record { n = b.n; at_least = at_least_trans p m o (lowest p (first p r s) b.n) rises b.at_least }

below_first : (p : Protocol) (r : Row) (s : Side) (m : ℕ) → IsAtLeast p m (first p r s) → IsBelow p r s m
below_first p r s m gains = record { n = 0; at_least = gains }

-- Where the mode on the next name is so, that on the inserted key is.
below_split : (p : Protocol) → IsLawful p → IsOrdered p → (r : Row) (s : Side) (o above : ℕ) → o ≤ p.count → above ≤ p.count → IsBelow p r s above → IsBelow p r s (mode_after p o (p.ask Insert Current above))
below_split p laws ordered r s o above le within b =
    let last = lowest_within p laws (first p r s) b.n (first_within p laws r s) in
    record {
      n = suc b.n;
      at_least = after_more p laws ordered o (p.ask Insert Current above) (p.ask Insert Current (lowest p (first p r s) b.n)) le (asks_mode p laws Insert Current above within) (asks_mode p laws Insert Current (lowest p (first p r s) b.n) last)
          (ordered.ask Insert Current (lowest p (first p r s) b.n) above last within b.at_least);
    }

key_rises : (p : Protocol) (k : KeyUse) (o m : ℕ) → IsAtLeast p m o → KeepsKey p k o → KeepsKey p k m
key_rises p KeyFree o m rises keeps = tt
key_rises p KeyRead o m rises (inl keeps) = inl (at_least_trans p m o (first p FetchHit Current) rises keeps)
key_rises p KeyRead o m rises (inr keeps) = inr (at_least_trans p m o (first p ScanKey Current) rises keeps)
key_rises p KeyUpdated o m rises keeps = (keeps.0, at_least_trans p m o (first p Update Current) rises keeps.1)
key_rises p KeyInserted o m rises keeps = at_least_trans p m o (first p Insert Current) rises keeps

gap_rises : (p : Protocol) (g : GapUse) (o m : ℕ) → IsAtLeast p m o → KeepsGap p g o → KeepsGap p g m
gap_rises p GapFree o m rises keeps = tt
gap_rises p GapRead o m rises (inl keeps) = inl (below_rises p FetchMiss Next o m rises keeps)
gap_rises p GapRead o m rises (inr (inl keeps)) = inr (inl (below_rises p ScanKey Current o m rises keeps))
gap_rises p GapRead o m rises (inr (inr keeps)) = inr (inr (below_rises p ScanStop Next o m rises keeps))
gap_rises p GapDeleted o m rises keeps = below_rises p Delete Next o m rises keeps

gap_split : (p : Protocol) → IsLawful p → IsOrdered p → (g : GapUse) (o above : ℕ) → o ≤ p.count → above ≤ p.count → KeepsGap p g above → KeepsGap p g (mode_after p o (p.ask Insert Current above))
gap_split p laws ordered GapFree o above le within keeps = tt
gap_split p laws ordered GapRead o above le within (inl keeps) = inl (below_split p laws ordered FetchMiss Next o above le within keeps)
gap_split p laws ordered GapRead o above le within (inr (inl keeps)) = inr (inl (below_split p laws ordered ScanKey Current o above le within keeps))
gap_split p laws ordered GapRead o above le within (inr (inr keeps)) = inr (inr (below_split p laws ordered ScanStop Next o above le within keeps))
gap_split p laws ordered GapDeleted o above le within keeps = below_split p laws ordered Delete Next o above le within keeps

-- What is done in one gap or in the other is kept where each is.
gap_either : (p : Protocol) (g h : GapUse) (m : ℕ) → KeepsGap p g m → KeepsGap p h m → KeepsGap p (and_gap g h) m
gap_either p GapFree h m of_g of_h = of_h
gap_either p GapRead GapFree m of_g of_h = of_g
gap_either p GapRead GapRead m of_g of_h = of_g
gap_either p GapRead GapDeleted m of_g of_h = of_h
gap_either p GapDeleted h m of_g of_h = of_g

key_read : (p : Protocol) (k : KeyUse) (m : ℕ) → KeepsKey p k m → KeepsKey p KeyRead m → KeepsKey p (and_read k) m
key_read p KeyFree m old new = new
key_read p KeyRead m old new = old
key_read p KeyUpdated m old new = old
key_read p KeyInserted m old new = old

key_updated : (p : Protocol) (k : KeyUse) (m : ℕ) → KeepsKey p k m → KeepsKey p KeyUpdated m → KeepsKey p (and_updated k) m
key_updated p KeyFree m old new = new
key_updated p KeyRead m old new = new
key_updated p KeyUpdated m old new = new
key_updated p KeyInserted m old new = old

key_made : (p : Protocol) (r : Row) (s : Side) (k : KeyUse) (o m : ℕ) → IsMade p r s o m → KeepsKey p k o → (r ≡ Update → p.updates ≡ true) → KeepsKey p (key_after r s k) m
key_made p FetchHit Current k o m made keeps offered = key_read p k m (key_rises p k o m made.rises keeps) (inl made.gains)
key_made p FetchHit Next k o m made keeps offered = key_rises p k o m made.rises keeps
key_made p FetchMiss s k o m made keeps offered = key_rises p k o m made.rises keeps
key_made p ScanKey Current k o m made keeps offered = key_read p k m (key_rises p k o m made.rises keeps) (inr made.gains)
key_made p ScanKey Next k o m made keeps offered = key_rises p k o m made.rises keeps
key_made p ScanStop s k o m made keeps offered = key_rises p k o m made.rises keeps
key_made p Insert Current k o m made keeps offered = made.gains
key_made p Insert Next k o m made keeps offered = key_rises p k o m made.rises keeps
key_made p Delete s k o m made keeps offered = key_rises p k o m made.rises keeps
key_made p Update Current k o m made keeps offered = key_updated p k m (key_rises p k o m made.rises keeps) (offered refl, made.gains)
key_made p Update Next k o m made keeps offered = key_rises p k o m made.rises keeps

-- Of the gap, where `split` is of the gap that an insert splits.
gap_made : (p : Protocol) (r : Row) (s : Side) (g h : GapUse) (o m : ℕ) → IsMade p r s o m → KeepsGap p g o → (r ≡ Insert → s ≡ Current → KeepsGap p h m) → KeepsGap p (gap_after r s g h) m
gap_made p FetchHit s g h o m made keeps split = gap_rises p g o m made.rises keeps
gap_made p FetchMiss Current g h o m made keeps split = gap_rises p g o m made.rises keeps
gap_made p FetchMiss Next g h o m made keeps split = gap_either p g GapRead m (gap_rises p g o m made.rises keeps) (inl (below_first p FetchMiss Next m made.gains))
gap_made p ScanKey Current g h o m made keeps split = gap_either p g GapRead m (gap_rises p g o m made.rises keeps) (inr (inl (below_first p ScanKey Current m made.gains)))
gap_made p ScanKey Next g h o m made keeps split = gap_rises p g o m made.rises keeps
gap_made p ScanStop Current g h o m made keeps split = gap_rises p g o m made.rises keeps
gap_made p ScanStop Next g h o m made keeps split = gap_either p g GapRead m (gap_rises p g o m made.rises keeps) (inr (inr (below_first p ScanStop Next m made.gains)))
gap_made p Insert Current g h o m made keeps split = gap_either p g h m (gap_rises p g o m made.rises keeps) (split refl refl)
gap_made p Insert Next g h o m made keeps split = gap_rises p g o m made.rises keeps
gap_made p Delete Current g h o m made keeps split = gap_rises p g o m made.rises keeps
gap_made p Delete Next g h o m made keeps split = below_first p Delete Next m made.gains
gap_made p Update s g h o m made keeps split = gap_rises p g o m made.rises keeps

-- Who requests an update is offered updates.
pub offered : (p : Protocol) (r : Row) (s : Side) (x n : LockState) → MayAsk p r s x n → r ≡ Update → p.updates ≡ true
offered p FetchHit s x n may e = absurd (cc)
offered p FetchMiss s x n may e = absurd (cc)
offered p ScanKey s x n may e = absurd (cc)
offered p ScanStop s x n may e = absurd (cc)
offered p Insert s x n may e = absurd (cc)
offered p Delete s x n may e = absurd (cc)
offered p Update Current x n may e = may.1
offered p Update Next x n may e = absurd may

-- So it is after each request.
after_held : (p : Protocol) → IsLawful p → IsOrdered p → (r : Row) (s : Side) (x n : LockState) → IsHeld p x → IsHeld p n → MayAsk p r s x n → IsHeld p (after p r s x n)
after_held p laws ordered r s x n of_x of_n may = record {
  within = after_within p laws x.mode (asked p r s x n) is_mode of_x.within;
  key = key_made p r s x.key x.mode (mode_after p x.mode (asked p r s x n)) made of_x.key (offered p r s x n may);
  gap = gap_made p r s x.gap n.gap x.mode (mode_after p x.mode (asked p r s x n)) made of_x.gap (split r s);
}
  where
    in_given : given r s x n ≤ p.count
    in_given = given_within p r s x n of_x.within of_n.within

    is_mode : IsForMode p (asked p r s x n)
    is_mode = asks_mode p laws r s (given r s x n) in_given

    made : IsMade p r s x.mode (mode_after p x.mode (asked p r s x n))
    made = record {
      rises = after_rises p ordered x.mode (asked p r s x n) is_mode of_x.within;
      gains = after_more p laws ordered x.mode (asked p r s x n) (p.ask r s 0) of_x.within is_mode (asks_mode p laws r s 0 (omega arith)) (asks_more p laws ordered r s (given r s x n) in_given);
    }

    split : (row : Row) (side : Side) → row ≡ Insert → side ≡ Current → KeepsGap p n.gap (mode_after p x.mode (asked p row side x n))
    split Insert Current of_row of_side = gap_split p laws ordered n.gap x.mode n.mode of_x.within of_n.within of_n.gap
    split Insert Next of_row of_side = absurd (cc)
    split FetchHit side of_row of_side = absurd (cc)
    split FetchMiss side of_row of_side = absurd (cc)
    split ScanKey side of_row of_side = absurd (cc)
    split ScanStop side of_row of_side = absurd (cc)
    split Delete side of_row of_side = absurd (cc)
    split Update side of_row of_side = absurd (cc)

free_held : (p : Protocol) → IsHeld p free
free_held p = record { within = omega arith; key = tt; gap = tt }

-- All lock states that two transactions can have on one name are so.
pub beside_held : (p : Protocol) → IsLawful p → IsOrdered p → (x y : LockState) → Beside p x y → IsHeld p x × IsHeld p y
beside_held p laws ordered _ _ start = (free_held p, free_held p)
beside_held p laws ordered _ _ (turn x y b) = let z = beside_held p laws ordered x y b in (z.1, z.0)
beside_held p laws ordered _ _ (leave x y b) = let z = beside_held p laws ordered x y b in (free_held p, z.1)
beside_held p laws ordered _ _ (move r s x y n b reached may beside passes) =
    let z = beside_held p laws ordered x y b in
    let v = beside_held p laws ordered n free reached in
    (after_held p laws ordered r s x n z.0 v.0 may, z.1)
