-- Once all pairs have been followed, the list has exactly the pairs that two transactions can have.
use Rattle.std.proofs.Common.{ℕ, zero, suc, Bool, true, false, ◌≡◌, ◌<◌, ◌∙◌, ◌||◌, List, length, ap, refl, sym, subst, arith}
use Rattle.kr_model.specs.declared.Row.{Row}
use Rattle.kr_model.specs.declared.Row.TheVariants as row
use Rattle.kr_model.specs.declared.Side.{Side}
use Rattle.kr_model.specs.declared.Side.TheVariants.{Current, Next}
use Rattle.kr_model.specs.declared.KeyUse.{KeyUse}
use Rattle.kr_model.specs.declared.KeyUse.TheVariants as key
use Rattle.kr_model.specs.declared.GapUse.{GapUse}
use Rattle.kr_model.specs.declared.GapUse.TheVariants as gap
use Rattle.kr_model.specs.declared.LockState.{LockState}
use Rattle.kr_model.specs.Protocol.{Protocol}
use Rattle.kr_model.specs.Safe.{free, by_key, by_gap, after, asked, MayAsk, is_blocked, Beside, start, turn, leave, move}
use Rattle.kr_decide.specs.declared.pair.Pair.{Pair}
use Rattle.kr_decide.specs.declared.pair.Way.{Way}
use Rattle.kr_decide.specs.declared.pair.Way.TheVariants as way
use Rattle.kr_decide.specs.declared.finding.Above.{Above}
use Rattle.kr_decide.specs.declared.finding.Found.{Found}
use Rattle.kr_decide.specs.Pairs.{pair_at, IsWay, AreDerived, LetsIn}
use Rattle.kr_decide.specs.Findings.{Has, MovesTo, goes_by_next, above_at, IsAlike, HasNext, IsFollowed, IsGoing, IsAbove}
use Rattle.kr_decide.specs.Opens.{LetsNoneIn, LetsNoDeleteIn, OpensAt}

-- What is in the list comes about --

beside_way : (p : Protocol) (pairs : List Pair) (k : ℕ) (x y : LockState) (w : Way) → ((i : ℕ) → i < k → Beside p (pair_at pairs i).own (pair_at pairs i).other) → IsWay p pairs k x y w → Beside p x y
beside_way p pairs k x y way.Start before h = subst (λ (a : LockState). Beside p a y) (sym h.0) (subst (λ (b : LockState). Beside p free b) (sym h.1) start)
beside_way p pairs k x y (way.Turned i) before h = subst (λ (a : LockState). Beside p a y) (sym h.1) (subst (λ (b : LockState). Beside p (pair_at pairs i).other b) (sym h.2) (turn _ _ (before i h.0)))
beside_way p pairs k x y (way.Left i) before h = subst (λ (a : LockState). Beside p a y) (sym h.1) (subst (λ (b : LockState). Beside p free b) (sym h.2) (leave _ _ (before i h.0)))
beside_way p pairs k x y (way.Moved i r s j) before h =
    let m = h.2 in
    let alone : Beside p (pair_at pairs j).own free = subst (λ (b : LockState). Beside p (pair_at pairs j).own b) m.alone (before j h.1) in
    subst (λ (a : LockState). Beside p a y) (sym m.own)
    (subst (λ (b : LockState). Beside p (after p r s (pair_at pairs i).own (pair_at pairs j).own) b) (sym m.other)
    (move r s (pair_at pairs i).own (pair_at pairs i).other (pair_at pairs j).own (before i h.0) alone m.asks m.beside m.granted))

beside_below : (p : Protocol) (pairs : List Pair) → AreDerived p pairs → (n k : ℕ) → k < n → k < length pairs → Beside p (pair_at pairs k).own (pair_at pairs k).other
beside_below p pairs derived zero k below within = absurd (omega arith)
beside_below p pairs derived (suc n) k below within =
    beside_way p pairs k _ _ _ (λ i h. beside_below p pairs derived n i (omega arith) (omega arith)) (derived k within)

-- Two transactions can have each pair of such a list.
pub beside_at : (p : Protocol) (pairs : List Pair) (k : ℕ) → AreDerived p pairs → k < length pairs → Beside p (pair_at pairs k).own (pair_at pairs k).other
beside_at p pairs k derived within = beside_below p pairs derived (suc k) k (omega arith) within

-- What stands above is what one transaction can have alone.
pub above_alone : (p : Protocol) (pairs : List Pair) (a : Above) → AreDerived p pairs → IsAbove pairs a → Beside p a.state free
above_alone p pairs a derived i =
    subst (λ (x : LockState). Beside p x free) i.state (subst (λ (y : LockState). Beside p (pair_at pairs a.place).own y) i.alone (beside_at p pairs a.place derived i.within))

-- Requests and the next name --

-- A request that doesn't go by the next name is the same whatever is there.
pub record Plainly (p : Protocol) (r : Row) (s : Side) (x y n : LockState) : Type 0 where
  pub asks : MayAsk p r s x n → MayAsk p r s x free
  pub asked : asked p r s x n ≡ asked p r s x free
  pub blocked : is_blocked p r s x n y ≡ is_blocked p r s x free y
  pub comes : after p r s x n ≡ after p r s x free

pub plainly : (p : Protocol) (r : Row) (s : Side) (x y n : LockState) → goes_by_next r s ≡ false → Plainly p r s x y n
plainly p row.FetchHit Current x y n e = record { asks = λ a. a; asked = refl; blocked = refl; comes = refl }
plainly p row.FetchHit Next x y n e = record { asks = λ a. a; asked = refl; blocked = refl; comes = refl }
plainly p row.FetchMiss Current x y n e = record { asks = λ a. a; asked = refl; blocked = refl; comes = refl }
plainly p row.FetchMiss Next x y n e = record { asks = λ a. a; asked = refl; blocked = refl; comes = refl }
plainly p row.ScanKey Current x y n e = record { asks = λ a. a; asked = refl; blocked = refl; comes = refl }
plainly p row.ScanKey Next x y n e = record { asks = λ a. a; asked = refl; blocked = refl; comes = refl }
plainly p row.ScanStop Current x y n e = record { asks = λ a. a; asked = refl; blocked = refl; comes = refl }
plainly p row.ScanStop Next x y n e = record { asks = λ a. a; asked = refl; blocked = refl; comes = refl }
plainly p row.Insert Current x y n e = cc
plainly p row.Insert Next x y n e = record { asks = λ a. a; asked = refl; blocked = refl; comes = refl }
plainly p row.Delete Current x y n e = cc
plainly p row.Delete Next x y n e = record { asks = λ a. a; asked = refl; blocked = refl; comes = refl }
plainly p row.Update Current x y n e = record { asks = λ a. a; asked = refl; blocked = refl; comes = refl }
plainly p row.Update Next x y n e = record { asks = λ a. a; asked = refl; blocked = refl; comes = refl }

-- A lock state on the next name, but for what was done with the key there.
abbrev pub parts : ℕ → GapUse → Bool → LockState
parts m g d = record { mode = m; key = key.Free; gap = g; deleted = d }

pub same_parts : (a n : LockState) → IsAlike a n → parts a.mode a.gap a.deleted ≡ parts n.mode n.gap n.deleted
same_parts a n h = ap (λ m. parts m a.gap a.deleted) h.0 ∙ ap (λ g. parts n.mode g a.deleted) h.1 ∙ ap (λ d. parts n.mode n.gap d) h.2

-- The two requests that go by the next name are the same above a lock state like it.
by_alike : (p : Protocol) (pairs : List Pair) (r : Row) (s : Side) (x y a n : LockState) → goes_by_next r s ≡ true → IsAlike a n → MovesTo p pairs x y a r s → MovesTo p pairs x y n r s
by_alike p pairs row.Insert Current x y a n e h m = subst (λ (z : LockState). MovesTo p pairs x y z row.Insert Current) (same_parts a n h) m
by_alike p pairs row.Delete Current x y a n e h m = subst (λ (z : LockState). MovesTo p pairs x y z row.Delete Current) (same_parts a n h) m
by_alike p pairs row.Insert Next x y a n e h m = cc
by_alike p pairs row.Delete Next x y a n e h m = cc
by_alike p pairs row.FetchHit s x y a n e h m = cc
by_alike p pairs row.FetchMiss s x y a n e h m = cc
by_alike p pairs row.ScanKey s x y a n e h m = cc
by_alike p pairs row.ScanStop s x y a n e h m = cc
by_alike p pairs row.Update s x y a n e h m = cc

-- It may come to request only above a name that it hasn't deleted.
pub not_deleted : (p : Protocol) (r : Row) (s : Side) (x n : LockState) → goes_by_next r s ≡ true → MayAsk p r s x n → n.deleted ≡ false
not_deleted p row.Insert Current x n e may = may.0
not_deleted p row.Delete Current x n e may = may.1
not_deleted p row.Insert Next x n e may = cc
not_deleted p row.Delete Next x n e may = cc
not_deleted p row.FetchHit s x n e may = cc
not_deleted p row.FetchMiss s x n e may = cc
not_deleted p row.ScanKey s x n e may = cc
not_deleted p row.ScanStop s x n e may = cc
not_deleted p row.Update s x n e may = cc

-- What comes about is in the list --

module _ (p : Protocol) (f : Found) (going : IsGoing p f (length f.pairs.items)) where
  followed_at : (x y : LockState) → Has f.pairs.items x y → IsFollowed p f.pairs.items f.nexts.items x y
  followed_at x y h =
      subst (λ (z : LockState). IsFollowed p f.pairs.items f.nexts.items z y) h.own
      (subst (λ (z : LockState). IsFollowed p f.pairs.items f.nexts.items (pair_at f.pairs.items h.place).own z) h.other (going.followed h.place h.within))

  pub next_of : (n : LockState) → Has f.pairs.items n free → n.deleted ≡ false → HasNext f.nexts.items n
  next_of n h d = let o = followed_at n free h in o.next refl d

  moved : (r : Row) (s : Side) (x y n : LockState) (b : Bool) → goes_by_next r s ≡ b → Has f.pairs.items x y → Has f.pairs.items n free → MovesTo p f.pairs.items x y n r s
  moved r s x y n true e here alone asks beside granted =
      let o = followed_at x y here in
      let all = o.all in
      let k = next_of n alone (not_deleted p r s x n e asks) in
      by_alike p f.pairs.items r s x y (above_at f.nexts.items k.place).state n e k.alike (all.by_next k.place k.within r s e) asks beside granted
  moved r s x y n false e here alone asks beside granted =
      let o = followed_at x y here in
      let all = o.all in
      let q = plainly p r s x y n e in
      subst (λ (z : LockState). Has f.pairs.items z y) (sym q.comes) (all.plain r s e (q.asks asks) beside (sym q.blocked ∙ granted))

  -- Each pair that two transactions can have is in the list.
  pub listed : (x y : LockState) → Beside p x y → Has f.pairs.items x y
  listed _ _ start = record { place = 0; within = let a = going.first in a.some; own = let a = going.first in a.own; other = let a = going.first in a.other }
  listed _ _ (turn x y b) = let o = followed_at x y (listed x y b) in let all = o.all in all.turned
  listed _ _ (leave x y b) = let o = followed_at x y (listed x y b) in let all = o.all in all.ended
  listed _ _ (move r s x y n b alone asks beside granted) = moved r s x y n (goes_by_next r s) refl (listed x y b) (listed n free alone) asks beside granted

  -- Where nothing is let in
  no_insert : (k : KeyUse) (g : GapUse) → (by_key k row.Insert Current || by_gap g row.Insert Current) ≡ false
  no_insert key.Free gap.Free = refl
  no_insert key.Free gap.Read = refl
  no_insert key.Free gap.Deleted = refl
  no_insert key.Read gap.Free = refl
  no_insert key.Read gap.Read = refl
  no_insert key.Read gap.Deleted = refl
  no_insert key.Updated gap.Free = refl
  no_insert key.Updated gap.Read = refl
  no_insert key.Updated gap.Deleted = refl
  no_insert key.Inserted gap.Free = refl
  no_insert key.Inserted gap.Read = refl
  no_insert key.Inserted gap.Deleted = refl

  plain_in : (r : Row) (s : Side) (x y n : LockState) → goes_by_next r s ≡ false → LetsIn p r s x y n → LetsIn p r s x y free
  plain_in r s x y n e l = let q = plainly p r s x y n e in record { asks = q.asks l.asks; kept_out = l.kept_out; granted = sym q.blocked ∙ l.granted }

  delete_in : (x y n a : LockState) → IsAlike a n → LetsIn p row.Delete Current x y n → LetsIn p row.Delete Current x y a
  delete_in x y n a h l = record {
    asks = subst (λ (z : LockState). MayAsk p row.Delete Current x z) (sym (same_parts a n h)) l.asks;
    kept_out = l.kept_out;
    granted = subst (λ (z : LockState). is_blocked p row.Delete Current x z y ≡ false) (sym (same_parts a n h)) l.granted;
  }

  -- y lets nothing in that it has to keep out.
  pub no_opening : (x y : LockState) → LetsNoneIn p x y → LetsNoDeleteIn p f.nexts.items (length f.nexts.items) x y → OpensAt p x y → ⊥
  no_opening x y plain deletes o = by_row o.row o.side o.lets_in
    where
      by_row : (r : Row) (s : Side) → LetsIn p r s x y o.next → ⊥
      by_row row.Insert Current l = let a = no_insert y.key y.gap in let b = l.kept_out in cc
      by_row row.Delete Current l =
          let asks = l.asks in
          let k = next_of o.next (listed o.next free o.alone) asks.1 in
          deletes k.place k.within (delete_in x y o.next (above_at f.nexts.items k.place).state k.alike l)
      by_row row.Insert Next l = plain row.Insert Next refl (plain_in row.Insert Next x y o.next refl l)
      by_row row.Delete Next l = plain row.Delete Next refl (plain_in row.Delete Next x y o.next refl l)
      by_row row.FetchHit s l = plain row.FetchHit s refl (plain_in row.FetchHit s x y o.next refl l)
      by_row row.FetchMiss s l = plain row.FetchMiss s refl (plain_in row.FetchMiss s x y o.next refl l)
      by_row row.ScanKey s l = plain row.ScanKey s refl (plain_in row.ScanKey s x y o.next refl l)
      by_row row.ScanStop s l = plain row.ScanStop s refl (plain_in row.ScanStop s x y o.next refl l)
      by_row row.Update s l = plain row.Update s refl (plain_in row.Update s x y o.next refl l)
