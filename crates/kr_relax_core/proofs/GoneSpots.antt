-- What schedules bring together where a deleted key goes at once, place by place.
use Rattle.std.proofs.Common.{ℕ, ◌≡◌, ◌≤◌, ◌<◌, ◌+◌, ◌⊎◌, inl, inr, List, length, get_or, sym, subst, arith}
use Rattle.std.specs.Prelude.{Contains}
use Rattle.kr_model.specs.declared.Row.{Row}
use Rattle.kr_model.specs.declared.Row.TheVariants.{FetchHit, FetchMiss, ScanKey, ScanStop, Insert, Delete, Update}
use Rattle.kr_model.specs.declared.Side.{Side}
use Rattle.kr_model.specs.declared.Side.TheVariants.{Current, Next}
use Rattle.kr_model.specs.declared.LockState.{LockState}
use Rattle.kr_model.specs.Protocol.{Protocol}
use Rattle.kr_model.specs.Safe.{free, MayAsk, MayBeside}
use Rattle.kr_decide.specs.declared.pair.Pair.{Pair}
use Rattle.kr_decide.specs.Pairs.{pair_at}
use Rattle.kr_decide.specs.Findings.{Has}
use Rattle.kr_decide.specs.Every.{AreAllPairs}
use Rattle.kr_kinds.specs.Kinds.{Gone}
use Rattle.kr_relax_core.specs.declared.place.Place.{Place}
use Rattle.kr_relax_core.specs.declared.place.Place.TheVariants as place
use Rattle.kr_relax_core.specs.declared.place.Spot.{Spot}
use Rattle.kr_relax_core.specs.declared.finder.Finder.{Finder}
use Rattle.kr_relax_core.specs.Met.{IsMet, IsMetBy, next_mode, spot}
use Rattle.kr_relax_core.specs.Finding.{all_places, IsFinding, Keeps, FindsAt, FindsNexts, FindsPairs, FindsPlaces}

below_or_last : (k n : ℕ) → k < n + 1 → (k < n) ⊎ (k ≡ n)
below_or_last k n h = grind arith

-- What was found still is, with one more lock state on the next name,
pub nexts_step : (p : Protocol) (a b : List Spot) (r : Row) (s : Side) (pairs : List Pair) (n : ℕ) (x y : LockState) → Keeps a b
    → FindsNexts p a r s pairs n x y → ((pair_at pairs n).other ≡ free → FindsAt p b r s x y (pair_at pairs n).own) → FindsNexts p b r s pairs (n + 1) x y
nexts_step p a b r s pairs n x y kept old new j below alone = split (below_or_last j n below)
  where
    split : (j < n) ⊎ (j ≡ n) → FindsAt p b r s x y (pair_at pairs j).own
    split (inl h) = λ asks beside. kept _ (old j h alone asks beside)
    split (inr e) = subst (λ (i : ℕ). FindsAt p b r s x y (pair_at pairs i).own) (sym e) (new (subst (λ (i : ℕ). (pair_at pairs i).other ≡ free) e alone))

-- one more pair,
pub pairs_step : (p : Protocol) (a b : List Spot) (r : Row) (s : Side) (pairs : List Pair) (n : ℕ) → Keeps a b
    → FindsPairs p a r s pairs n → FindsNexts p b r s pairs (length pairs) (pair_at pairs n).own (pair_at pairs n).other → FindsPairs p b r s pairs (n + 1)
pairs_step p a b r s pairs n kept old new i below = split (below_or_last i n below)
  where
    split : (i < n) ⊎ (i ≡ n) → FindsNexts p b r s pairs (length pairs) (pair_at pairs i).own (pair_at pairs i).other
    split (inl h) = λ j low alone asks beside. kept _ (old i h j low alone asks beside)
    split (inr e) = subst (λ (k : ℕ). FindsNexts p b r s pairs (length pairs) (pair_at pairs k).own (pair_at pairs k).other) (sym e) new

-- and one more place.
pub places_step : (p : Protocol) (a b : List Spot) (pairs : List Pair) (n : ℕ) → Keeps a b
    → FindsPlaces p a pairs n → FindsPairs p b (get_or all_places n (FetchHit, Current)).0 (get_or all_places n (FetchHit, Current)).1 pairs (length pairs) → FindsPlaces p b pairs (n + 1)
places_step p a b pairs n kept old new m below = split (below_or_last m n below)
  where
    split : (m < n) ⊎ (m ≡ n) → FindsPairs p b (get_or all_places m (FetchHit, Current)).0 (get_or all_places m (FetchHit, Current)).1 pairs (length pairs)
    split (inl h) = λ i small j low alone asks beside. kept _ (old m h i small j low alone asks beside)
    split (inr e) = subst (λ (k : ℕ). FindsPairs p b (get_or all_places k (FetchHit, Current)).0 (get_or all_places k (FetchHit, Current)).1 pairs (length pairs)) (sym e) new

-- Once all places have been followed, the list has all.
pub all_met : (p : Protocol) (pairs : List Pair) (f : Finder) → AreAllPairs p pairs → IsFinding (Gone p) f → FindsPlaces p f.spots.items pairs 9 → IsMetBy (Gone p) f.spots.items
all_met p pairs f every finding places = record { sound = finding.sound; listed = listed; own = finding.own; next = finding.next; held = finding.held }
  where
    spots : List Spot
    spots = f.spots.items

    at : (r : Row) (s : Side) (x n : LockState) → MayAsk p r s x n → FindsPairs p spots r s pairs (length pairs)
    at FetchHit Current x n asks = places 0 (omega arith)
    at FetchMiss Next x n asks = places 1 (omega arith)
    at ScanKey Current x n asks = places 2 (omega arith)
    at ScanStop Next x n asks = places 3 (omega arith)
    at Insert Current x n asks = places 4 (omega arith)
    at Insert Next x n asks = places 5 (omega arith)
    at Delete Current x n asks = places 6 (omega arith)
    at Delete Next x n asks = places 7 (omega arith)
    at Update Current x n asks = places 8 (omega arith)
    at FetchHit Next x n asks = absurd asks
    at FetchMiss Current x n asks = absurd asks
    at ScanKey Next x n asks = absurd asks
    at ScanStop Current x n asks = absurd asks
    at Update Next x n asks = absurd asks

    found : (r : Row) (s : Side) (x y n : LockState) → Has pairs x y → Has pairs n free → MayAsk p r s x n → MayBeside p r s y → Contains spots (spot (place.Row r s) x.mode (next_mode r s n) y.mode)
    found r s x y n here above asks beside =
        subst (λ (z : LockState). FindsAt p spots r s z y n) here.own
        (subst (λ (z : LockState). FindsAt p spots r s (pair_at pairs here.place).own z n) here.other
        (subst (λ (z : LockState). FindsAt p spots r s (pair_at pairs here.place).own (pair_at pairs here.place).other z) above.own
        (at r s x n asks here.place here.within above.place above.within above.other)))
        asks beside

    listed : (x : Place) (own next held : ℕ) → IsMet (Gone p) x own next held → Contains spots (spot x own next held)
    listed (place.Row r s) own next held m =
        subst (λ (k : ℕ). Contains spots (spot (place.Row r s) k next held)) m.own_mode
        (subst (λ (k : ℕ). Contains spots (spot (place.Row r s) m.first.mode k held)) m.above_mode
        (subst (λ (k : ℕ). Contains spots (spot (place.Row r s) m.first.mode (next_mode r s m.above) k)) m.held_mode
        (found r s m.first m.second m.above (every.listed m.first m.second m.beside) (every.listed m.above free m.alone) m.asks m.may_beside)))
    listed (place.GhostRow g s) own next held m = absurd m
    listed place.Purge own next held m = absurd m
