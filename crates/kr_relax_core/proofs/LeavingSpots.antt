-- What schedules bring together where a deleted key stays as a ghost, pair by pair.
use Rattle.std.proofs.Common.{ℕ, Bool, true, false, ◌≡◌, ◌<◌, ◌+◌, ◌⊎◌, inl, inr, List, length, get_or, refl, sym, subst, arith}
use Rattle.std.specs.Prelude.{Contains}
use Rattle.std.proofs.lemmas.List.{get_or_default}
use Rattle.kr_ghost.specs.Protocol.{GhostProtocol}
use Rattle.kr_ghost.specs.Safe.{Hold, free, Ask, FetchHit, FetchMiss, ScanName, ScanStop, Insert, Delete, Update, Revive, InsertHit, DeleteMiss, UpdateMiss, ReviveNext, InsertHitNext}
use Rattle.kr_ghost_decide.specs.declared.ask.Ask.TheVariants as ask
use Rattle.kr_ghost_decide.specs.declared.hold.Pair.{Pair}
use Rattle.kr_ghost_decide.specs.Every.{AreAllPairs, having}
use Rattle.kr_ghost_decide.specs.Holds.{Fact, fact, asking}
use Rattle.kr_ghost_decide.specs.Ways.{asks as all_asks}
use Rattle.kr_kinds.specs.Kinds.{Leaves}
use Rattle.kr_relax_core.specs.declared.place.Place.{Place}
use Rattle.kr_relax_core.specs.declared.place.Place.TheVariants as place
use Rattle.kr_relax_core.specs.declared.place.Spot.{Spot}
use Rattle.kr_relax_core.specs.declared.finder.Finder.{Finder}
use Rattle.kr_relax_core.specs.Met.{IsMetLeaving, IsMetBy, asks, on_new_key, place_of, purged, spot}
use Rattle.kr_relax_core.specs.Finding.{IsFinding, IsLeft, MayInherit, Keeps, FindsAll, FindsAsk, FindsAsks, FindsEach, FindsPurge, FindsPurges}

below_or_last : (k n : ℕ) → k < n + 1 → (k < n) ⊎ (k ≡ n)
below_or_last k n h = grind arith

-- What was put into the list is found there.
pub ask_found : (p : GhostProtocol) (spots : List Spot) (f : Fact) (a : Ask) (x : Place) (s : Spot) → s ≡ spot x f.own.mode 0 f.other.mode → x ≡ place_of a → Contains spots s → FindsAsk p spots f a
ask_found p spots f a x s is at there = λ may. subst (λ (y : Place). Contains spots (spot y f.own.mode 0 f.other.mode)) at (subst (Contains spots) is there)

-- What was found still is, with one more request,
pub asks_step : (p : GhostProtocol) (a b : List Spot) (f : Fact) (n : ℕ) → Keeps a b → FindsAsks p a f n → FindsAsk p b f (asking (get_or all_asks n ask.FetchHit)) → FindsAsks p b f (n + 1)
asks_step p a b f n kept old new k below = split (below_or_last k n below)
  where
    split : (k < n) ⊎ (k ≡ n) → FindsAsk p b f (asking (get_or all_asks k ask.FetchHit))
    split (inl h) = λ may. kept _ (old k h may)
    split (inr e) = subst (λ (i : ℕ). FindsAsk p b f (asking (get_or all_asks i ask.FetchHit))) (sym e) new

-- one more ghost,
pub purges_step : (p : GhostProtocol) (a b : List Spot) (pairs : List Pair) (f : Fact) (n : ℕ) (q : Pair) → n < length pairs → Keeps a b → FindsPurges p a pairs n f → FindsPurge p b f (fact (get_or pairs n q)) → FindsPurges p b pairs (n + 1) f
purges_step p a b pairs f n q low kept old new j d below = split (below_or_last j n below)
  where
    split : (j < n) ⊎ (j ≡ n) → FindsPurge p b f (fact (get_or pairs j d))
    split (inl h) = λ may left. kept _ (old j d h may left)
    split (inr e) = subst (λ (i : ℕ). FindsPurge p b f (fact (get_or pairs i d))) (sym e) (subst (λ (x : Pair). FindsPurge p b f (fact x)) (get_or_default pairs n q d low) new)

pub all_kept : (p : GhostProtocol) (a b : List Spot) (pairs : List Pair) (f : Fact) → Keeps a b → FindsAll p a pairs f → FindsAll p b pairs f
all_kept p a b pairs f kept old = record {
  asks = λ k low may. kept _ (old.asks k low may);
  new = λ alone stays. kept _ (old.new alone stays);
  purges = λ j d low may left. kept _ (old.purges j d low may left);
}

-- and one more pair.
pub each_step : (p : GhostProtocol) (a b : List Spot) (pairs : List Pair) (n : ℕ) (q : Pair) → n < length pairs → Keeps a b → FindsEach p a pairs n → FindsAll p b pairs (fact (get_or pairs n q)) → FindsEach p b pairs (n + 1)
each_step p a b pairs n q low kept old new i d below = split (below_or_last i n below)
  where
    split : (i < n) ⊎ (i ≡ n) → FindsAll p b pairs (fact (get_or pairs i d))
    split (inl h) = all_kept p a b pairs (fact (get_or pairs i d)) kept (old i d h)
    split (inr e) = subst (λ (k : ℕ). FindsAll p b pairs (fact (get_or pairs k d))) (sym e) (subst (λ (x : Pair). FindsAll p b pairs (fact x)) (get_or_default pairs n q d low) new)

-- Each request is among them.
asked : (p : GhostProtocol) (spots : List Spot) (f : Fact) (a : Ask) → FindsAsks p spots f 13 → FindsAsk p spots f a
asked p spots f FetchHit h = h 0 (omega arith)
asked p spots f FetchMiss h = h 1 (omega arith)
asked p spots f ScanName h = h 2 (omega arith)
asked p spots f ScanStop h = h 3 (omega arith)
asked p spots f Insert h = h 4 (omega arith)
asked p spots f Delete h = h 5 (omega arith)
asked p spots f Update h = h 6 (omega arith)
asked p spots f Revive h = h 7 (omega arith)
asked p spots f InsertHit h = h 8 (omega arith)
asked p spots f DeleteMiss h = h 9 (omega arith)
asked p spots f UpdateMiss h = h 10 (omega arith)
asked p spots f ReviveNext h = h 11 (omega arith)
asked p spots f InsertHitNext h = h 12 (omega arith)

-- Once all pairs have been followed, the list has all.
pub all_met : (p : GhostProtocol) (pairs : List Pair) (f : Finder) → AreAllPairs p pairs → IsFinding (Leaves p) f → FindsEach p f.spots.items pairs (length pairs) → IsMetBy (Leaves p) f.spots.items
all_met p pairs f every finding each = record { sound = finding.sound; listed = listed; own = finding.own; next = finding.next; held = finding.held }
  where
    spots : List Spot
    spots = f.spots.items

    all_of : (q : Pair) → Contains pairs q → FindsAll p spots pairs (fact q)
    all_of q there = subst (λ (x : Pair). FindsAll p spots pairs (fact x)) there.2 (each there.0 q there.1)

    listed : (x : Place) (own next held : ℕ) → IsMetLeaving p x own next held → Contains spots (spot x own next held)
    listed _ _ _ _ (asks a present x y b may) =
        let h = every.listed present x y b in
        let all : FindsAll p spots pairs (having present x y) = subst (FindsAll p spots pairs) h.is (all_of h.pair h.there) in
        asked p spots (having present x y) a all.asks may
    listed _ _ _ _ (on_new_key present x b stays) =
        let h = every.listed present x free b in
        let all : FindsAll p spots pairs (having present x free) = subst (FindsAll p spots pairs) h.is (all_of h.pair h.there) in
        all.new refl stays
    listed _ _ _ _ (purged present x y inherits b stays c stays_too unchanged) =
        let h = every.listed present x free b in
        let all : FindsAll p spots pairs (having present x free) = subst (FindsAll p spots pairs) h.is (all_of h.pair h.there) in
        let l = every.listed false y free c in
        let at : FindsPurge p spots (having present x free) (fact l.pair) = subst (λ (q : Pair). FindsPurge p spots (having present x free) (fact q)) l.there.2 (all.purges l.there.0 l.pair l.there.1) in
        let purge : FindsPurge p spots (having present x free) (having false y free) = subst (FindsPurge p spots (having present x free)) l.is at in
        purge (record { inherits = inherits; alone = refl; stays = stays }) (record { gone = refl; alone = refl; stays = stays_too; unchanged = unchanged })
