-- A list of spots that grows.
use Rattle.std.proofs.Common.{ℕ, zero, suc, Bool, true, false, ◌≡◌, ◌≤◌, ◌<◌, ◌+◌, ◌*◌, ◌∙◌, ◌⊎◌, inl, inr, List, [], ◌∷◌, ◌++◌, length, get_or, set, replicate, ap, refl, sym, subst, arith}
use Rattle.std.specs.Prelude.{Contains, ◌==◌, if◌then◌else◌}
use Rattle.std.proofs.lemmas.Bool.{cases_eq}
use Rattle.std.proofs.lemmas.List.{get_or-set_same, get_or-set_other, get_or_default, length-set, length-replicate}
use Rattle.std.proofs.lemmas.List.Elements.{All-push, Contains-append_left, Contains-push, Contains-push_cases}
use Rattle.std.proofs.lemmas.List.Quantifiers.{all_pairs_push}
use Rattle.kr_model.specs.declared.Row.TheVariants as row
use Rattle.kr_model.specs.declared.Side.TheVariants.{Current, Next}
use Rattle.kr_change.specs.declared.change.GhostRow.TheVariants as ghost_row
use Rattle.kr_kinds.specs.Kinds.{IndexProtocol, table_of}
use Rattle.kr_relax_core.specs.declared.place.Place.{Place}
use Rattle.kr_relax_core.specs.declared.place.Place.TheVariants as place
use Rattle.kr_relax_core.specs.declared.place.Spot.{Spot}
use Rattle.kr_relax_core.specs.declared.finder.Finder.{Finder}
use Rattle.kr_relax_core.specs.Met.{IsMetSpot, spot}
use Rattle.kr_relax_core.specs.Finding.{place_number, spot_number, IsFinding, Keeps, FindsMore}

-- Each spot has its own number --

abbrev place_at : ℕ → Place
place_at n =
    if n == 0 then place.Row row.FetchHit Current else if n == 1 then place.Row row.FetchHit Next
    else if n == 2 then place.Row row.FetchMiss Current else if n == 3 then place.Row row.FetchMiss Next
    else if n == 4 then place.Row row.ScanKey Current else if n == 5 then place.Row row.ScanKey Next
    else if n == 6 then place.Row row.ScanStop Current else if n == 7 then place.Row row.ScanStop Next
    else if n == 8 then place.Row row.Insert Current else if n == 9 then place.Row row.Insert Next
    else if n == 10 then place.Row row.Delete Current else if n == 11 then place.Row row.Delete Next
    else if n == 12 then place.Row row.Update Current else if n == 13 then place.Row row.Update Next
    else if n == 14 then place.GhostRow ghost_row.Revive Current else if n == 15 then place.GhostRow ghost_row.Revive Next
    else if n == 16 then place.GhostRow ghost_row.InsertHit Current else if n == 17 then place.GhostRow ghost_row.InsertHit Next
    else if n == 18 then place.GhostRow ghost_row.DeleteMiss Current else if n == 19 then place.GhostRow ghost_row.DeleteMiss Next
    else if n == 20 then place.GhostRow ghost_row.UpdateMiss Current else if n == 21 then place.GhostRow ghost_row.UpdateMiss Next
    else place.Purge

place_back : (x : Place) → place_at (place_number x) ≡ x
place_back (place.Row row.FetchHit Current) = refl
place_back (place.Row row.FetchHit Next) = refl
place_back (place.Row row.FetchMiss Current) = refl
place_back (place.Row row.FetchMiss Next) = refl
place_back (place.Row row.ScanKey Current) = refl
place_back (place.Row row.ScanKey Next) = refl
place_back (place.Row row.ScanStop Current) = refl
place_back (place.Row row.ScanStop Next) = refl
place_back (place.Row row.Insert Current) = refl
place_back (place.Row row.Insert Next) = refl
place_back (place.Row row.Delete Current) = refl
place_back (place.Row row.Delete Next) = refl
place_back (place.Row row.Update Current) = refl
place_back (place.Row row.Update Next) = refl
place_back (place.GhostRow ghost_row.Revive Current) = refl
place_back (place.GhostRow ghost_row.Revive Next) = refl
place_back (place.GhostRow ghost_row.InsertHit Current) = refl
place_back (place.GhostRow ghost_row.InsertHit Next) = refl
place_back (place.GhostRow ghost_row.DeleteMiss Current) = refl
place_back (place.GhostRow ghost_row.DeleteMiss Next) = refl
place_back (place.GhostRow ghost_row.UpdateMiss Current) = refl
place_back (place.GhostRow ghost_row.UpdateMiss Next) = refl
place_back place.Purge = refl

same_place : (x y : Place) → place_number x ≡ place_number y → x ≡ y
same_place x y e = sym (place_back x) ∙ ap place_at e ∙ place_back y

-- Of numbers of this form, the parts.
same_parts : (m n a b c d e f : ℕ) → a ≤ 15 → b ≤ 15 → c ≤ 15 → d ≤ 15 → e ≤ 15 → f ≤ 15 → ((m * 16 + a) * 16 + b) * 16 + c ≡ ((n * 16 + d) * 16 + e) * 16 + f → (m ≡ n) × ((a ≡ d) × ((b ≡ e) × (c ≡ f)))
same_parts m n a b c d e f ra rb rc rd re rf h =
    let held : c ≡ f = omega arith in
    let next : b ≡ e = omega arith in
    let own : a ≡ d = omega arith in
    let first : m ≡ n = omega arith in
    (first, (own, (next, held)))

same_spot : (x y : Place) (o n h a b c : ℕ) → o ≤ 15 → n ≤ 15 → h ≤ 15 → a ≤ 15 → b ≤ 15 → c ≤ 15 → spot_number x o n h ≡ spot_number y a b c → spot x o n h ≡ spot y a b c
same_spot x y o n h a b c ro rn rh ra rb rc e =
    let parts = same_parts (place_number x) (place_number y) o n h a b c ro rn rh ra rb rc e in
    ap (λ (z : Place). spot z o n h) (same_place x y parts.0)
    ∙ ap (λ (z : ℕ). spot y z n h) parts.1.0
    ∙ ap (λ (z : ℕ). spot y a z h) parts.1.1.0
    ∙ ap (λ (z : ℕ). spot y a b z) parts.1.1.1

abbrev pub number_of : Spot → ℕ
number_of x = spot_number x.request.place x.request.own x.request.next x.held

-- Finding --

-- What stands at a place of the list, whatever stands past its end.
pub at_default : (us : List Bool) (n : ℕ) (b is : Bool) → n < length us → b ≡ get_or us n b → b ≡ is → get_or us n false ≡ is
at_default us n b is low there e = get_or_default us n false b low ∙ sym there ∙ e

all_false : (n k : ℕ) → get_or (replicate n false) k false ≡ false
all_false zero k = refl
all_false (suc n) zero = refl
all_false (suc n) (suc k) = all_false n k

-- At first nothing has been seen.
pub finding_none : (p : IndexProtocol) (f : Finder) → f.spots.items ≡ [] → f.seen.items ≡ replicate 94208 false → IsFinding p f
finding_none p f none seen = record {
  apart = subst (λ (l : List Spot). (i j : ℕ) (d : Spot) → i < j → j < length l → get_or l i d ≡ get_or l j d → ⊥) (sym none) (λ i j d before low. absurd (omega arith));
  sound = subst (λ (l : List Spot). (k : ℕ) (d : Spot) → k < length l → IsMetSpot p (get_or l k d)) (sym none) (λ k d low. absurd (omega arith));
  own = subst (λ (l : List Spot). (k : ℕ) (d : Spot) → k < length l → (get_or l k d).request.own ≤ (table_of p).count) (sym none) (λ k d low. absurd (omega arith));
  next = subst (λ (l : List Spot). (k : ℕ) (d : Spot) → k < length l → (get_or l k d).request.next ≤ (table_of p).count) (sym none) (λ k d low. absurd (omega arith));
  held = subst (λ (l : List Spot). (k : ℕ) (d : Spot) → k < length l → (get_or l k d).held ≤ (table_of p).count) (sym none) (λ k d low. absurd (omega arith));
  size = ap length seen ∙ length-replicate 94208 false;
  seen = λ x own next held a b c h. absurd (let e = sym (subst (λ (l : List Bool). get_or l (spot_number x own next held) false ≡ true) seen h) ∙ all_false 94208 (spot_number x own next held) in cc);
  unseen = λ x own next held a b c h there. absurd (let low = (subst (λ (l : List Spot). Contains l (spot x own next held)) none there).1 in omega (arith, low));
}

pub more_none : (p : IndexProtocol) (f : Finder) → IsFinding p f → FindsMore p f f
more_none p f finding = record { finding = finding; kept = λ x h. h }

pub more_on : (p : IndexProtocol) (a b c : Finder) → FindsMore p a b → FindsMore p b c → FindsMore p a c
more_on p a b c ab bc = record { finding = bc.finding; kept = λ x h. bc.kept x (ab.kept x h) }

-- What has been seen is in the list, with one more spot that is marked as seen.
seen_more : (spots : List Spot) (us : List Bool) (y : Place) (o n h : ℕ) → o ≤ 15 → n ≤ 15 → h ≤ 15
    → ((x : Place) (a b c : ℕ) → a ≤ 15 → b ≤ 15 → c ≤ 15 → get_or us (spot_number x a b c) false ≡ true → Contains spots (spot x a b c))
    → (x : Place) (a b c : ℕ) → a ≤ 15 → b ≤ 15 → c ≤ 15 → get_or (set us (spot_number y o n h) true) (spot_number x a b c) false ≡ true → Contains (spots ++ spot y o n h ∷ []) (spot x a b c)
seen_more spots us y o n h ro rn rh old x a b c ra rb rc e = split (cases_eq (spot_number x a b c) (spot_number y o n h))
  where
    split : (spot_number x a b c ≡ spot_number y o n h) ⊎ (spot_number x a b c ≡ spot_number y o n h → ⊥) → Contains (spots ++ spot y o n h ∷ []) (spot x a b c)
    split (inl same) = subst (Contains (spots ++ spot y o n h ∷ [])) (sym (same_spot x y a b c o n h ra rb rc ro rn rh same)) (Contains-push spots (spot y o n h))
    split (inr apart) =
        Contains-append_left spots (spot y o n h ∷ []) (spot x a b c)
        (old x a b c ra rb rc (sym (get_or-set_other us (spot_number y o n h) (spot_number x a b c) true false apart) ∙ e))

-- What hasn't been seen is not in the list, with one more spot that is marked as seen.
unseen_more : (spots : List Spot) (us : List Bool) (y : Place) (o n h : ℕ) → spot_number y o n h < length us
    → ((x : Place) (a b c : ℕ) → a ≤ 15 → b ≤ 15 → c ≤ 15 → get_or us (spot_number x a b c) false ≡ false → Contains spots (spot x a b c) → ⊥)
    → (x : Place) (a b c : ℕ) → a ≤ 15 → b ≤ 15 → c ≤ 15 → get_or (set us (spot_number y o n h) true) (spot_number x a b c) false ≡ false → Contains (spots ++ spot y o n h ∷ []) (spot x a b c) → ⊥
unseen_more spots us y o n h within old x a b c ra rb rc e there = split (cases_eq (spot_number x a b c) (spot_number y o n h))
  where
    here : (spot_number x a b c ≡ spot_number y o n h → ⊥) → Contains spots (spot x a b c) ⊎ (spot y o n h ≡ spot x a b c) → ⊥
    here apart (inl f) = old x a b c ra rb rc (sym (get_or-set_other us (spot_number y o n h) (spot_number x a b c) true false apart) ∙ e) f
    here apart (inr f) = apart (sym (ap number_of f))

    split : (spot_number x a b c ≡ spot_number y o n h) ⊎ (spot_number x a b c ≡ spot_number y o n h → ⊥) → ⊥
    split (inl same) = let f = sym (subst (λ (k : ℕ). get_or (set us (spot_number y o n h) true) k false ≡ false) same e) ∙ get_or-set_same us (spot_number y o n h) true false within in absurd (cc)
    split (inr apart) = here apart (Contains-push_cases spots (spot y o n h) (spot x a b c) there)

-- A spot that wasn't seen is put behind the others.
pub found_by : (p : IndexProtocol) (f f' : Finder) (x : Spot) → (table_of p).count ≤ 15 → IsFinding p f → IsMetSpot p x → x.request.own ≤ (table_of p).count → x.request.next ≤ (table_of p).count → x.held ≤ (table_of p).count
    → number_of x < 94208 → get_or f.seen.items (number_of x) false ≡ false → f'.spots.items ≡ f.spots.items ++ x ∷ [] → f'.seen.items ≡ set f.seen.items (number_of x) true → FindsMore p f f'
found_by p f f' x few old is ro rn rh low unseen spots seens =
    let size = old.size in
    let at = x.request.place in
    let o = x.request.own in
    let n = x.request.next in
    let h = x.held in
    record {
      finding = record {
        apart = subst (λ (l : List Spot). (i j : ℕ) (d : Spot) → i < j → j < length l → get_or l i d ≡ get_or l j d → ⊥) (sym spots)
            (all_pairs_push (λ (a : Spot) (b : Spot). a ≡ b → ⊥) f.spots.items x old.apart
            (λ k d below e. old.unseen at o n h (omega arith) (omega arith) (omega arith) unseen (k, below, get_or_default f.spots.items k x d below ∙ e)));
        sound = subst (λ (l : List Spot). (k : ℕ) (d : Spot) → k < length l → IsMetSpot p (get_or l k d)) (sym spots) (All-push (IsMetSpot p) f.spots.items x old.sound is);
        own = subst (λ (l : List Spot). (k : ℕ) (d : Spot) → k < length l → (get_or l k d).request.own ≤ (table_of p).count) (sym spots) (All-push (λ (y : Spot). y.request.own ≤ (table_of p).count) f.spots.items x old.own ro);
        next = subst (λ (l : List Spot). (k : ℕ) (d : Spot) → k < length l → (get_or l k d).request.next ≤ (table_of p).count) (sym spots) (All-push (λ (y : Spot). y.request.next ≤ (table_of p).count) f.spots.items x old.next rn);
        held = subst (λ (l : List Spot). (k : ℕ) (d : Spot) → k < length l → (get_or l k d).held ≤ (table_of p).count) (sym spots) (All-push (λ (y : Spot). y.held ≤ (table_of p).count) f.spots.items x old.held rh);
        size = ap length seens ∙ length-set f.seen.items (number_of x) true ∙ old.size;
        seen = λ y a b c ra rb rc e.
            subst (λ (l : List Spot). Contains l (spot y a b c)) (sym spots)
            (seen_more f.spots.items f.seen.items at o n h (omega arith) (omega arith) (omega arith) old.seen y a b c ra rb rc (subst (λ (l : List Bool). get_or l (spot_number y a b c) false ≡ true) seens e));
        unseen = λ y a b c ra rb rc e there.
            unseen_more f.spots.items f.seen.items at o n h (omega arith) old.unseen y a b c ra rb rc (subst (λ (l : List Bool). get_or l (spot_number y a b c) false ≡ false) seens e)
            (subst (λ (l : List Spot). Contains l (spot y a b c)) spots there);
      };
      kept = λ y e. subst (λ (l : List Spot). Contains l y) (sym spots) (Contains-append_left f.spots.items (x ∷ []) y e);
    }
