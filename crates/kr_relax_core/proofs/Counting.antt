-- How many spots are gained, spot by spot.
use Rattle.std.proofs.Common.{ℕ, true, ◌≡◌, ◌≤◌, ◌<◌, ◌+◌, ◌∙◌, ◌⊎◌, inl, inr, List, [], ◌∷◌, ◌++◌, All, length, get_or, ap, refl, sym, subst, arith}
use Rattle.std.specs.Prelude.{Contains}
use Rattle.std.proofs.lemmas.List.{get_or_default}
use Rattle.std.proofs.lemmas.List.Elements.{All-push, Contains-append_left, Contains-get_or, Contains-push, Contains-push_cases}
use Rattle.std.proofs.lemmas.List.Quantifiers.{all_pairs_push}
use Rattle.std.proofs.Math.ListN.{length-append}
use Rattle.kr_kinds.specs.Kinds.{IndexProtocol, table_of}
use Rattle.kr_model.specs.declared.Row.TheVariants.{FetchHit}
use Rattle.kr_model.specs.declared.Side.TheVariants.{Current}
use Rattle.kr_relax_core.specs.declared.place.Place.TheVariants as place
use Rattle.kr_relax_core.specs.declared.place.Spot.{Spot}
use Rattle.kr_relax_core.specs.Met.{IsMetBy, AreApart, spot}
use Rattle.kr_relax_core.specs.Twins.{Differs}
use Rattle.kr_relax_core.specs.Width.{IsGained, AreGained}

-- Of the first n spots, so many are gained.
pub record AreCounted (p q : IndexProtocol) (spots : List Spot) (n number : ℕ) : Type 0 where
  pub list : List Spot
  pub apart : AreApart list
  pub among : (x : Spot) → Contains list x → (k : ℕ) × (k < n) × (get_or spots k x ≡ x)
  pub each : All (IsGained p q) list
  pub all : (k : ℕ) (d : Spot) → k < n → IsGained p q (get_or spots k d) → Contains list (get_or spots k d)
  pub size : length list ≡ number
  pub low : number ≤ n

-- At first none is.
pub counted_none : (p q : IndexProtocol) (spots : List Spot) → AreCounted p q spots 0 0
counted_none p q spots = record {
  list = [];
  apart = λ i j d before low. absurd (omega arith);
  among = λ x there. absurd (let low = there.1 in omega (arith, low));
  each = λ k d low. absurd (omega arith);
  all = λ k d low is. absurd (omega arith);
  size = refl;
  low = omega arith;
}

below_or_last : (k n : ℕ) → k < n + 1 → (k < n) ⊎ (k ≡ n)
below_or_last k n h = grind arith

same_spot : (spots : List Spot) (k n : ℕ) (d x : Spot) → n < length spots → get_or spots n x ≡ x → k ≡ n → get_or spots k d ≡ x
same_spot spots k n d x low is e = ap (λ (i : ℕ). get_or spots i d) e ∙ get_or_default spots n d x low ∙ is

-- One spot more, which is gained,
pub counted_more : (p q : IndexProtocol) (spots : List Spot) (n number : ℕ) (x : Spot) → AreApart spots → n < length spots → get_or spots n x ≡ x → IsGained p q x
    → AreCounted p q spots n number → AreCounted p q spots (n + 1) (number + 1)
counted_more p q spots n number x apart low is gained old = record {
  list = old.list ++ x ∷ [];
  apart = all_pairs_push (λ (a : Spot) (b : Spot). a ≡ b → ⊥) old.list x old.apart new;
  among = λ y there. place y (Contains-push_cases old.list x y there);
  each = All-push (IsGained p q) old.list x old.each gained;
  all = λ k d below here. there k d here (below_or_last k n below);
  size = (let e = old.size in length-append old.list (x ∷ []) ∙ ap (λ (m : ℕ). m + 1) e);
  low = (let l = old.low in omega arith);
}
  where
    new : (k : ℕ) (d : Spot) → k < length old.list → get_or old.list k d ≡ x → ⊥
    new k d within e =
        let h = old.among x (subst (Contains old.list) e (Contains-get_or old.list k d within)) in
        apart h.0 n x h.1 low (h.2 ∙ sym is)

    place : (y : Spot) → Contains old.list y ⊎ (x ≡ y) → (k : ℕ) × (k < n + 1) × (get_or spots k y ≡ y)
    place y (inl there) = let h = old.among y there in (h.0, (let l = h.1 in omega (arith, l)), h.2)
    place y (inr e) = (n, omega arith, get_or_default spots n y x low ∙ is ∙ e)

    there : (k : ℕ) (d : Spot) → IsGained p q (get_or spots k d) → (k < n) ⊎ (k ≡ n) → Contains (old.list ++ x ∷ []) (get_or spots k d)
    there k d here (inl h) = Contains-append_left old.list (x ∷ []) (get_or spots k d) (old.all k d h here)
    there k d here (inr e) = subst (Contains (old.list ++ x ∷ [])) (sym (same_spot spots k n d x low is e)) (Contains-push old.list x)

-- and one that isn't.
pub counted_other : (p q : IndexProtocol) (spots : List Spot) (n number : ℕ) (x : Spot) → n < length spots → get_or spots n x ≡ x → (IsGained p q x → ⊥)
    → AreCounted p q spots n number → AreCounted p q spots (n + 1) number
counted_other p q spots n number x low is isnt old = record {
  list = old.list;
  apart = old.apart;
  among = λ y there. let h = old.among y there in (h.0, (let l = h.1 in omega (arith, l)), h.2);
  each = old.each;
  all = λ k d below here. there k d here (below_or_last k n below);
  size = old.size;
  low = (let l = old.low in omega arith);
}
  where
    there : (k : ℕ) (d : Spot) → IsGained p q (get_or spots k d) → (k < n) ⊎ (k ≡ n) → Contains old.list (get_or spots k d)
    there k d here (inl h) = old.all k d h here
    there k d here (inr e) = absurd (isnt (subst (IsGained p q) (same_spot spots k n d x low is e) here))

-- All have been counted.
pub counted_all : (p q : IndexProtocol) (spots : List Spot) (n number : ℕ) → IsMetBy p spots → length spots ≤ n → AreCounted p q spots n number → AreGained p q number
counted_all p q spots n number met end counted = record {
  spots = counted.list;
  apart = counted.apart;
  each = counted.each;
  all = λ x gained.
      let h = met.listed x.request.place x.request.own x.request.next x.held gained.met in
      let low : h.0 < n = (let l = h.1 in omega (arith, l)) in
      subst (Contains counted.list) h.2 (counted.all h.0 x low (subst (IsGained p q) (sym h.2) gained));
  number = counted.size;
}

-- Where none is gained, nothing more is granted,
pub none_gained : (p q : IndexProtocol) (n : ℕ) → AreGained p q n → n ≡ 0 → Differs p q true → ⊥
none_gained p q n gained e d =
    let x : Spot = spot d.place d.own d.next d.held in
    let is : IsGained p q x = record { own = d.own'; next = d.next'; held = d.held'; met = d.met; own_twin = d.own_twin; next_twin = d.next_twin; held_twin = d.held_twin; blocked = d.before; granted = d.after } in
    let there = gained.all x is in
    let low = there.1 in
    let number = gained.number in
    absurd (omega (arith, low))

-- and where one is, more is.
pub some_gained : (p q : IndexProtocol) (n : ℕ) → AreGained p q n → (n ≡ 0 → ⊥) → Differs p q true
some_gained p q n gained some =
    let x : Spot = get_or gained.spots 0 (spot_default) in
    let number = gained.number in
    let is : IsGained p q x = gained.each 0 spot_default (omega arith) in
    record { place = x.request.place; own = x.request.own; next = x.request.next; held = x.held; own' = is.own; next' = is.next; held' = is.held; met = is.met; own_twin = is.own_twin; next_twin = is.next_twin; held_twin = is.held_twin; before = is.blocked; after = is.granted }
  where
    spot_default : Spot
    spot_default = spot (place.Row FetchHit Current) 0 0 0
