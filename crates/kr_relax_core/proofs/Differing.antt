-- Where two protocols differ, by the lists of what schedules bring together and of twins.
use Rattle.std.proofs.Common.{ℕ, Bool, true, not, ◌≡◌, ◌<◌, ◌+◌, ◌∙◌, ◌⊎◌, inl, inr, List, length, get_or, ap, sym, subst, arith}
use Rattle.std.proofs.lemmas.List.{get_or_default}
use Rattle.kr_kinds.specs.Kinds.{IndexProtocol, table_of}
use Rattle.kr_relax_core.specs.declared.place.Spot.{Spot}
use Rattle.kr_relax_core.specs.declared.twins.Twin.{Twin}
use Rattle.kr_relax_core.specs.Met.{IsMetBy, IsMetSpot, is_blocked_at, spot}
use Rattle.kr_relax_core.specs.Twins.{AreTwins, HasTwins, Differs, DiffersHeld, DiffersNext, DiffersOwn, DiffersSpot, twin_of, twin_at}
use Rattle.kr_relax_core.specs.Width.{IsGained}
use Rattle.kr_relax_core.proofs.Closed.{at_place}

below_or_last : (k n : ℕ) → k < n + 1 → (k < n) ⊎ (k ≡ n)
below_or_last k n h = grind arith

-- One spot more, at which they don't differ.
pub spot_step : (p q : IndexProtocol) (list : List Twin) (spots : List Spot) (blocked : Bool) (n : ℕ) (x : Spot) → n < length spots → get_or spots n x ≡ x
    → (DiffersSpot p q list spots blocked n → ⊥)
    → (is_blocked_at p x.request.place x.request.own x.request.next x.held ≡ blocked → DiffersOwn p q list x blocked (length list) → ⊥)
    → DiffersSpot p q list spots blocked (n + 1) → ⊥
spot_step p q list spots blocked n x low is none here h = split (below_or_last h.place n h.within)
  where
    same : h.place ≡ n → h.spot ≡ x
    same e = sym h.there ∙ ap (λ (k : ℕ). get_or spots k h.spot) e ∙ get_or_default spots n h.spot x low ∙ is

    split : (h.place < n) ⊎ (h.place ≡ n) → ⊥
    split (inl b) = none (record { place = h.place; spot = h.spot; within = b; there = h.there; before = h.before; differs = h.differs })
    split (inr e) =
        here (subst (λ (y : Spot). is_blocked_at p y.request.place y.request.own y.request.next y.held ≡ blocked) (same e) h.before)
        (subst (λ (y : Spot). DiffersOwn p q list y blocked (length list)) (same e) h.differs)

-- Twins by which they differ at a spot are in the list,
pub at_own : (p q : IndexProtocol) (list : List Twin) (x : Spot) (own next held : ℕ) (blocked : Bool) → HasTwins p q list → AreTwins p q x.request.own own → AreTwins p q x.request.next next → AreTwins p q x.held held
    → is_blocked_at q x.request.place own next held ≡ not blocked → DiffersOwn p q list x blocked (length list)
at_own p q list x own next held blocked twins own_twin next_twin held_twin after =
    let a = twins.listed x.request.own own own_twin in
    let b = twins.listed x.request.next next next_twin in
    let c = twins.listed x.held held held_twin in
    let there_own : twin_at list a.0 ≡ twin_of x.request.own own = at_place list a.0 (twin_of x.request.own own) a.1 a.2 in
    let there_next : twin_at list b.0 ≡ twin_of x.request.next next = at_place list b.0 (twin_of x.request.next next) b.1 b.2 in
    let there_held : twin_at list c.0 ≡ twin_of x.held held = at_place list c.0 (twin_of x.held held) c.1 c.2 in
    let on_held : DiffersHeld p q list x own next blocked (length list) = record {
      place = c.0;
      within = c.1;
      held = ap (λ (t : Twin). t.mode) there_held;
      after = subst (λ (t : Twin). is_blocked_at q x.request.place own next t.twin ≡ not blocked) (sym there_held) after;
    } in
    let on_next : DiffersNext p q list x own blocked (length list) = record {
      place = b.0;
      within = b.1;
      next = ap (λ (t : Twin). t.mode) there_next;
      differs = subst (λ (t : Twin). DiffersHeld p q list x own t.twin blocked (length list)) (sym there_next) on_held;
    } in
    record {
      place = a.0;
      within = a.1;
      own = ap (λ (t : Twin). t.mode) there_own;
      differs = subst (λ (t : Twin). DiffersNext p q list x t.twin blocked (length list)) (sym there_own) on_next;
    }

-- and where they differ, they do so at a spot of the list.
pub at_spot : (p q : IndexProtocol) (list : List Twin) (spots : List Spot) (blocked : Bool) → HasTwins p q list → IsMetBy p spots → Differs p q blocked → DiffersSpot p q list spots blocked (length spots)
at_spot p q list spots blocked twins met d =
    let x : Spot = spot d.place d.own d.next d.held in
    let there = met.listed d.place d.own d.next d.held d.met in
    record { place = there.0; spot = x; within = there.1; there = there.2; before = d.before; differs = at_own p q list x d.own' d.next' d.held' blocked twins d.own_twin d.next_twin d.held_twin d.after }

-- A spot that p blocks is gained where they differ there,
pub gained_if_differs : (p q : IndexProtocol) (list : List Twin) (x : Spot) → HasTwins p q list → IsMetSpot p x → is_blocked_at p x.request.place x.request.own x.request.next x.held ≡ true
    → DiffersOwn p q list x true (length list) → IsGained p q x
gained_if_differs p q list x twins met blocked d = record {
  own = (twin_at list d.place).twin;
  next = (twin_at list d.differs.place).twin;
  held = (twin_at list d.differs.differs.place).twin;
  met = met;
  own_twin = subst (λ (m : ℕ). AreTwins p q m (twin_at list d.place).twin) d.own (twins.sound d.place (twin_of 0 0) d.within).twins;
  next_twin = subst (λ (m : ℕ). AreTwins p q m (twin_at list d.differs.place).twin) d.differs.next (twins.sound d.differs.place (twin_of 0 0) d.differs.within).twins;
  held_twin = subst (λ (m : ℕ). AreTwins p q m (twin_at list d.differs.differs.place).twin) d.differs.differs.held (twins.sound d.differs.differs.place (twin_of 0 0) d.differs.differs.within).twins;
  blocked = blocked;
  granted = d.differs.differs.after;
}

-- and nowhere else.
pub differs_if_gained : (p q : IndexProtocol) (list : List Twin) (x : Spot) → HasTwins p q list → IsGained p q x → DiffersOwn p q list x true (length list)
differs_if_gained p q list x twins is = at_own p q list x is.own is.next is.held true twins is.own_twin is.next_twin is.held_twin is.granted
