-- A survey says what schedules reach: what is told of the pairs that were found is so of all pairs that two transactions can have.
use Rattle.std.proofs.Common.{ℕ, not, Option, Some, None, inl, inr, ◌⊎◌, Bool, true, false, ◌≡◌, ◌≤◌, ◌<◌, ◌+◌, ◌∙◌, ◌↔◌, List, length, get_or, take, Vec, Global, ap, refl, sym, subst, arith}
use Rattle.std.specs.List.{Any}
use Rattle.std.proofs.lemmas.List.{get_or_default, get_or-take, length-take-le}
use Rattle.kr_model.specs.declared.Cover.{Cover}
use Rattle.kr_model.specs.declared.LockState.{LockState}
use Rattle.kr_model.specs.Protocol.{Protocol}
use Rattle.kr_model.specs.Safe.{free, is_blocked, Beside, IsSafe}
use Rattle.kr_decide.specs.declared.pair.Pair.{Pair}
use Rattle.kr_decide.specs.declared.pair.Hole.{Hole}
use Rattle.kr_decide.specs.declared.opening.Opening.{Opening}
use Rattle.kr_decide.specs.declared.finding.Found.{Found}
use Rattle.kr_decide.specs.Protects.{protects}
use Rattle.kr_decide.specs.Pairs.{no_pair, pair_at, IsWay, AreDerived, LetsIn}
use Rattle.kr_decide.specs.Findings.{IsAbove, IsGoing}
use Rattle.kr_decide.specs.Opens.{IsHeldBy, OpensAt, OpensFor, AreOpenings, IsHoledIn, AreHeld, AreHoled, IsOpenedAt, NoneOpens}
use Rattle.kr_decide.specs.Survey.{IsHeld, HasHole, AreHoles, IsHole, of_cover, IsSurvey}
use Rattle.kr_decide.specs.Met.{IsSound, MarksBelow}
use Rattle.kr_decide.specs.declared.met.Met.{Met}
use Rattle.kr_decide.specs.declared.survey.ByCover.{ByCover}
use Rattle.std.specs.Option.{is_some, IfSome, IfNone}
use Rattle.std.proofs.lemmas.Bool.{cases_lt}
use Rattle.std.proofs.Math.ListN.{get_or-eq_default}
use Rattle.kr_decide.proofs.Growing.{way_kept}
use Rattle.kr_decide.proofs.Following.{pair_read}
use Rattle.kr_decide.proofs.Covered.{kept_out_for}
use Rattle.kr_decide.proofs.Complete.{beside_at, above_alone, listed}
use Rattle.kr_decide.proofs.Marked.{tested_both, asked_both}

-- The first pairs of a list come about as in the whole.
at_taken : (pairs : List Pair) (n k : ℕ) → k < n → pair_at (take n pairs) k ≡ pair_at pairs k
at_taken pairs n k below = get_or-take n pairs k no_pair below

derived_taken : (p : Protocol) (pairs : List Pair) (n : ℕ) → n ≤ length pairs → AreDerived p pairs → AreDerived p (take n pairs)
derived_taken p pairs n within derived k below =
    let size : length (take n pairs) ≡ n = length-take-le n pairs within in
    subst (λ (z : Pair). Here z) (sym (at_taken pairs n k (omega arith)))
    (way_kept p pairs (take n pairs) k _ _ _ (λ i h. at_taken pairs n i (omega arith)) (derived k (omega arith)))
  where
    Here : Pair → Type 0
    Here z = IsWay p (take n pairs) k z.own z.other z.way

-- The hole, with the first n pairs.
pub hole_there : (p : Protocol) (pairs : List Pair) (at : ℕ) (x : Pair) (o : Opening) (v : Vec Pair Global) (n : ℕ) → AreDerived p pairs → IsOpenedAt p pairs at o → pair_at pairs at ≡ x
    → at < n → o.above.place < n → n ≤ length pairs → v.items ≡ take n pairs
    → IsHole p (record { row = o.row; side = o.side; own = x.own; other = x.other; next = o.above.state; pairs = v; at = at; at_next = o.above.place })
hole_there p pairs at x o v n derived opened is at_within next_within within items = record {
  derived = subst (AreDerived p) (sym items) (derived_taken p pairs n within derived);
  at = subst (λ (l : List Pair). at < length l) (sym items) (omega (arith, size));
  own = subst (λ (l : List Pair). (pair_at l at).own ≡ x.own) (sym items) (ap (λ (z : Pair). z.own) here);
  other = subst (λ (l : List Pair). (pair_at l at).other ≡ x.other) (sym items) (ap (λ (z : Pair). z.other) here);
  at_next = subst (λ (l : List Pair). o.above.place < length l) (sym items) (omega (arith, size));
  next = subst (λ (l : List Pair). (pair_at l o.above.place).own ≡ o.above.state) (sym items) (ap (λ (z : Pair). z.own) above_there ∙ above.state);
  alone = subst (λ (l : List Pair). (pair_at l o.above.place).other ≡ free) (sym items) (ap (λ (z : Pair). z.other) above_there ∙ above.alone);
  lets_in = lets_in;
  reached = record {
    beside = subst (λ (z : Pair). Beside p z.own z.other) is (beside_at p pairs at derived (omega arith));
    alone = above_alone p pairs o.above derived above;
    lets_in = lets_in;
  };
}
  where
    size : length (take n pairs) ≡ n
    size = length-take-le n pairs within

    here : pair_at (take n pairs) at ≡ x
    here = at_taken pairs n at at_within ∙ is

    above : IsAbove pairs o.above
    above = let i = opened.opening in i.above

    above_there : pair_at (take n pairs) o.above.place ≡ pair_at pairs o.above.place
    above_there = at_taken pairs n o.above.place next_within

    lets_in : LetsIn p o.row o.side x.own x.other o.above.state
    lets_in = let i = opened.opening in subst (λ (z : Pair). LetsIn p o.row o.side z.own z.other o.above.state) is i.lets_in

module _ (p : Protocol) (f : Found) (going : IsGoing p f (length f.pairs.items)) where
  derived : AreDerived p f.pairs.items
  derived = let found = going.found in found.derived

  -- What is held among the pairs can be held, and no other is.
  pub held_both : (c : Cover) (m : ℕ) (b : Bool) → (b ≡ true ↔ Any (IsHeldBy c m) f.pairs.items) → b ≡ true ↔ IsHeld p c m
  held_both c m b told = ((λ t. there (told.0 t)), (λ h. told.1 (back h)))
    where
      there : Any (IsHeldBy c m) f.pairs.items → IsHeld p c m
      there a =
          let read : pair_at f.pairs.items a.0 ≡ a.1 = pair_read f.pairs.items a.0 a.1 a.2 (sym a.3) in
          record {
            own = (pair_at f.pairs.items a.0).own;
            other = (pair_at f.pairs.items a.0).other;
            beside = beside_at p f.pairs.items a.0 derived a.2;
            held = subst (λ (z : Pair). z.other.mode ≡ m) (sym read) a.4.0;
            protects = subst (λ (z : Pair). protects z.other c ≡ true) (sym read) a.4.1;
          }

      back : IsHeld p c m → Any (IsHeldBy c m) f.pairs.items
      back h =
          let l = listed p f going h.own h.other h.beside in
          (l.place, pair_at f.pairs.items l.place, l.within, get_or_default f.pairs.items l.place (pair_at f.pairs.items l.place) no_pair l.within, (subst (λ (y : LockState). y.mode ≡ m) (sym l.other) h.held, subst (λ (y : LockState). protects y c ≡ true) (sym l.other) h.protects))

  -- Where a pair that was found opens for a cover is where schedules lead to a hole.
  pub holed_both : (opens : List Bool) (c : Cover) → AreOpenings p c f.pairs.items opens → (m : ℕ) (b : Bool) → (b ≡ true ↔ IsHoledIn f.pairs.items opens c m) → b ≡ true ↔ HasHole p c m
  holed_both opens c each m b told = ((λ t. there (told.0 t)), (λ h. told.1 (back h)))
    where
      there : IsHoledIn f.pairs.items opens c m → HasHole p c m
      there i =
          let e = each.each i.place i.within in
          let for_cover = e.0 i.open_there in
          let o = for_cover.opens in
          let l = o.lets_in in
          record {
            row = o.row;
            side = o.side;
            own = (pair_at f.pairs.items i.place).own;
            other = (pair_at f.pairs.items i.place).other;
            next = o.next;
            held = i.held.0;
            protects = i.held.1;
            kept_out = l.kept_out;
            reached = record {
              beside = beside_at p f.pairs.items i.place derived i.within;
              alone = o.alone;
              lets_in = record { asks = l.asks; kept_out = kept_out_for c (pair_at f.pairs.items i.place).other o.row o.side i.held.1 l.kept_out; granted = l.granted };
            };
          }

      opens_for : (h : HasHole p c m) → OpensFor p c h.own h.other
      opens_for h =
          let r = h.reached in
          let l = r.lets_in in
          record {
            protects = h.protects;
            opens = record { row = h.row; side = h.side; next = h.next; alone = r.alone; lets_in = record { asks = l.asks; kept_out = h.kept_out; granted = l.granted } };
          }

      back : HasHole p c m → IsHoledIn f.pairs.items opens c m
      back h =
          let r = h.reached in
          let l = listed p f going h.own h.other r.beside in
          let e = each.each l.place l.within in
          record {
            place = l.place;
            within = l.within;
            open_there = e.1 (subst (λ (x : LockState). OpensFor p c x (pair_at f.pairs.items l.place).other) (sym l.own) (subst (λ (y : LockState). OpensFor p c h.own y) (sym l.other) (opens_for h)));
            held = (subst (λ (y : LockState). y.mode ≡ m) (sym l.other) h.held, subst (λ (y : LockState). protects y c ≡ true) (sym l.other) h.protects);
          }

  pub holes_of : (opens : List Bool) (c : Cover) (n : ℕ) (list : List Bool) → AreOpenings p c f.pairs.items opens → AreHoled f.pairs.items opens c n list → AreHoles p c n list
  holes_of opens c n list openings row = record { size = row.size; each = λ m h. holed_both opens c openings m (get_or list m false) (row.each m h) }

  -- Where none opens, the protocol is safe.
  pub safe_of_none : NoneOpens p f.pairs.items (length f.pairs.items) → IsSafe p
  safe_of_none none r s x y n beside alone asks kept_out = by_blocked (is_blocked p r s x n y) refl
    where
      by_blocked : (b : Bool) → is_blocked p r s x n y ≡ b → is_blocked p r s x n y ≡ true
      by_blocked true e = e
      by_blocked false e =
          let l = listed p f going x y beside in
          absurd (none l.place l.within (subst (λ (u : LockState). OpensAt p u (pair_at f.pairs.items l.place).other) (sym l.own) (subst (λ (v : LockState). OpensAt p x v) (sym l.other)
          (record { row = r; side = s; next = n; alone = alone; lets_in = record { asks = asks; kept_out = kept_out; granted = e } }))))

  -- No mode past the last is held.
  none_past : (c : Cover) (m : ℕ) → p.count + 1 ≤ m → IsHeld p c m → ⊥
  none_past c m past h =
      let l = listed p f going h.own h.other h.beside in
      let found = going.found in
      let range : (pair_at f.pairs.items l.place).other.mode ≤ p.count = found.other l.place in
      let held = h.held in
      let same : (pair_at f.pairs.items l.place).other.mode ≡ h.other.mode = ap (λ (y : LockState). y.mode) l.other in
      omega arith

  past_end : (list : List Bool) (m : ℕ) → length list ≡ p.count + 1 → p.count + 1 ≤ m → get_or list m false ≡ false
  past_end list m size past = get_or-eq_default list false (omega arith)

  pub each_held : (c : Cover) (list : List Bool) → AreHeld f.pairs.items c (p.count + 1) list → (m : ℕ) → get_or list m false ≡ true ↔ IsHeld p c m
  each_held c list row m = split (cases_lt m (p.count + 1))
    where
      split : (m < p.count + 1) ⊎ (p.count + 1 ≤ m) → get_or list m false ≡ true ↔ IsHeld p c m
      split (inl h) = held_both c m (get_or list m false) (row.each m h)
      split (inr h) = ((λ t. absurd (let e = past_end list m row.size h in cc)), (λ held. absurd (none_past c m h held)))

  pub each_holed : (c : Cover) (list : List Bool) → AreHoles p c (p.count + 1) list → (m : ℕ) → get_or list m false ≡ true ↔ HasHole p c m
  each_holed c list row m = split (cases_lt m (p.count + 1))
    where
      is_held : HasHole p c m → IsHeld p c m
      is_held h = let r = h.reached in record { own = h.own; other = h.other; beside = r.beside; held = h.held; protects = h.protects }

      split : (m < p.count + 1) ⊎ (p.count + 1 ≤ m) → get_or list m false ≡ true ↔ HasHole p c m
      split (inl h) = row.each m h
      split (inr h) = ((λ t. absurd (let e = past_end list m row.size h in cc)), (λ hole. absurd (none_past c m h (is_held hole))))

-- A hole shows that the protocol isn't safe.
pub hole_unsafe : (p : Protocol) (h : Hole) → IsHole p h → IsSafe p → ⊥
hole_unsafe p h i safe =
    let r = i.reached in
    let l = r.lets_in in
    let b = safe h.row h.side h.own h.other h.next r.beside r.alone l.asks l.kept_out in
    let g = l.granted in
    cc

-- The survey is right: what is told of the pairs that were found, and the first hole among them.
pub survey_right : (p : Protocol) (f : Found) (held holed : ByCover) (met : Met) (hole : Option Hole) → IsGoing p f (length f.pairs.items)
    → ((c : Cover) → AreHeld f.pairs.items c (p.count + 1) (of_cover held c)) → ((c : Cover) → AreHoles p c (p.count + 1) (of_cover holed c))
    → IsSound p met → MarksBelow p met f.pairs.items f.nexts.items (length f.pairs.items)
    → IfSome hole (IsHole p) → IfNone hole (NoneOpens p f.pairs.items (length f.pairs.items)) → IsSurvey p (record { held = held; holed = holed; met = met; hole = hole })
survey_right p f held holed met hole going are_held are_holed sound marks some none = record {
  held = λ c m. each_held p f going c (of_cover held c) (are_held c) m;
  holes = λ c m. each_holed p f going c (of_cover holed c) (are_holed c) m;
  tested = tested_both p f going met marks sound;
  asked = asked_both p f going met marks sound;
  safe = by_hole hole some none;
  hole = some;
}
  where
    by_hole : (h : Option Hole) → IfSome h (IsHole p) → IfNone h (NoneOpens p f.pairs.items (length f.pairs.items)) → not (is_some h) ≡ true ↔ IsSafe p
    by_hole None some none = ((λ t. safe_of_none p f going none), (λ safe. refl))
    by_hole (Some h) some none = ((λ t. absurd cc), (λ safe. absurd (hole_unsafe p h some safe)))

-- Where all pairs have been followed and there is no first hole, the protocol is safe.
pub safe_without_hole : (p : Protocol) (f : Found) (n : ℕ) (hole : Option Hole) → IsGoing p f n → n ≡ length f.pairs.items → IfNone hole (NoneOpens p f.pairs.items (length f.pairs.items)) → IfNone hole (IsSafe p)
safe_without_hole p f n None going same none = safe_of_none p f (subst (IsGoing p f) same going) none
safe_without_hole p f n (Some hole) going same none = tt
