-- What a step of the search finds is new and reached, and what it passes over is marked.
use Rattle.std.proofs.Common.{ℕ, Bool, true, false, ◌≡◌, ◌≤◌, ◌<◌, ◌+◌, List, Option, Some, None, sym, ap, ◌∙◌, subst, arith, below_more, ◌*◌, ◌/◌}
use Rattle.std.specs.Prelude.{◌&&◌}
use Rattle.std.proofs.lemmas.Bool.{and_parts}
use Rattle.kr_ghost.specs.Protocol.{GhostProtocol, IsLawfulGhost}
use Rattle.kr_ghost.specs.Safe.{Hold, Beside}
use Rattle.kr_ghost_decide.specs.declared.found.Found.{Found}
use Rattle.kr_ghost_decide.specs.declared.hold.Pair.{Pair}
use Rattle.kr_ghost_decide.specs.declared.heir.Heirs.{Heirs}
use Rattle.kr_ghost_decide.specs.declared.way.Way.{Way}
use Rattle.kr_ghost_decide.specs.Holds.{Fact, fact, facts, hold_at}
use Rattle.kr_ghost_decide.specs.Ways.{moved, alters}
use Rattle.kr_ghost_decide.specs.Heirs.{inherited_by}
use Rattle.kr_ghost_decide.specs.Found.{IsReached, IsNew, IsFound, IsPassed, IsLeft, AreHeirs, HasAny, HasAll, HasAllOf, AreFollowed, has, is_altered, altered, found_at}
use Rattle.kr_ghost_decide.proofs.Within.{both_within}
use Rattle.kr_ghost_decide.proofs.Growing.{marked_reached}
use Rattle.kr_ghost_decide.proofs.Moved.{by_way, by_third, by_heirs}

-- Nothing comes of it, or what comes of it is marked.
pub any_none : (marks : List Bool) (r : Option Pair) (m : Option Fact) → facts r ≡ m → r ≡ None → HasAny marks m
any_none marks r m is none = subst (HasAny marks) (sym (ap facts none) ∙ is) tt

pub any_some : (marks : List Bool) (r : Option Pair) (q : Pair) (m : Option Fact) → facts r ≡ m → r ≡ Some q → has marks (fact q) ≡ true → HasAny marks m
any_some marks r q m is some h = subst (HasAny marks) (sym (ap facts some) ∙ is) h

-- The marks are as they were, or there are more.
pub record IsGoing (p : GhostProtocol) (old new : Found) : Type 0 where
  pub found : IsFound p new
  pub more : old.count ≤ new.count
  pub same : new.count ≡ old.count → new.marks.items ≡ old.marks.items

-- All that comes of each marked pair is marked, and of the marks this holds.
pub record IsDone (p : GhostProtocol) (Holds : List Bool → Type 0) (marks : List Bool) : Type 0 where
  pub heirs : List Heirs
  pub are_heirs : AreHeirs p marks 294912 heirs
  pub followed : AreFollowed p heirs 294912 marks
  pub holds : Holds marks

-- After a pass from so many marks: it is so where none is new.
pub record IsPassing (p : GhostProtocol) (Holds : List Bool → Type 0) (before : ℕ) (f : Found) : Type 0 where
  pub found : IsFound p f
  pub more : before ≤ f.count
  pub done : f.count ≡ before → IsDone p Holds f.marks.items

pub passing : (p : GhostProtocol) (Holds : List Bool → Type 0) (a b : Found) (heirs : List Heirs) → Holds a.marks.items → AreHeirs p a.marks.items 294912 heirs → IsPassed p (AreFollowed p heirs 294912) a b → IsPassing p Holds a.count b
passing p Holds a b heirs held are one = record {
  found = one.found;
  more = one.more;
  done = λ e.
      let z = one.same e in
      record {
        heirs = heirs;
        are_heirs = subst (λ m. AreHeirs p m 294912 heirs) (sym z.0) are;
        followed = subst (AreFollowed p heirs 294912) (sym z.0) z.1;
        holds = subst Holds (sym z.0) held;
      };
}

module _ (p : GhostProtocol) (laws : IsLawfulGhost p) where
  pub reached : (f : Fact) → Beside p f.present f.own f.other → IsReached p f
  reached f s = let w = both_within p laws f.present f.own f.other s in record { beside = s; own = w.0; other = w.1 }

  -- Something comes of it that isn't marked.
  is_new : (marks : List Bool) (r : Option Pair) (q : Pair) (m : Option Fact) → ((g : Fact) → m ≡ Some g → Beside p g.present g.own g.other) → facts r ≡ m → r ≡ Some q → has marks (fact q) ≡ false → IsNew p marks (fact q)
  is_new marks r q m sound is some h = record { reached = reached (fact q) (sound (fact q) (sym is ∙ ap facts some)); new = h }

  pub new_way : (marks : List Bool) (f : Fact) (w : Way) (r : Option Pair) (q : Pair) → IsReached p f → facts r ≡ moved p f w → r ≡ Some q → has marks (fact q) ≡ false → IsNew p marks (fact q)
  new_way marks f w r q i is some h = is_new marks r q (moved p f w) (λ g e. by_way p f g w i.beside e) is some h

  pub new_heirs : (marks : List Bool) (f : Fact) (h : Heirs) (r : Option Pair) (q : Pair) → IsReached p f → IsLeft p h → facts r ≡ inherited_by p f h → r ≡ Some q → has marks (fact q) ≡ false → IsNew p marks (fact q)
  new_heirs marks f h r q i l is some n = is_new marks r q (inherited_by p f h) (λ g e. by_heirs p f g h l i.beside e) is some n

  pub new_third : (f : Found) (q : Fact) (n : ℕ) → IsFound p f → IsReached p q → n < (p.table.count + 1) * 24 → is_altered p f.marks.items q (hold_at n) ≡ true → has f.marks.items (altered q) ≡ false → IsNew p f.marks.items (altered q)
  new_third f q n found i below h new =
      let z : Hold = hold_at n in
      let few : p.table.count ≤ 15 = let t = laws.table in t.few in
      let in_z : n / 24 ≤ 15 = omega arith in
      let one : Fact = record { present = q.present; own = z; other = q.own } in
      let two : Fact = record { present = q.present; own = z; other = q.other } in
      let a = and_parts (has f.marks.items one) (has f.marks.items two && alters p q.present z q.own q.other) h in
      let b = and_parts (has f.marks.items two) (alters p q.present z q.own q.other) a.1 in
      let in_own = i.own in
      let in_other = i.other in
      let s = marked_reached p laws f one found in_z (omega arith) a.0 in
      let t = marked_reached p laws f two found in_z (omega arith) b.0 in
      record { reached = reached (altered q) (by_third p q.present q.own q.other z i.beside s.beside t.beside b.1); new = new }

  -- A step of a pass.
  pub passed_on : (heirs : List Heirs) (k : ℕ) (a b c : Found) (q : Fact) → IsPassed p (AreFollowed p heirs k) a b → found_at b.marks.items k ≡ Some q → IsPassed p (λ m. HasAll p m heirs q) b c → IsPassed p (AreFollowed p heirs (k + 1)) a c
  passed_on heirs k a b c q one at two =
      let le = one.more in
      let le_too = two.more in
      record {
        found = two.found;
        more = omega arith;
        same = λ e.
            let z = one.same (omega arith) in
            let r = two.same (omega arith) in (
              r.0 ∙ z.0,
              below_more (λ k. HasAllOf p a.marks.items heirs (found_at a.marks.items k)) k z.1
                  (subst (λ m. HasAllOf p m heirs (found_at m k)) z.0 (subst (HasAllOf p b.marks.items heirs) (sym at) r.1)),
            );
      }

  pub passed_over : (heirs : List Heirs) (k : ℕ) (a b : Found) → IsPassed p (AreFollowed p heirs k) a b → found_at b.marks.items k ≡ None → IsPassed p (AreFollowed p heirs (k + 1)) a b
  passed_over heirs k a b one at =
      record {
        found = one.found;
        more = one.more;
        same = λ e.
            let z = one.same e in
            (z.0, below_more (λ k. HasAllOf p a.marks.items heirs (found_at a.marks.items k)) k z.1 (subst (λ m. HasAllOf p m heirs (found_at m k)) z.0 (subst (HasAllOf p b.marks.items heirs) (sym at) tt)));
      }
