-- Marks grow by what each closed set has, and each part of a pass is followed by the next.
use Rattle.std.proofs.Common.{ℕ, zero, suc, ◌<◌, ◌≤◌, ◌≡◌, ◌⊎◌, inl, inr, refl, sym, ap, ◌∙◌, subst, arith, Bool, true, false, cond, List, length, get_or, set, replicate, IsTrue, below_more, Some, None}
use Rattle.std.proofs.lemmas.Bool.{and_parts, and_from}
use borrow.Author.Tests.{le-leb}
use Rattle.std.specs.Prelude.{◌+◌, ◌*◌, nat_le}
use Rattle.std.proofs.lemmas.List.{length-set, length-replicate, get_or-set_other}
use Rattle.std.proofs.lemmas.List.Sums.{sum_by-set}
use Rattle.std.proofs.lemmas.List.Folds.{sum_by-replicate}
use Rattle.std.proofs.lemmas.Grind.{get_or-set_at}
use Rattle.kr_model.specs.Protocol.{Protocol, IsLawful}
use Rattle.kr_model.proofs.Tested.{le_of_test}
use Rattle.kr_alike.specs.declared.modes.Modes.{Modes}
use Rattle.kr_alike.specs.declared.found.Found.{Found}
use Rattle.kr_alike.specs.declared.modes.Ask.{Ask}
use Rattle.kr_alike.specs.declared.coming.Coming.{Coming}
use Rattle.kr_alike.specs.Closed.{none, after, HasClosedSetFor}
use Rattle.kr_alike.specs.Marks.{is_within, place, is_marked, modes_of, has, agreed, answer, is_met, plain_ask, AreMovesMet, IsPairMet, AreMetBeside}
use Rattle.kr_alike.specs.Growth.{Comes, IsReached, IsFound, IsPassed, left}
use Rattle.kr_alike.proofs.Codes.{all_codes}
use Rattle.kr_alike.proofs.Held.{same_or_not, same_modes}

-- Places --

-- Each two modes of at most 15 have a place of their own.
pub record AreFew (x : Modes) : Type 0 where
  pub first : x.first ≤ 15
  pub second : x.second ≤ 15

pub few : (p q : Protocol) → IsLawful p → IsLawful q → (x : Modes) → IsTrue (is_within p q x) → AreFew x
few p q lawful lawful_too x within =
    let w = and_parts (nat_le x.first p.count) (nat_le x.second q.count) within in
    let one = le_of_test x.first p.count w.0 in
    let two = le_of_test x.second q.count w.1 in
    let a = lawful.few in
    let b = lawful_too.few in
    record { first = omega arith; second = omega arith }

pub place_below : (x y : Modes) → AreFew x → AreFew y → place x y < 65536
place_below x y a b = let c = a.first in let d = a.second in let e = b.first in let f = b.second in omega arith

place_same : (x y v w : Modes) → AreFew x → AreFew y → AreFew v → AreFew w → place x y ≡ place v w → (x ≡ v) × (y ≡ w)
place_same x y v w a b c d e =
    let a1 = a.first in let a2 = a.second in let b1 = b.first in let b2 = b.second in
    let c1 = c.first in let c2 = c.second in let d1 = d.first in let d2 = d.second in
    (same_modes _ _ _ _ (omega arith) (omega arith), same_modes _ _ _ _ (omega arith) (omega arith))

all_false : (n k : ℕ) → get_or (replicate n false) k false ≡ false
all_false zero k = refl
all_false (suc n) zero = refl
all_false (suc n) (suc k) = all_false n k

one_less : (marks : List Bool) (i : ℕ) → i < length marks → get_or marks i false ≡ false → left (set marks i true) + 1 ≡ left marks + 0
one_less marks i below unmarked = subst (λ (b : Bool). left (set marks i true) + cond b 0 1 ≡ left marks + 0) unmarked (sum_by-set (λ b. cond b 0 1) marks i true false below)

within_none : (p q : Protocol) → IsTrue (is_within p q none)
within_none p q = and_from (nat_le 0 p.count) (nat_le 0 q.count) (le-leb 0 p.count (omega arith)) (le-leb 0 q.count (omega arith))

no : (b : Bool) → b ≡ true → b ≡ false → ⊥
no b t f = cc

module _ (p q : Protocol) (w : Coming) (lawful : IsLawful p) (lawful_too : IsLawful q) where
  -- One mark --

  none_few : AreFew none
  none_few = record { first = omega arith; second = omega arith }

  start_reached : (x y : Modes) → (x ≡ none) × (y ≡ none) → IsReached p q w x y
  start_reached x y e = subst (λ v. IsReached p q w v y) (sym e.0) (subst (λ z. IsReached p q w none z) (sym e.1) (λ has closed. closed.start))

  -- At first neither holds a lock.
  pub found_start : (f : Found) (marks : List Bool) (n i : ℕ) → n ≡ 65536 → i ≡ 0 → marks ≡ replicate n false → f.marks.items ≡ set marks i true → f.count ≡ 1 → IsFound p q w f
  found_start f marks n i size first none_marked is one = record {
    size = ap length is ∙ length-set marks i true ∙ whole ∙ size;
    some = omega arith;
    total = total;
    start = ap (λ l. get_or l 0 false) is ∙ get_or-set_at marks i 0 true false (sym first) below;
    reached = λ x y in_x in_y marked. by x y in_x in_y marked (same_or_not (place x y) i);
  }
    where
      whole : length marks ≡ n
      whole = ap length none_marked ∙ length-replicate n false

      below : i < length marks
      below = let e = length-replicate n false in let r = ap length none_marked in omega arith

      unmarked : (k : ℕ) → get_or marks k false ≡ false
      unmarked k = ap (λ l. get_or l k false) none_marked ∙ all_false n k

      total : f.count + left f.marks.items ≡ 65536
      total =
          let e : left f.marks.items ≡ left (set marks i true) = ap left is in
          let g : left (set marks i true) + 1 ≡ left marks + 0 = one_less marks i below (unmarked i) in
          let r : left marks ≡ left (replicate n false) = ap left none_marked in
          let all : left (replicate n false) ≡ n * 1 = sum_by-replicate (λ b. cond b 0 1) n false in
          omega arith

      by : (x y : Modes) → IsTrue (is_within p q x) → IsTrue (is_within p q y) → IsTrue (is_marked f.marks.items x y) → (place x y ≡ i) ⊎ (place x y ≡ i → ⊥) → IsReached p q w x y
      by x y in_x in_y marked (inl e) = start_reached x y (place_same x y none none (few p q lawful lawful_too x in_x) (few p q lawful lawful_too y in_y) none_few none_few (e ∙ first))
      by x y in_x in_y marked (inr d) = absurd (no _ marked (ap (λ l. get_or l (place x y) false) is ∙ get_or-set_other marks i (place x y) true false d ∙ unmarked (place x y)))

  -- What is reached is marked.
  pub mark_passed : (f g : Found) (x y : Modes) → IsFound p q w f → IsTrue (is_within p q x) → IsTrue (is_within p q y) → IsReached p q w x y
      → is_marked f.marks.items x y ≡ false → g.marks.items ≡ set f.marks.items (place x y) true → g.count ≡ f.count + 1 → IsPassed p q w (λ m. IsTrue (is_marked m x y)) f g true
  mark_passed f g x y found in_x in_y reached unmarked is one = record {
    found = record {
      size = ap length is ∙ length-set f.marks.items (place x y) true ∙ found.size;
      some = omega arith;
      total = total;
      start = by_start (same_or_not 0 (place x y));
      reached = λ v u in_v in_u marked. by v u in_v in_u marked (same_or_not (place v u) (place x y));
    };
    more = omega arith;
    ends = λ e. absurd (cc);
    same = λ t e. absurd (omega arith);
  }
    where
      below : place x y < length f.marks.items
      below = let e = place_below x y (few p q lawful lawful_too x in_x) (few p q lawful lawful_too y in_y) in let z = found.size in omega arith

      total : g.count + left g.marks.items ≡ 65536
      total =
          let e : left g.marks.items ≡ left (set f.marks.items (place x y) true) = ap left is in
          let h : left (set f.marks.items (place x y) true) + 1 ≡ left f.marks.items + 0 = one_less f.marks.items (place x y) below unmarked in
          let z = found.total in
          omega arith

      by_start : (0 ≡ place x y) ⊎ (0 ≡ place x y → ⊥) → get_or g.marks.items 0 false ≡ true
      by_start (inl e) = ap (λ l. get_or l 0 false) is ∙ get_or-set_at f.marks.items (place x y) 0 true false e below
      by_start (inr d) = ap (λ l. get_or l 0 false) is ∙ get_or-set_other f.marks.items (place x y) 0 true false d ∙ found.start

      by : (v u : Modes) → IsTrue (is_within p q v) → IsTrue (is_within p q u) → IsTrue (is_marked g.marks.items v u) → (place v u ≡ place x y) ⊎ (place v u ≡ place x y → ⊥) → IsReached p q w v u
      by v u in_v in_u marked (inl e) =
          let z = place_same v u x y (few p q lawful lawful_too v in_v) (few p q lawful lawful_too u in_u) (few p q lawful lawful_too x in_x) (few p q lawful lawful_too y in_y) e in
          subst (λ a. IsReached p q w a u) (sym z.0) (subst (λ a. IsReached p q w x a) (sym z.1) reached)
      by v u in_v in_u marked (inr d) = found.reached v u in_v in_u (sym (ap (λ l. get_or l (place v u) false) is ∙ get_or-set_other f.marks.items (place x y) (place v u) true false d) ∙ marked)

module _ (p q : Protocol) (w : Coming) where
  -- The first alone, of what each closed set has, is had too.
  pub alone_reached : (x y : Modes) → IsReached p q w x y → IsReached p q w x none
  alone_reached x y reached has closed = closed.turn none x (closed.leave y x (closed.turn x y (reached has closed)))

  pub turned : (x y : Modes) → IsReached p q w x y → IsReached p q w y x
  turned x y reached has closed = closed.turn x y (reached has closed)

  pub ended : (x y : Modes) → IsReached p q w x y → IsReached p q w none y
  ended x y reached has closed = closed.leave x y (reached has closed)

  -- All that the set has is reached.
  pub has_reached : (f : Found) (x y : Modes) → IsFound p q w f → IsTrue (has p q f.marks.items x y) → IsReached p q w x y
  has_reached f x y found h =
      let a = and_parts (is_within p q x) _ h in
      let b = and_parts (is_within p q y) _ a.1 in
      let c = and_parts (is_marked f.marks.items x none) (is_marked f.marks.items x y) b.1 in
      found.reached x y a.0 b.0 c.1

  -- So is what follows a request that both tables grant.
  pub after_reached : (a : Ask) (x : Modes) → Comes w a.row a.side a.own.first a.next.first a.other.first → x ≡ after p q a.row a.side a.own a.next → answer p q a ≡ Some false → IsReached p q w a.own a.other → IsReached p q w a.next none → IsReached p q w x a.other
  after_reached a x may is granted reached alone has closed =
      subst (λ v. IsTrue (has v a.other)) (sym is) (closed.move a.row a.side a.own a.other a.next may (reached has closed) (alone has closed) (both _ _ granted))
    where
      both : (b c : Bool) → agreed b c ≡ Some false → b ≡ false
      both true true e = absurd (cc)
      both true false e = absurd (cc)
      both false true e = absurd (cc)
      both false false e = refl

  -- Where one table alone blocks a request, no set is closed.
  pub none_closed : (a : Ask) → Comes w a.row a.side a.own.first a.next.first a.other.first → answer p q a ≡ None → IsReached p q w a.own a.other → IsReached p q w a.next none → HasClosedSetFor p q (Comes w) → ⊥
  none_closed a may differs reached alone some =
      let closed = some.closed in
      neither _ _ differs (closed.answer a.row a.side a.own a.other a.next may (reached some.has closed) (alone some.has closed))
    where
      neither : (b c : Bool) → agreed b c ≡ None → b ≡ c → ⊥
      neither true true e f = cc
      neither true false e f = cc
      neither false true e f = cc
      neither false false e f = cc

  -- Parts of a pass --

  -- Nothing is new, and it is as it has to be.
  pub passed_none : (Met : List Bool → Type 0) (f : Found) → IsFound p q w f → Met f.marks.items → IsPassed p q w Met f f true
  passed_none Met f found met = record { found = found; more = omega arith; ends = λ e. absurd (cc); same = λ t e. (refl, met) }

  -- It ends, since no set is closed.
  pub passed_end : (Met : List Bool → Type 0) (f : Found) → IsFound p q w f → (HasClosedSetFor p q (Comes w) → ⊥) → IsPassed p q w Met f f false
  passed_end Met f found ends = record { found = found; more = omega arith; ends = λ e. ends; same = λ t e. absurd (cc) }

  -- One part after another.
  pub passed_then : (M N : List Bool → Type 0) (a b c : Found) (r : Bool) → IsPassed p q w M a b true → IsPassed p q w N b c r → IsPassed p q w (λ m. M m × N m) a c r
  passed_then M N a b c r one two =
      let le = one.more in
      let le_too = two.more in
      record {
        found = two.found;
        more = omega arith;
        ends = two.ends;
        same = λ t e.
            let z = one.same refl (omega arith) in
            let r = two.same t (omega arith) in
            (r.0 ∙ z.0, (z.1, subst N z.0 r.1));
      }

  -- What is met, in other words.
  pub passed_as : (M N : List Bool → Type 0) (a b : Found) (r : Bool) → ((m : List Bool) → M m → N m) → IsPassed p q w M a b r → IsPassed p q w N a b r
  passed_as M N a b r turn one = record { found = one.found; more = one.more; ends = one.ends; same = λ t e. let z = one.same t e in (z.0, turn a.marks.items z.1) }

  -- Where it ends, it matters not what was to be met.
  pub passed_ended : (M N : List Bool → Type 0) (a b : Found) → IsPassed p q w M a b false → IsPassed p q w N a b false
  passed_ended M N a b one = record { found = one.found; more = one.more; ends = one.ends; same = λ t e. absurd (cc) }

  -- One more of a loop.
  pub passed_more : (Met : List Bool → ℕ → Type 0) (i : ℕ) (a b c : Found) (r : Bool) → IsPassed p q w (λ m. (k : ℕ) → k < i → Met m k) a b true → IsPassed p q w (λ m. Met m i) b c r
      → IsPassed p q w (λ m. (k : ℕ) → k < i + 1 → Met m k) a c r
  passed_more Met i a b c r one two =
      passed_as _ _ a c r (λ m z. below_more (Met m) i z.0 z.1) (passed_then (λ m. (k : ℕ) → k < i → Met m k) (λ m. Met m i) a b c r one two)

  -- The loop goes on.
  pub passed_on : (Met : List Bool → ℕ → Type 0) (i : ℕ) (a b c : Found) (r : Bool) → r ≡ true → IsPassed p q w (λ m. (k : ℕ) → k < i → Met m k) a b true → IsPassed p q w (λ m. Met m i) b c r
      → IsPassed p q w (λ m. (k : ℕ) → k < i + 1 → Met m k) a c true
  passed_on Met i a b c r is one two = subst (λ r. IsPassed p q w (λ m. (k : ℕ) → k < i + 1 → Met m k) a c r) is (passed_more Met i a b c r one two)

  -- The last of all codes.
  pub passed_all : (Met : List Bool → ℕ → Type 0) (last : ℕ) (a b c : Found) (r : Bool) → 255 ≤ last → IsPassed p q w (λ m. (k : ℕ) → k < last → Met m k) a b true → IsPassed p q w (λ m. Met m last) b c r
      → IsPassed p q w (λ m. (k : ℕ) → k < 256 → Met m k) a c r
  passed_all Met last a b c r most one two =
      passed_as _ _ a c r (λ m z. all_codes (Met m) last most z.0 z.1) (passed_then (λ m. (k : ℕ) → k < last → Met m k) (λ m. Met m last) a b c r one two)

  -- What two transactions come to from what they hold.
  pub pair_passed : (a b c d e : Found) (r : Bool) (x y : Modes) → IsPassed p q w (λ m. IsTrue (has p q m y x)) a b true → IsPassed p q w (λ m. IsTrue (has p q m none y)) b c true
      → IsPassed p q w (λ m. (k : ℕ) → k < 12 → IsTrue (is_met p q w m (plain_ask x y k))) c d true → IsPassed p q w (λ m. (k : ℕ) → k < 256 → AreMovesMet p q w m x y (modes_of k)) d e r
      → IsPassed p q w (λ m. IsTrue (has p q m x y) → IsPairMet p q w m x y) a e r
  pair_passed a b c d e r x y one two three four =
      passed_as _ _ a e r (λ m z h. record { turn = z.0.0.0; leave = z.0.0.1; plain = z.0.1; moves = z.1 })
      (passed_then _ _ a d e r (passed_then _ _ a c d true (passed_then _ _ a b c true one two) three) four)

  -- Where a pass comes to its end, and each is met where nothing is new.
  abbrev pub IsPassing : ℕ → Found → Type 0
  IsPassing before f = IsFound p q w f × (before ≤ f.count) × (f.count ≡ before → (c : ℕ) → c < 256 → AreMetBeside p q w f.marks.items (modes_of c))

  -- A pass that nothing is new in.
  pub passing : (a b : Found) → IsPassed p q w (λ m. (c : ℕ) → c < 256 → AreMetBeside p q w m (modes_of c)) a b true → IsPassing a.count b
  passing a b one = (one.found, one.more, λ e. let z = one.same refl e in subst (λ m. (c : ℕ) → c < 256 → AreMetBeside p q w m (modes_of c)) (sym z.0) z.1)

  -- As many are marked as there are places, at most.
  pub count_below : (f : Found) → IsFound p q w f → f.count ≤ 65536
  count_below f found = let t = found.total in omega arith

  -- The set has that neither holds a lock.
  pub has_start : (f : Found) → IsFound p q w f → IsTrue (has p q f.marks.items none none)
  has_start f found = and_from _ _ (within_none p q) (and_from _ _ (within_none p q) (and_from _ _ found.start found.start))
