-- Judging programs by what was given of their answers.
use Rattle.std.specs.Prelude.{◌≡◌, ℕ, suc, ◌+◌, Bool, true, false, cond, List, [], ◌∷◌, ◌++◌, Option, Some, None, length, refl, unwrap_or}
use Rattle.std.specs.List.{flat_map}
use Rattle.std.proofs.Common.{sym, ◌∙◌, ap, ap₂, subst, arith, get_or, drop, ◌<◌}
use Rattle.std.proofs.Math.Seq.{drop-cons}
use Rattle.kr_model.specs.declared.Op.{Op}
use Rattle.kr_model.specs.declared.Reply.{Reply}
use Rattle.kr_model.specs.Map.{Map}
use Rattle.kr_model.specs.Serial.{whole}
use Rattle.kr_trace_lines.specs.declared.observed.Observed.{Observed}
use Rattle.kr_trace_lines.specs.Fits.{fits}
use Rattle.kr_trace_follow.specs.declared.judge.Difference.{Difference}
use Rattle.kr_trace_follow.specs.Given.{Given, AreAnsweredWhereGiven, AreSerialWhereGiven, map_after, difference_at, or_later, difference_in, NoneDiffers, IsFirstDifference}

-- One operation more: the first difference so far, and those of the rest.
pub one_more : (first here later : Option Difference) → or_later (or_later first here) later ≡ or_later first (or_later here later)
one_more (Some d) here later = refl
one_more None here later = refl

pub or_nothing : (first : Option Difference) → or_later first None ≡ first
or_nothing (Some d) = refl
or_nothing None = refl

-- One operation of a program is judged.
module _ (m after : Map) (i : ℕ) (xs : List Given) (y : Given) (lt : i < length xs) (here : get_or xs i y ≡ y) (left : after ≡ (whole m y.0).1) where
  next : drop i xs ≡ y ∷ drop (suc i) xs
  next = drop-cons xs i y lt ∙ ap (λ z. z ∷ drop (suc i) xs) here

  more_judged : (first now later all : Option Difference) (serial : Reply) → serial ≡ (whole m y.0).0 → later ≡ difference_at (suc i) serial y.1 → now ≡ or_later first later
      → or_later first (difference_in m (suc i) (drop i xs)) ≡ all → or_later now (difference_in after (suc (suc i)) (drop (suc i) xs)) ≡ all
  more_judged first now later all serial serial_is later_is now_is h =
      ap₂ (λ u v. or_later u (difference_in v (suc (suc i)) (drop (suc i) xs))) (now_is ∙ ap (λ z. or_later first z) (later_is ∙ ap (λ r. difference_at (suc i) r y.1) serial_is)) left
      ∙ one_more first (difference_at (suc i) (whole m y.0).0 y.1) (difference_in (whole m y.0).1 (suc (suc i)) (drop (suc i) xs))
      ∙ ap (λ l. or_later first (difference_in m (suc i) l)) (sym next)
      ∙ h

  -- The same, by the number of the next operation.
  pub judged_more : (j : ℕ) → j ≡ suc i → (first now later all : Option Difference) (serial : Reply) → serial ≡ (whole m y.0).0 → later ≡ difference_at j serial y.1 → now ≡ or_later first later
      → or_later first (difference_in m (suc i) (drop i xs)) ≡ all → or_later now (difference_in after (suc j) (drop j xs)) ≡ all
  judged_more j is first now later all serial serial_is later_is now_is h =
      subst (λ k. or_later now (difference_in after (suc k) (drop k xs)) ≡ all) (sym is)
      (more_judged first now later all serial serial_is (later_is ∙ ap (λ k. difference_at k serial y.1) is) now_is h)

  -- What is left to run.
  pub left_more : (j : ℕ) → j ≡ suc i → (all : Map) → map_after m (drop i xs) ≡ all → map_after after (drop j xs) ≡ all
  left_more j is all h = ap₂ (λ k z. map_after z (drop k xs)) is left ∙ ap (map_after m) (sym next) ∙ h

-- One program --

false_not_true : false ≡ true → ⊥
false_not_true e = cc

some_is : (x y : Difference) → Some x ≡ Some y → x ≡ y
some_is x y e = ap (λ o. unwrap_or o x) e

answered_here : (m : Map) (n : ℕ) (o : Op) (a : Observed) (rest : List Given) (b : Bool) → fits (whole m o).0 a ≡ b
    → or_later (cond b None (Some (record { operation = n; serial = (whole m o).0 }))) (difference_in (whole m o).1 (suc n) rest) ≡ None
    → (difference_in (whole m o).1 (suc n) rest ≡ None → AreAnsweredWhereGiven (whole m o).1 rest) → AreAnsweredWhereGiven m ((o, a) ∷ rest)
answered_here m n o a rest true e h later = (e, later h)
answered_here m n o a rest false e h later = absurd (cc)

pub answered_if : (m : Map) (n : ℕ) (os : List Given) → difference_in m n os ≡ None → AreAnsweredWhereGiven m os
answered_if m n [] h = tt
answered_if m n ((o, a) ∷ rest) h = answered_here m n o a rest (fits (whole m o).0 a) refl h (λ g. answered_if (whole m o).1 (suc n) rest g)

pub no_difference : (m : Map) (n : ℕ) (os : List Given) → AreAnsweredWhereGiven m os → difference_in m n os ≡ None
no_difference m n [] h = refl
no_difference m n ((o, a) ∷ rest) h =
    ap (λ b. or_later (cond b None (Some (record { operation = n; serial = (whole m o).0 }))) (difference_in (whole m o).1 (suc n) rest)) h.0
    ∙ no_difference (whole m o).1 (suc n) rest h.1

-- what the first difference is of operations that are numbered from n
record IsFirstIn (m : Map) (n : ℕ) (os : List Given) (d : Difference) : Type 0 where
  before : List Given
  op : Op
  answer : Observed
  rest : List Given
  place : os ≡ before ++ (op, answer) ∷ rest
  numbered : d.operation ≡ n + length before
  answered : AreAnsweredWhereGiven m before
  whole_answer : d.serial ≡ (whole (map_after m before) op).0
  differs : fits d.serial answer ≡ false

one_later : (a n l : ℕ) → a ≡ suc n + l → a ≡ n + suc l
one_later a n l e = omega arith

first_here : (m : Map) (n : ℕ) (o : Op) (a : Observed) (rest : List Given) (d : Difference) (b : Bool) → fits (whole m o).0 a ≡ b
    → or_later (cond b None (Some (record { operation = n; serial = (whole m o).0 }))) (difference_in (whole m o).1 (suc n) rest) ≡ Some d
    → (difference_in (whole m o).1 (suc n) rest ≡ Some d → IsFirstIn (whole m o).1 (suc n) rest d) → IsFirstIn m n ((o, a) ∷ rest) d
first_here m n o a rest d true e h later =
    let f = later h in
    record {
      before = (o, a) ∷ f.before;
      op = f.op;
      answer = f.answer;
      rest = f.rest;
      place = ap (λ l. (o, a) ∷ l) f.place;
      numbered = one_later d.operation n (length f.before) f.numbered;
      answered = (e, f.answered);
      whole_answer = f.whole_answer;
      differs = f.differs;
    }
first_here m n o a rest d false e h later =
    let here : Difference = record { operation = n; serial = (whole m o).0 } in
    subst (λ x. IsFirstIn m n ((o, a) ∷ rest) x) (some_is here d h) (record {
      before = [];
      op = o;
      answer = a;
      rest = rest;
      place = refl;
      numbered = omega arith;
      answered = tt;
      whole_answer = refl;
      differs = e;
    })

first_in : (m : Map) (n : ℕ) (os : List Given) (d : Difference) → difference_in m n os ≡ Some d → IsFirstIn m n os d
first_in m n [] d h = absurd (cc)
first_in m n ((o, a) ∷ rest) d h = first_here m n o a rest d (fits (whole m o).0 a) refl h (λ g. first_in (whole m o).1 (suc n) rest d g)

from_one : (n l : ℕ) → n ≡ 1 + l → n ≡ l + 1
from_one n l e = omega arith

pub difference_is_first : (m : Map) (os : List Given) (d : Difference) → difference_in m 1 os ≡ Some d → IsFirstDifference m os d
difference_is_first m os d h =
    let f = first_in m 1 os d h in
    record {
      before = f.before;
      op = f.op;
      answer = f.answer;
      rest = f.rest;
      place = f.place;
      numbered = from_one d.operation (length f.before) f.numbered;
      answered = f.answered;
      whole_answer = f.whole_answer;
      differs = f.differs;
    }

only_in : (d : Difference) (m : Map) (n : ℕ) (before : List Given) (o : Op) (a : Observed) (rest : List Given) → d.operation ≡ n + length before → AreAnsweredWhereGiven m before
    → d.serial ≡ (whole (map_after m before) o).0 → fits d.serial a ≡ false → difference_in m n (before ++ (o, a) ∷ rest) ≡ Some d
only_in d m n [] o a rest numbered answered is differs =
    let at_n : n ≡ d.operation = omega arith in
    ap (λ b. or_later (cond b None (Some (record { operation = n; serial = (whole m o).0 }))) (difference_in (whole m o).1 (suc n) rest)) (ap (λ r. fits r a) (sym is) ∙ differs)
    ∙ ap₂ (λ k x. Some (let e : Difference = record { operation = k; serial = x } in e)) at_n (sym is)
only_in d m n ((p, b) ∷ before) o a rest numbered answered is differs =
    ap (λ x. or_later (cond x None (Some (record { operation = n; serial = (whole m p).0 }))) (difference_in (whole m p).1 (suc n) (before ++ (o, a) ∷ rest))) answered.0
    ∙ only_in d (whole m p).1 (suc n) before o a rest (omega arith) answered.1 is differs

pub first_is_difference : (m : Map) (os : List Given) (d : Difference) → IsFirstDifference m os d → difference_in m 1 os ≡ Some d
first_is_difference m os d f =
    ap (λ l. difference_in m 1 l) f.place
    ∙ only_in d m 1 f.before f.op f.answer f.rest (let n : d.operation ≡ length f.before + 1 = f.numbered in omega arith) f.answered f.whole_answer f.differs

-- Programs --

pub given_append : (m : Map) (xs ys : List Given) → AreAnsweredWhereGiven m xs → AreAnsweredWhereGiven (map_after m xs) ys → AreAnsweredWhereGiven m (xs ++ ys)
given_append m [] ys h g = g
given_append m ((o, a) ∷ xs) ys h g = (h.0, given_append (whole m o).1 xs ys h.1 g)

given_front : (m : Map) (xs ys : List Given) → AreAnsweredWhereGiven m (xs ++ ys) → AreAnsweredWhereGiven m xs
given_front m [] ys h = tt
given_front m ((o, a) ∷ xs) ys h = (h.0, given_front (whole m o).1 xs ys h.1)

given_back : (m : Map) (xs ys : List Given) → AreAnsweredWhereGiven m (xs ++ ys) → AreAnsweredWhereGiven (map_after m xs) ys
given_back m [] ys h = h
given_back m ((o, a) ∷ xs) ys h = given_back (whole m o).1 xs ys h.1

pub one_more_program : (m : Map) (os : List Given) (ps : List (List Given)) → AreAnsweredWhereGiven m os → AreSerialWhereGiven (map_after m os) ps → AreSerialWhereGiven m (os ∷ ps)
one_more_program m os ps h g = given_append m os (flat_map (λ p. p) ps) h g

pub first_program : (m : Map) (os : List Given) (ps : List (List Given)) → AreSerialWhereGiven m (os ∷ ps) → AreAnsweredWhereGiven m os
first_program m os ps h = given_front m os (flat_map (λ p. p) ps) h

pub other_programs : (m : Map) (os : List Given) (ps : List (List Given)) → AreSerialWhereGiven m (os ∷ ps) → AreSerialWhereGiven (map_after m os) ps
other_programs m os ps h = given_back m os (flat_map (λ p. p) ps) h

-- The judge finds no difference exactly where the programs are serializable in commit order as far as they were given.
pub none_differs : (m : Map) (ps : List (List Given)) → AreSerialWhereGiven m ps → NoneDiffers m ps
none_differs m [] h = tt
none_differs m (os ∷ ps) h = (no_difference m 1 os (first_program m os ps h), none_differs (map_after m os) ps (other_programs m os ps h))

pub differs_none : (m : Map) (ps : List (List Given)) → NoneDiffers m ps → AreSerialWhereGiven m ps
differs_none m [] h = tt
differs_none m (os ∷ ps) h = one_more_program m os ps (answered_if m 1 os h.0) (differs_none (map_after m os) ps h.1)
