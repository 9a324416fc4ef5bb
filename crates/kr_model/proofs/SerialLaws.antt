-- The first difference is none exactly where the programs are serializable in commit order.
use Rattle.std.specs.Prelude.{◌≡◌, ℕ, suc, Bool, true, false, ◌&&◌, ◌==◌, cond, List, [], ◌∷◌, ◌++◌, Option, Some, None, refl, if◌then◌else◌}
use Rattle.std.proofs.Common.{sym, ◌∙◌, ap, arith}
use Rattle.std.proofs.lemmas.Bool.Decides.{nat_tests}
use Rattle.kr_model.specs.declared.Op.{Op}
use Rattle.kr_model.specs.declared.Reply.{Reply}
use Rattle.kr_model.specs.declared.Reply.TheVariants as reply
use Rattle.kr_model.specs.declared.Refusal.{Refusal}
use Rattle.kr_model.specs.declared.Refusal.TheVariants as refusal
use Rattle.kr_model.specs.Map.{Map}
use Rattle.kr_model.specs.Run.{Answered, Program}
use Rattle.kr_model.specs.Serial.{whole, AreAnswered, AreSerial, all_operations, map_left}
use Rattle.kr_model.specs.Difference.{same_numbers, same_pairs, same_reply, refusal_number, Difference, difference_in, or_else, first_difference}
use Rattle.kr_model.proofs.Tested.{and_first, and_second}

number_of_test : (a b : ℕ) → (a == b) ≡ true → a ≡ b
number_of_test a b h = grind (arith, nat_tests)

number_is : (a : ℕ) → (a == a) ≡ true
number_is a = grind (arith, nat_tests)

cons_is : {A : Type 0} (x y : A) (xs ys : List A) → x ≡ y → xs ≡ ys → x ∷ xs ≡ y ∷ ys
cons_is x y xs ys e f = cc

numbers_of_test : (a b : List ℕ) → same_numbers a b ≡ true → a ≡ b
numbers_of_test [] [] h = refl
numbers_of_test (x ∷ xs) (y ∷ ys) h = cons_is x y xs ys (number_of_test x y (and_first (x == y) (same_numbers xs ys) h)) (numbers_of_test xs ys (and_second (x == y) (same_numbers xs ys) h))
numbers_of_test [] (y ∷ ys) h = absurd (cc)
numbers_of_test (x ∷ xs) [] h = absurd (cc)

pair_of_test : (a b c d : ℕ) → ((a == c) && (b == d)) ≡ true → ◌≡◌ {A = ℕ × ℕ} (a, b) (c, d)
pair_of_test a b c d h = let e : a ≡ c = number_of_test a c (and_first (a == c) (b == d) h) in let f : b ≡ d = number_of_test b d (and_second (a == c) (b == d) h) in cc

pairs_of_test : (a b : List (ℕ × ℕ)) → same_pairs a b ≡ true → a ≡ b
pairs_of_test [] [] h = refl
pairs_of_test (x ∷ xs) (y ∷ ys) h =
    let t = (x.0 == y.0) && (x.1 == y.1) in
    cons_is x y xs ys (pair_of_test x.0 x.1 y.0 y.1 (and_first t (same_pairs xs ys) h)) (pairs_of_test xs ys (and_second t (same_pairs xs ys) h))
pairs_of_test [] (y ∷ ys) h = absurd (cc)
pairs_of_test (x ∷ xs) [] h = absurd (cc)

refusal_of_number : ℕ → Refusal
refusal_of_number n = if n == 1 then refusal.Ended else if n == 2 then refusal.Busy else if n == 3 then refusal.NoScan else if n == 4 then refusal.BadRange else if n == 5 then refusal.Full else if n == 7 then refusal.NoUpdate else if n == 8 then refusal.RollingBack else if n == 9 then refusal.NothingLeft else refusal.Memory

number_back : (r : Refusal) → refusal_of_number (refusal_number r) ≡ r
unfolding refusal_of_number
number_back refusal.Ended = refl
number_back refusal.Busy = refl
number_back refusal.NoScan = refl
number_back refusal.BadRange = refl
number_back refusal.Full = refl
number_back refusal.Memory = refl
number_back refusal.NoUpdate = refl
number_back refusal.RollingBack = refl
number_back refusal.NothingLeft = refl

refusal_of_test : (a b : Refusal) → (refusal_number a == refusal_number b) ≡ true → a ≡ b
refusal_of_test a b h = sym (number_back a) ∙ ap refusal_of_number (number_of_test (refusal_number a) (refusal_number b) h) ∙ number_back b

-- replies that are the same by the test are equal
pub reply_of_test : (a b : Reply) → same_reply a b ≡ true → a ≡ b
reply_of_test (reply.Found v) (reply.Found w) h = ap (λ x. reply.Found x) (number_of_test v w h)
reply_of_test reply.None reply.None h = refl
reply_of_test (reply.Going k) (reply.Going l) h = ap (λ x. reply.Going x) (number_of_test k l h)
reply_of_test (reply.Rows a) (reply.Rows b) h = ap (λ x. reply.Rows x) (pairs_of_test a b h)
reply_of_test reply.Done reply.Done h = refl
reply_of_test reply.Duplicate reply.Duplicate h = refl
reply_of_test (reply.Deleted v) (reply.Deleted w) h = ap (λ x. reply.Deleted x) (number_of_test v w h)
reply_of_test reply.Absent reply.Absent h = refl
reply_of_test (reply.Updated v) (reply.Updated w) h = ap (λ x. reply.Updated x) (number_of_test v w h)
reply_of_test reply.Committed reply.Committed h = refl
reply_of_test reply.Aborted reply.Aborted h = refl
reply_of_test (reply.Undone n) (reply.Undone l) h = ap (λ x. reply.Undone x) (number_of_test n l h)
reply_of_test (reply.Blocked a) (reply.Blocked b) h = ap (λ x. reply.Blocked x) (numbers_of_test a b h)
reply_of_test (reply.Refused a) (reply.Refused b) h = ap (λ x. reply.Refused x) (refusal_of_test a b h)
reply_of_test _ _ h = absurd (cc)

numbers_same : (a : List ℕ) → same_numbers a a ≡ true
numbers_same [] = refl
numbers_same (x ∷ xs) = ap (λ b. b && same_numbers xs xs) (number_is x) ∙ numbers_same xs

pairs_same : (a : List (ℕ × ℕ)) → same_pairs a a ≡ true
pairs_same [] = refl
pairs_same (x ∷ xs) = ap (λ b. (b && (x.1 == x.1)) && same_pairs xs xs) (number_is x.0) ∙ ap (λ b. b && same_pairs xs xs) (number_is x.1) ∙ pairs_same xs

-- a reply is the same as itself by the test
pub reply_same : (a : Reply) → same_reply a a ≡ true
reply_same (reply.Found v) = number_is v
reply_same reply.None = refl
reply_same (reply.Going k) = number_is k
reply_same (reply.Rows a) = pairs_same a
reply_same reply.Done = refl
reply_same reply.Duplicate = refl
reply_same (reply.Deleted v) = number_is v
reply_same reply.Absent = refl
reply_same (reply.Updated v) = number_is v
reply_same reply.Committed = refl
reply_same reply.Aborted = refl
reply_same (reply.Undone n) = number_is n
reply_same (reply.Blocked a) = numbers_same a
reply_same (reply.Refused a) = number_is (refusal_number a)

-- one program --

answered_here : (t : ℕ) (m : Map) (n : ℕ) (o : Op) (a : Reply) (rest : List Answered) (b : Bool) → same_reply a (whole m o).0 ≡ b
    → cond b (difference_in t (whole m o).1 (suc n) rest) (Some (record { txn = t; operation = n; given = a; serial = (whole m o).0 })) ≡ None
    → (difference_in t (whole m o).1 (suc n) rest ≡ None → AreAnswered (whole m o).1 rest) → (a ≡ (whole m o).0) × AreAnswered (whole m o).1 rest
answered_here t m n o a rest true e h rec = (reply_of_test a (whole m o).0 e, rec h)
answered_here t m n o a rest false e h rec = absurd (cc)

-- where no answer differs, all are those of the whole operations
pub answered_if : (t : ℕ) (m : Map) (n : ℕ) (os : List Answered) → difference_in t m n os ≡ None → AreAnswered m os
answered_if t m n [] h = tt
answered_if t m n ((o, a) ∷ rest) h = answered_here t m n o a rest (same_reply a (whole m o).0) refl h (λ g. answered_if t (whole m o).1 (suc n) rest g)

-- where all answers are those of the whole operations, none differs
pub no_difference : (t : ℕ) (m : Map) (n : ℕ) (os : List Answered) → AreAnswered m os → difference_in t m n os ≡ None
no_difference t m n [] h = refl
no_difference t m n ((o, a) ∷ rest) h =
    ap (λ b. cond b (difference_in t (whole m o).1 (suc n) rest) (Some (record { txn = t; operation = n; given = a; serial = (whole m o).0 }))) (ap (λ x. same_reply x (whole m o).0) h.0 ∙ reply_same (whole m o).0)
    ∙ no_difference t (whole m o).1 (suc n) rest h.1

-- all programs --

-- programs put together are answered one after another
pub answered_append : (m : Map) (xs ys : List Answered) → AreAnswered m xs → AreAnswered (map_left m xs) ys → AreAnswered m (xs ++ ys)
answered_append m [] ys h g = g
answered_append m ((o, a) ∷ xs) ys h g = (h.0, answered_append (whole m o).1 xs ys h.1 g)

-- and so is each part of programs that are
pub answered_front : (m : Map) (xs ys : List Answered) → AreAnswered m (xs ++ ys) → AreAnswered m xs
answered_front m [] ys h = tt
answered_front m ((o, a) ∷ xs) ys h = (h.0, answered_front (whole m o).1 xs ys h.1)

pub answered_back : (m : Map) (xs ys : List Answered) → AreAnswered m (xs ++ ys) → AreAnswered (map_left m xs) ys
answered_back m [] ys h = h
answered_back m ((o, a) ∷ xs) ys h = answered_back (whole m o).1 xs ys h.1

-- the map that operations leave is that which the later leave after the earlier
pub map_left-append : (m : Map) (xs ys : List Answered) → map_left m (xs ++ ys) ≡ map_left (map_left m xs) ys
map_left-append m [] ys = refl
map_left-append m ((o, a) ∷ xs) ys = map_left-append (whole m o).1 xs ys

or_first : (a b : Option Difference) → or_else a b ≡ None → a ≡ None
or_first (Some d) b h = absurd (cc)
or_first None b h = refl

or_second : (a b : Option Difference) → or_else a b ≡ None → b ≡ None
or_second (Some d) b h = absurd (cc)
or_second None b h = h

-- programs without a first difference are serializable in commit order
pub serial_if : (m : Map) (ps : List Program) → first_difference m ps ≡ None → AreSerial m ps
serial_if m [] h = tt
serial_if m (q ∷ qs) h =
    let d = difference_in q.txn m 1 q.operations in
    let f = first_difference (map_left m q.operations) qs in
    answered_append m q.operations (all_operations qs) (answered_if q.txn m 1 q.operations (or_first d f h)) (serial_if (map_left m q.operations) qs (or_second d f h))

-- programs that are serializable in commit order have no first difference
pub none_if_serial : (m : Map) (ps : List Program) → AreSerial m ps → first_difference m ps ≡ None
none_if_serial m [] h = refl
none_if_serial m (q ∷ qs) h =
    ap (λ x. or_else x (first_difference (map_left m q.operations) qs)) (no_difference q.txn m 1 q.operations (answered_front m q.operations (all_operations qs) h))
    ∙ none_if_serial (map_left m q.operations) qs (answered_back m q.operations (all_operations qs) h)
