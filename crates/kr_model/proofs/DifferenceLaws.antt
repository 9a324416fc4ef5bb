-- The first difference, where there is one, is what it is said to be, and nothing else is.
use Rattle.std.specs.Prelude.{◌≡◌, ℕ, suc, Bool, true, false, cond, List, [], ◌∷◌, ◌++◌, Option, Some, None, refl, length, ◌+◌, unwrap_or}
use Rattle.std.proofs.Common.{sym, ◌∙◌, ap, ap₂, subst, arith, append_assoc}
use Rattle.kr_model.specs.declared.Op.{Op}
use Rattle.kr_model.specs.declared.Reply.{Reply}
use Rattle.kr_model.specs.Map.{Map}
use Rattle.kr_model.specs.Run.{Answered, Program}
use Rattle.kr_model.specs.Serial.{whole, AreAnswered, all_operations, map_left}
use Rattle.kr_model.specs.Difference.{same_reply, Difference, difference_in, or_else, first_difference, IsFirstDifference}
use Rattle.kr_model.proofs.SerialLaws.{reply_of_test, reply_same, answered_if, no_difference, answered_append, answered_front, answered_back, map_left-append}

some_is : {A : Type 0} (x y : A) → Some x ≡ Some y → x ≡ y
some_is x y e = ap (λ o. unwrap_or o x) e

-- what the first difference of one program is, of which the operations are numbered from n
record IsFirstIn (t : ℕ) (m : Map) (n : ℕ) (os : List Answered) (d : Difference) : Type 0 where
  done : List Answered
  op : Op
  rest : List Answered
  place : os ≡ done ++ (op, d.given) ∷ rest
  whose : t ≡ d.txn
  numbered : d.operation ≡ n + length done
  answered : AreAnswered m done
  whole_answer : d.serial ≡ (whole (map_left m done) op).0
  differs : d.given ≡ d.serial → ⊥

false_not_true : false ≡ true → ⊥
false_not_true e = cc

one_later : (a n l : ℕ) → a ≡ suc n + l → a ≡ n + suc l
one_later a n l e = omega arith

first_here : (t : ℕ) (m : Map) (n : ℕ) (o : Op) (a : Reply) (rest : List Answered) (d : Difference) (b : Bool) → same_reply a (whole m o).0 ≡ b
    → cond b (difference_in t (whole m o).1 (suc n) rest) (Some (record { txn = t; operation = n; given = a; serial = (whole m o).0 })) ≡ Some d
    → (difference_in t (whole m o).1 (suc n) rest ≡ Some d → IsFirstIn t (whole m o).1 (suc n) rest d) → IsFirstIn t m n ((o, a) ∷ rest) d
first_here t m n o a rest d true e h later =
    let f = later h in
    record {
      done = (o, a) ∷ f.done;
      op = f.op;
      rest = f.rest;
      place = ap (λ l. (o, a) ∷ l) f.place;
      whose = f.whose;
      numbered = one_later d.operation n (length f.done) f.numbered;
      answered = (reply_of_test a (whole m o).0 e, f.answered);
      whole_answer = f.whole_answer;
      differs = f.differs;
    }
first_here t m n o a rest d false e h later =
    let here : Difference = record { txn = t; operation = n; given = a; serial = (whole m o).0 } in
    subst (λ x. IsFirstIn t m n ((o, a) ∷ rest) x) (some_is here d h) (record {
      done = [];
      op = o;
      rest = rest;
      place = refl;
      whose = refl;
      numbered = omega arith;
      answered = tt;
      whole_answer = refl;
      differs = λ same. false_not_true (sym e ∙ ap (λ x. same_reply x (whole m o).0) same ∙ reply_same (whole m o).0);
    })

first_in : (t : ℕ) (m : Map) (n : ℕ) (os : List Answered) (d : Difference) → difference_in t m n os ≡ Some d → IsFirstIn t m n os d
first_in t m n [] d h = absurd (cc)
first_in t m n ((o, a) ∷ rest) d h = first_here t m n o a rest d (same_reply a (whole m o).0) refl h (λ g. first_in t (whole m o).1 (suc n) rest d g)

from_one : (n l : ℕ) → n ≡ 1 + l → n ≡ l + 1
from_one n l e = omega arith

first_of : (m : Map) (q : Program) (qs : List Program) (d : Difference) (x : Option Difference) → difference_in q.txn m 1 q.operations ≡ x
    → or_else x (first_difference (map_left m q.operations) qs) ≡ Some d
    → (first_difference (map_left m q.operations) qs ≡ Some d → IsFirstDifference (map_left m q.operations) qs d) → IsFirstDifference m (q ∷ qs) d
first_of m q qs d (Some e) is h later =
    let f = first_in q.txn m 1 q.operations d (is ∙ h) in
    record {
      before = [];
      done = f.done;
      op = f.op;
      rest = f.rest;
      after = qs;
      place = ap₂ (λ t os. let p : Program = record { txn = t; operations = os } in p ∷ qs) f.whose f.place;
      numbered = from_one d.operation (length f.done) f.numbered;
      answered = f.answered;
      whole_answer = f.whole_answer;
      differs = f.differs;
    }
first_of m q qs d None is h later =
    let f = later h in
    let mine = q.operations in
    let others = all_operations f.before ++ f.done in
    let joined : mine ++ others ≡ all_operations (q ∷ f.before) ++ f.done = sym (append_assoc mine (all_operations f.before) f.done) in
    record {
      before = q ∷ f.before;
      done = f.done;
      op = f.op;
      rest = f.rest;
      after = f.after;
      place = ap (λ l. q ∷ l) f.place;
      numbered = f.numbered;
      answered = subst (λ l. AreAnswered m l) joined (answered_append m mine others (answered_if q.txn m 1 mine is) f.answered);
      whole_answer = f.whole_answer ∙ ap (λ z. (whole z f.op).0) (sym (map_left-append m mine others) ∙ ap (map_left m) joined);
      differs = f.differs;
    }

-- the first difference, where there is one, is what it is said to be
pub difference_is_first : (m : Map) (ps : List Program) (d : Difference) → first_difference m ps ≡ Some d → IsFirstDifference m ps d
difference_is_first m [] d h = absurd (cc)
difference_is_first m (q ∷ qs) d h = first_of m q qs d (difference_in q.txn m 1 q.operations) refl h (λ g. difference_is_first (map_left m q.operations) qs d g)

-- nothing else is --

told_apart : (a b : Reply) → (a ≡ b → ⊥) → (x : Bool) → same_reply a b ≡ x → x ≡ false
told_apart a b d true e = absurd (d (reply_of_test a b e))
told_apart a b d false e = refl

only_in : (d : Difference) (m : Map) (n : ℕ) (done : List Answered) (o : Op) (rest : List Answered) → d.operation ≡ n + length done → AreAnswered m done → d.serial ≡ (whole (map_left m done) o).0 → (d.given ≡ d.serial → ⊥)
    → difference_in d.txn m n (done ++ (o, d.given) ∷ rest) ≡ Some d
only_in d m n [] o rest numbered answered is differs =
    let w = (whole m o).0 in
    let at_n : n ≡ d.operation = omega arith in
    ap (λ b. cond b (difference_in d.txn (whole m o).1 (suc n) rest) (Some (record { txn = d.txn; operation = n; given = d.given; serial = w })))
    (told_apart d.given w (λ e. differs (e ∙ sym is)) (same_reply d.given w) refl)
    ∙ ap₂ (λ k x. Some (let e : Difference = record { txn = d.txn; operation = k; given = d.given; serial = x } in e)) at_n (sym is)
only_in d m n ((p, a) ∷ done) o rest numbered answered is differs =
    let w = whole m p in
    ap (λ b. cond b (difference_in d.txn w.1 (suc n) (done ++ (o, d.given) ∷ rest)) (Some (record { txn = d.txn; operation = n; given = a; serial = w.0 })))
    (ap (λ x. same_reply x w.0) answered.0 ∙ reply_same w.0)
    ∙ only_in d w.1 (suc n) done o rest (omega arith) answered.1 is differs

only_of : (d : Difference) (m : Map) (before : List Program) (done : List Answered) (o : Op) (rest : List Answered) (after : List Program) → d.operation ≡ length done + 1
    → AreAnswered m (all_operations before ++ done) → d.serial ≡ (whole (map_left m (all_operations before ++ done)) o).0 → (d.given ≡ d.serial → ⊥)
    → first_difference m (before ++ (record { txn = d.txn; operations = done ++ (o, d.given) ∷ rest }) ∷ after) ≡ Some d
only_of d m [] done o rest after numbered answered is differs =
    ap (λ x. or_else x (first_difference (map_left m (done ++ (o, d.given) ∷ rest)) after)) (only_in d m 1 done o rest (omega arith) answered is differs)
only_of d m (q ∷ qs) done o rest after numbered answered is differs =
    let mine = q.operations in
    let others = all_operations qs ++ done in
    let joined : all_operations (q ∷ qs) ++ done ≡ mine ++ others = append_assoc mine (all_operations qs) done in
    let both = subst (λ l. AreAnswered m l) joined answered in
    let later : List Program = qs ++ (record { txn = d.txn; operations = done ++ (o, d.given) ∷ rest }) ∷ after in
    ap (λ x. or_else x (first_difference (map_left m mine) later)) (no_difference q.txn m 1 mine (answered_front m mine others both))
    ∙ only_of d (map_left m mine) qs done o rest after numbered (answered_back m mine others both) (is ∙ ap (λ z. (whole z o).0) (ap (map_left m) joined ∙ map_left-append m mine others)) differs

-- what is said to be the first difference is it
pub first_is_difference : (m : Map) (ps : List Program) (d : Difference) → IsFirstDifference m ps d → first_difference m ps ≡ Some d
first_is_difference m ps d f = ap (first_difference m) f.place ∙ only_of d m f.before f.done f.op f.rest f.after f.numbered f.answered f.whole_answer f.differs
