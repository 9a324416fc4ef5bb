-- The first answer of committed programs that isn't that of the serial run.
use Rattle.std.specs.Prelude.{◌≡◌, ℕ, suc, ◌+◌, Bool, true, false, ◌&&◌, ◌==◌, List, [], ◌∷◌, ◌++◌, Option, Some, None, if◌then◌else◌, length}
use Rattle.kr_model.specs.declared.Op.{Op}
use Rattle.kr_model.specs.declared.Reply.{Reply}
use Rattle.kr_model.specs.declared.Reply.TheVariants as reply
use Rattle.kr_model.specs.declared.Refusal.{Refusal}
use Rattle.kr_model.specs.declared.Refusal.TheVariants as refusal
use Rattle.kr_model.specs.Map.{Map}
use Rattle.kr_model.specs.Run.{Answered, Program}
use Rattle.kr_model.specs.Serial.{whole, all_operations, AreAnswered, map_left}

-- Whether two lists of numbers are the same.
abbrev pub same_numbers : List ℕ → List ℕ → Bool
same_numbers [] [] = true
same_numbers (x ∷ xs) (y ∷ ys) = (x == y) && same_numbers xs ys
same_numbers [] (y ∷ ys) = false
same_numbers (x ∷ xs) [] = false

-- Whether two lists of pairs are the same.
abbrev pub same_pairs : List (ℕ × ℕ) → List (ℕ × ℕ) → Bool
same_pairs [] [] = true
same_pairs (x ∷ xs) (y ∷ ys) = ((x.0 == y.0) && (x.1 == y.1)) && same_pairs xs ys
same_pairs [] (y ∷ ys) = false
same_pairs (x ∷ xs) [] = false

-- The number that a report gives a refusal.
abbrev pub refusal_number : Refusal → ℕ
refusal_number refusal.Ended = 1
refusal_number refusal.Busy = 2
refusal_number refusal.NoScan = 3
refusal_number refusal.BadRange = 4
refusal_number refusal.Full = 5
refusal_number refusal.Memory = 6
refusal_number refusal.NoUpdate = 7
refusal_number refusal.RollingBack = 8
refusal_number refusal.NothingLeft = 9

-- Whether two replies are the same.
abbrev pub same_reply : Reply → Reply → Bool
same_reply (reply.Found v) (reply.Found w) = v == w
same_reply reply.None reply.None = true
same_reply (reply.Going k) (reply.Going l) = k == l
same_reply (reply.Rows a) (reply.Rows b) = same_pairs a b
same_reply reply.Done reply.Done = true
same_reply reply.Duplicate reply.Duplicate = true
same_reply (reply.Deleted v) (reply.Deleted w) = v == w
same_reply reply.Absent reply.Absent = true
same_reply (reply.Updated v) (reply.Updated w) = v == w
same_reply reply.Committed reply.Committed = true
same_reply reply.Aborted reply.Aborted = true
same_reply (reply.Undone n) (reply.Undone l) = n == l
same_reply (reply.Blocked a) (reply.Blocked b) = same_numbers a b
same_reply (reply.Refused a) (reply.Refused b) = refusal_number a == refusal_number b
same_reply _ _ = false

-- An answer that differs: whose, the number of the operation in its program from 1, the answer given, and that of the whole operation.
pub record Difference : Type 0 where
  pub txn : ℕ
  pub operation : ℕ
  pub given : Reply
  pub serial : Reply

-- The first answer of t that differs, of operations numbered from n that run from m.
abbrev pub difference_in : ℕ → Map → ℕ → List Answered → Option Difference
difference_in t m n [] = None
difference_in t m n ((o, a) ∷ rest) =
    if same_reply a (whole m o).0 then difference_in t (whole m o).1 (suc n) rest
    else Some (record { txn = t; operation = n; given = a; serial = (whole m o).0 })

-- The first difference, or else the other.
abbrev pub or_else : Option Difference → Option Difference → Option Difference
or_else (Some d) other = Some d
or_else None other = other

-- The first answer in commit order that differs from that of the serial run; there is none exactly where the programs are serializable in commit order.
abbrev pub first_difference : Map → List Program → Option Difference
first_difference m [] = None
first_difference m (q ∷ qs) = or_else (difference_in q.txn m 1 q.operations) (first_difference (map_left m q.operations) qs)

-- What a first difference is, said by itself: the answer given to an operation isn't that of the operation run whole, and each answer before it, in commit order, is.
pub record IsFirstDifference (m : Map) (ps : List Program) (d : Difference) : Type 0 where
  -- the programs before its own, the operations before it in its own, the operation, and what comes after
  pub before : List Program
  pub done : List Answered
  pub op : Op
  pub rest : List Answered
  pub after : List Program
  pub place : ps ≡ before ++ (record { txn = d.txn; operations = done ++ (op, d.given) ∷ rest }) ∷ after
  pub numbered : d.operation ≡ length done + 1
  pub answered : AreAnswered m (all_operations before ++ done)
  pub whole_answer : d.serial ≡ (whole (map_left m (all_operations before ++ done)) op).0
  pub differs : d.given ≡ d.serial → ⊥
