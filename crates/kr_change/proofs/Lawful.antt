-- A protocol with one entry changed keeps the laws.
use Rattle.std.specs.Prelude.{◌≡◌, ℕ, ◌≤◌, ◌<◌, ◌&&◌, ◌||◌, ◌==◌, nat_lt, nat_le, Bool, true, false, cond, Option, Some, None, is_none, refl}
use Rattle.std.proofs.Common.{sym, ap, subst, ◌∙◌, arith}
use Rattle.std.proofs.lemmas.Bool.Decides.{nat_tests}
use Rattle.kr_model.specs.declared.Row.{Row}
use Rattle.kr_model.specs.declared.Row.TheVariants.{FetchHit, FetchMiss, ScanKey, ScanStop, Insert, Delete, Update}
use Rattle.kr_model.specs.declared.Side.{Side}
use Rattle.kr_model.specs.declared.Span.{Span}
use Rattle.kr_model.specs.Protocol.{Protocol, IsLawful, IsMode, MovesNoKey}
use Rattle.kr_model.proofs.Tested.{and_first, and_second}
use Rattle.kr_change.specs.declared.change.GhostRow.{GhostRow}
use Rattle.kr_change.specs.declared.change.Change.{Change}
use Rattle.kr_change.specs.declared.change.Change.TheVariants.{Request, GhostRequest, Convert, Heir, Compatible}
use Rattle.kr_model.specs.Words.{row_number, side_number}
use Rattle.kr_change.specs.Changes.{changed, is_change, is_mode, is_request, is_offered, has_side, is_same_place, concerns, moves_keys}

-- 0 is no mode
none_is_not : (m : ℕ) → 0 < m → (0 == m) ≡ false
none_is_not m some = grind (arith, nat_tests)

and_false : (a b : Bool) → b ≡ false → (a && b) ≡ false
and_false true b e = e
and_false false b e = refl

true_not_false : (b : Bool) → b ≡ true → b ≡ false → ⊥
true_not_false b t f = absurd (cc)

-- the mode that is requested, or 0
abbrev mode_in : Option (ℕ × Span) → ℕ
mode_in None = 0
mode_in (Some (q, span)) = q

-- a number that passes the test is a mode
some_by_test : (m : ℕ) → nat_lt 0 m ≡ true → 0 < m
some_by_test m h = grind (arith, nat_tests)

pub low_by_test : (m n : ℕ) → nat_le m n ≡ true → m ≤ n
low_by_test m n h = grind (arith, nat_tests)

pub mode_by_test : (p : Protocol) (m : ℕ) → is_mode p m ≡ true → IsMode p m
mode_by_test p m h = record {
  some = some_by_test m (and_first (nat_lt 0 m) (nat_le m p.count) h);
  in_range = low_by_test m p.count (and_second (nat_lt 0 m) (nat_le m p.count) h);
}

-- a mode of p is one of the changed p, and the other way round
pub to_changed : (p : Protocol) (c : Change) (m : ℕ) → IsMode p m → IsMode (changed p c) m
to_changed p c m is = record { some = is.some; in_range = is.in_range }

from_changed : (p : Protocol) (c : Change) (m : ℕ) → IsMode (changed p c) m → IsMode p m
from_changed p c m is = record { some = is.some; in_range = is.in_range }

-- Asks --

-- what is requested is a mode, whichever of two is requested
pub asked_is_mode : (p : Protocol) (b : Bool) (q : ℕ) (s : Span) (one other : Option (ℕ × Span)) → is_request p one ≡ true → (other ≡ Some (q, s) → IsMode p q)
    → cond b one other ≡ Some (q, s) → IsMode p q
asked_is_mode p true q s None other is h e = absurd (cc)
asked_is_mode p true q s (Some (m, span)) other is h e = subst (IsMode p) (ap mode_in e) (mode_by_test p m is)
asked_is_mode p false q s one other is h e = h e

-- a row that moves keys is none that moves none
moves_apart : (row r : Row) → moves_keys row ≡ true → MovesNoKey r → (row_number row == row_number r) ≡ false
moves_apart Insert FetchHit h n = refl
moves_apart Insert FetchMiss h n = refl
moves_apart Insert ScanKey h n = refl
moves_apart Insert ScanStop h n = refl
moves_apart Insert Insert h n = absurd n
moves_apart Insert Delete h n = absurd n
moves_apart Insert Update h n = refl
moves_apart Delete FetchHit h n = refl
moves_apart Delete FetchMiss h n = refl
moves_apart Delete ScanKey h n = refl
moves_apart Delete ScanStop h n = refl
moves_apart Delete Insert h n = absurd n
moves_apart Delete Delete h n = absurd n
moves_apart Delete Update h n = refl
moves_apart FetchHit r h n = absurd (cc)
moves_apart FetchMiss r h n = absurd (cc)
moves_apart ScanKey r h n = absurd (cc)
moves_apart ScanStop r h n = absurd (cc)
moves_apart Update r h n = absurd (cc)

-- a change by own modes is of a row that moves keys
moves_by : (b : Bool) (w : ℕ) → (b || is_none (Some w)) ≡ true → b ≡ true
moves_by true w h = refl
moves_by false w h = h

-- a row that moves no key asks the same whatever is held
no_move : (p : Protocol) (row : Row) (side : Side) (owns : Option ℕ) (one : Option (ℕ × Span)) (r : Row) (s : Side) (own : ℕ)
    → (moves_keys row || is_none owns) ≡ true → MovesNoKey r → p.ask r s own ≡ p.ask r s 0
    → cond (is_same_place row side r s && concerns owns own) one (p.ask r s own) ≡ cond (is_same_place row side r s && concerns owns 0) one (p.ask r s 0)
no_move p row side None one r s own by moves same = ap (λ o. cond (is_same_place row side r s && true) one o) same
no_move p row side (Some w) one r s own by moves same =
    let apart = moves_apart row r (moves_by (moves_keys row) w by) moves in
    ap (λ t. cond ((t && (side_number side == side_number s)) && concerns (Some w) own) one (p.ask r s own)) apart
    ∙ same
    ∙ sym (ap (λ t. cond ((t && (side_number side == side_number s)) && concerns (Some w) 0) one (p.ask r s 0)) apart)

-- where no updates are offered, an update requests nothing
no_update : (p : Protocol) (row : Row) (side : Side) (owns : Option ℕ) (one : Option (ℕ × Span)) (s : Side) (own : ℕ)
    → is_offered p row ≡ true → p.updates ≡ false → p.ask Update s own ≡ None
    → cond (is_same_place row side Update s && concerns owns own) one (p.ask Update s own) ≡ None
no_update p FetchHit side owns one s own is off none = none
no_update p FetchMiss side owns one s own is off none = none
no_update p ScanKey side owns one s own is off none = none
no_update p ScanStop side owns one s own is off none = none
no_update p Insert side owns one s own is off none = none
no_update p Delete side owns one s own is off none = none
no_update p Update side owns one s own is off none = absurd (true_not_false p.updates is off)

-- a choice between two modes is a mode
either : (p : Protocol) (b : Bool) (x y : ℕ) → IsMode p x → IsMode p y → IsMode p (cond b x y)
either p true x y first second = first
either p false x y first second = second

-- a table of which no entry is changed keeps the laws
ghost_request_lawful : (p : Protocol) (row : GhostRow) (side : Side) (one : Option (ℕ × Span)) → IsLawful p → IsLawful (changed p (GhostRequest row side one))
ghost_request_lawful p row side one laws = record {
  few = laws.few;
  ok-none_held = laws.ok-none_held;
  ok-none_asked = laws.ok-none_asked;
  convert-none_held = laws.convert-none_held;
  convert-none_asked = laws.convert-none_asked;
  convert-modes = λ h q first second. to_changed p (GhostRequest row side one) (p.convert h q)
      (laws.convert-modes h q (from_changed p (GhostRequest row side one) h first) (from_changed p (GhostRequest row side one) q second));
  ask-mode = λ r s own q sp low e. to_changed p (GhostRequest row side one) q (laws.ask-mode r s own q sp low e);
  ask-no_move = laws.ask-no_move;
  ask-no_update = laws.ask-no_update;
}

heir_lawful : (p : Protocol) (held mode : ℕ) → IsLawful p → IsLawful (changed p (Heir held mode))
heir_lawful p held mode laws = record {
  few = laws.few;
  ok-none_held = laws.ok-none_held;
  ok-none_asked = laws.ok-none_asked;
  convert-none_held = laws.convert-none_held;
  convert-none_asked = laws.convert-none_asked;
  convert-modes = λ h q first second. to_changed p (Heir held mode) (p.convert h q)
      (laws.convert-modes h q (from_changed p (Heir held mode) h first) (from_changed p (Heir held mode) q second));
  ask-mode = λ r s own q sp low e. to_changed p (Heir held mode) q (laws.ask-mode r s own q sp low e);
  ask-no_move = laws.ask-no_move;
  ask-no_update = laws.ask-no_update;
}

-- whether a change of a table's modes, matrices and rows is one of the table's; another changes nothing there
abbrev pub IsFine : Protocol → Change → Type 0
IsFine p (Request row side own_next request) = is_change p (Request row side own_next request) ≡ true
IsFine p (Convert held requested mode) = is_change p (Convert held requested mode) ≡ true
IsFine p (Compatible requested held b) = is_change p (Compatible requested held b) ≡ true
IsFine p (GhostRequest row side request) = Unit {0}
IsFine p (Heir held mode) = Unit {0}

pub changed_lawful : (p : Protocol) (c : Change) → IsLawful p → IsFine p c → IsLawful (changed p c)
changed_lawful p (GhostRequest row side one) laws is = ghost_request_lawful p row side one laws
changed_lawful p (Heir held mode) laws is = heir_lawful p held mode laws
changed_lawful p (Request row side owns one) laws is = record {
  few = laws.few;
  ok-none_held = laws.ok-none_held;
  ok-none_asked = laws.ok-none_asked;
  convert-none_held = laws.convert-none_held;
  convert-none_asked = laws.convert-none_asked;
  convert-modes = λ h q first second. to_changed p (Request row side owns one) (p.convert h q)
      (laws.convert-modes h q (from_changed p (Request row side owns one) h first) (from_changed p (Request row side owns one) q second));
  ask-mode = λ r s own q sp low e. to_changed p (Request row side owns one) q
      (asked_is_mode p (is_same_place row side r s && concerns owns own) q sp one (p.ask r s own) (and_first (is_request p one) rest is) (laws.ask-mode r s own q sp low) e);
  ask-no_move = λ r s own moves low. no_move p row side owns one r s own (and_first (moves_keys row || is_none owns) offered more) moves (laws.ask-no_move r s own moves low);
  ask-no_update = λ s own off low. no_update p row side owns one s own (and_first (is_offered p row) (has_side row side) (and_second (moves_keys row || is_none owns) offered more)) off (laws.ask-no_update s own off low);
}
  where
    offered : Bool
    offered = is_offered p row && has_side row side

    rest : Bool
    rest = (moves_keys row || is_none owns) && offered

    more : rest ≡ true
    more = and_second (is_request p one) rest is
changed_lawful p (Convert held requested mode) laws is = record {
  few = laws.few;
  ok-none_held = laws.ok-none_held;
  ok-none_asked = laws.ok-none_asked;
  convert-none_held = λ q low. ap (λ t. cond (t && (q == requested)) mode (p.convert 0 q)) (none_is_not held (mode_by_test p held (and_first (is_mode p held) (is_mode p requested && is_mode p mode) is)).some) ∙ laws.convert-none_held q low;
  convert-none_asked = λ h low. ap (λ t. cond t mode (p.convert h 0)) (and_false (h == held) (0 == requested) (none_is_not requested (mode_by_test p requested (and_first (is_mode p requested) (is_mode p mode) (and_second (is_mode p held) (is_mode p requested && is_mode p mode) is))).some)) ∙ laws.convert-none_asked h low;
  convert-modes = λ h q first second. to_changed p (Convert held requested mode) (cond ((h == held) && (q == requested)) mode (p.convert h q))
      (either p ((h == held) && (q == requested)) mode (p.convert h q) (mode_by_test p mode (and_second (is_mode p requested) (is_mode p mode) (and_second (is_mode p held) (is_mode p requested && is_mode p mode) is)))
      (laws.convert-modes h q (from_changed p (Convert held requested mode) h first) (from_changed p (Convert held requested mode) q second)));
  ask-mode = λ r s own q sp low e. to_changed p (Convert held requested mode) q (laws.ask-mode r s own q sp low e);
  ask-no_move = laws.ask-no_move;
  ask-no_update = laws.ask-no_update;
}
changed_lawful p (Compatible requested held b) laws is = record {
  few = laws.few;
  ok-none_held = λ q low. ap (λ t. cond t b (p.ok q 0)) (and_false (q == requested) (0 == held) (none_is_not held (mode_by_test p held (and_second (is_mode p requested) (is_mode p held) is)).some)) ∙ laws.ok-none_held q low;
  ok-none_asked = λ h low. ap (λ t. cond (t && (h == held)) b (p.ok 0 h)) (none_is_not requested (mode_by_test p requested (and_first (is_mode p requested) (is_mode p held) is)).some) ∙ laws.ok-none_asked h low;
  convert-none_held = laws.convert-none_held;
  convert-none_asked = laws.convert-none_asked;
  convert-modes = λ h q first second. to_changed p (Compatible requested held b) (p.convert h q)
      (laws.convert-modes h q (from_changed p (Compatible requested held b) h first) (from_changed p (Compatible requested held b) q second));
  ask-mode = λ r s own q sp low e. to_changed p (Compatible requested held b) q (laws.ask-mode r s own q sp low e);
  ask-no_move = laws.ask-no_move;
  ask-no_update = laws.ask-no_update;
}
