-- Lock states with the same number are the same, and so are pairs of them.
use Rattle.std.proofs.Common.{ℕ, zero, suc, Bool, true, false, ◌≡◌, ◌≤◌, ◌<◌, ◌∙◌, ap, refl, sym, arith}
use Rattle.kr_model.specs.declared.KeyUse.{KeyUse}
use Rattle.kr_model.specs.declared.KeyUse.TheVariants as key
use Rattle.kr_model.specs.declared.GapUse.{GapUse}
use Rattle.kr_model.specs.declared.GapUse.TheVariants as gap
use Rattle.kr_model.specs.declared.LockState.{LockState}
use Rattle.kr_decide.specs.Numbers.{key_number, gap_number, deleted_number, state_number, pair_number}

key_below : (k : KeyUse) → key_number k ≤ 3
key_below key.Free = omega arith
key_below key.Read = omega arith
key_below key.Updated = omega arith
key_below key.Inserted = omega arith

gap_below : (g : GapUse) → gap_number g ≤ 2
gap_below gap.Free = omega arith
gap_below gap.Read = omega arith
gap_below gap.Deleted = omega arith

deleted_below : (d : Bool) → deleted_number d ≤ 1
deleted_below false = omega arith
deleted_below true = omega arith

-- The parts by their numbers.
abbrev key_of : ℕ → KeyUse
key_of zero = key.Free
key_of (suc zero) = key.Read
key_of (suc (suc zero)) = key.Updated
key_of (suc (suc (suc n))) = key.Inserted

key_back : (k : KeyUse) → key_of (key_number k) ≡ k
key_back key.Free = refl
key_back key.Read = refl
key_back key.Updated = refl
key_back key.Inserted = refl

abbrev gap_of : ℕ → GapUse
gap_of zero = gap.Free
gap_of (suc zero) = gap.Read
gap_of (suc (suc n)) = gap.Deleted

gap_back : (g : GapUse) → gap_of (gap_number g) ≡ g
gap_back gap.Free = refl
gap_back gap.Read = refl
gap_back gap.Deleted = refl

abbrev deleted_of : ℕ → Bool
deleted_of zero = false
deleted_of (suc n) = true

deleted_back : (d : Bool) → deleted_of (deleted_number d) ≡ d
deleted_back false = refl
deleted_back true = refl

-- Lock states whose parts are the same are the same.
pub same_parts : (x y : LockState) → x.mode ≡ y.mode → x.key ≡ y.key → x.gap ≡ y.gap → x.deleted ≡ y.deleted → x ≡ y
same_parts x y m k g d =
    ap (λ a. made a x.key x.gap x.deleted) m ∙ ap (λ a. made y.mode a x.gap x.deleted) k ∙ ap (λ a. made y.mode y.key a x.deleted) g ∙ ap (λ a. made y.mode y.key y.gap a) d
  where
    made : ℕ → KeyUse → GapUse → Bool → LockState
    made m k g d = record { mode = m; key = k; gap = g; deleted = d }

-- A lock state is told by its number.
pub same_state : (x y : LockState) → state_number x ≡ state_number y → x ≡ y
same_state x y h =
    let a = key_below x.key in
    let b = key_below y.key in
    let c = gap_below x.gap in
    let d = gap_below y.gap in
    let e = deleted_below x.deleted in
    let f = deleted_below y.deleted in
    let modes : x.mode ≡ y.mode = omega arith in
    let keys : key_number x.key ≡ key_number y.key = omega arith in
    let gaps : gap_number x.gap ≡ gap_number y.gap = omega arith in
    let deleteds : deleted_number x.deleted ≡ deleted_number y.deleted = omega arith in
    same_parts x y modes (sym (key_back x.key) ∙ ap key_of keys ∙ key_back y.key) (sym (gap_back x.gap) ∙ ap gap_of gaps ∙ gap_back y.gap)
    (sym (deleted_back x.deleted) ∙ ap deleted_of deleteds ∙ deleted_back y.deleted)

pub state_below : (x : LockState) → x.mode ≤ 15 → state_number x < 384
state_below x m =
    let a = key_below x.key in
    let c = gap_below x.gap in
    let e = deleted_below x.deleted in
    omega arith

-- And so is a pair.
pub same_pair : (x y x' y' : LockState) → y.mode ≤ 15 → y'.mode ≤ 15 → pair_number x y ≡ pair_number x' y' → (x ≡ x') × (y ≡ y')
same_pair x y x' y' m m' h =
    let a : state_number y < 384 = state_below y m in
    let b : state_number y' < 384 = state_below y' m' in
    let firsts : state_number x ≡ state_number x' = omega arith in
    let seconds : state_number y ≡ state_number y' = omega arith in
    (same_state x x' firsts, same_state y y' seconds)
