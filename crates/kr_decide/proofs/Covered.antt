-- What a lock has to keep out for the sake of a cover that it has to protect, it has to keep out.
use Rattle.std.proofs.Common.{Bool, true, false, ◌≡◌, ◌||◌, ◌⊎◌, inl, inr, refl, sym, subst}
use Rattle.kr_model.specs.declared.Row.{Row}
use Rattle.kr_model.specs.declared.Side.{Side}
use Rattle.kr_model.specs.declared.KeyUse.{KeyUse}
use Rattle.kr_model.specs.declared.KeyUse.TheVariants as key
use Rattle.kr_model.specs.declared.GapUse.{GapUse}
use Rattle.kr_model.specs.declared.GapUse.TheVariants as gap
use Rattle.kr_model.specs.declared.LockState.{LockState}
use Rattle.kr_model.specs.declared.Cover.{Cover}
use Rattle.kr_model.specs.declared.Cover.TheVariants.{ReadKey, ReadGap, InsertedKey, DeletedGap, UpdatedKey}
use Rattle.kr_model.specs.Safe.{by_key, by_gap, keeps_out}
use Rattle.kr_decide.specs.Protects.{of_key, of_gap, key_of, gap_of, keeps_out_for, protects}

-- What was done with a key and has the cover is what the cover names, and the cover is of no gap.
as_key : (c : Cover) (k : KeyUse) → of_key k c ≡ true → (k ≡ key_of c) × (gap_of c ≡ gap.Free)
as_key ReadKey key.Free e = cc
as_key ReadKey key.Read e = (refl, refl)
as_key ReadKey key.Updated e = cc
as_key ReadKey key.Inserted e = cc
as_key ReadGap key.Free e = cc
as_key ReadGap key.Read e = cc
as_key ReadGap key.Updated e = cc
as_key ReadGap key.Inserted e = cc
as_key InsertedKey key.Free e = cc
as_key InsertedKey key.Read e = cc
as_key InsertedKey key.Updated e = cc
as_key InsertedKey key.Inserted e = (refl, refl)
as_key DeletedGap key.Free e = cc
as_key DeletedGap key.Read e = cc
as_key DeletedGap key.Updated e = cc
as_key DeletedGap key.Inserted e = cc
as_key UpdatedKey key.Free e = cc
as_key UpdatedKey key.Read e = cc
as_key UpdatedKey key.Updated e = (refl, refl)
as_key UpdatedKey key.Inserted e = cc

-- The same of a gap.
as_gap : (c : Cover) (g : GapUse) → of_gap g c ≡ true → (g ≡ gap_of c) × (key_of c ≡ key.Free)
as_gap ReadKey gap.Free e = cc
as_gap ReadKey gap.Read e = cc
as_gap ReadKey gap.Deleted e = cc
as_gap ReadGap gap.Free e = cc
as_gap ReadGap gap.Read e = (refl, refl)
as_gap ReadGap gap.Deleted e = cc
as_gap InsertedKey gap.Free e = cc
as_gap InsertedKey gap.Read e = cc
as_gap InsertedKey gap.Deleted e = cc
as_gap DeletedGap gap.Free e = cc
as_gap DeletedGap gap.Read e = cc
as_gap DeletedGap gap.Deleted e = (refl, refl)
as_gap UpdatedKey gap.Free e = cc
as_gap UpdatedKey gap.Read e = cc
as_gap UpdatedKey gap.Deleted e = cc

either : (a b : Bool) → (a || b) ≡ true → (a ≡ true) ⊎ (b ≡ true)
either true b e = inl refl
either false b e = inr e

with_right : (a b : Bool) → (a || false) ≡ true → (a || b) ≡ true
with_right true b e = refl
with_right false b e = cc

with_left : (a b : Bool) → b ≡ true → (a || b) ≡ true
with_left true b e = refl
with_left false b e = e

pub kept_out_for : (c : Cover) (y : LockState) (r : Row) (s : Side) → protects y c ≡ true → keeps_out_for c r s ≡ true → keeps_out y r s ≡ true
kept_out_for c y r s protected kept = split (either (of_key y.key c) (of_gap y.gap c) protected)
  where
    split : (of_key y.key c ≡ true) ⊎ (of_gap y.gap c ≡ true) → keeps_out y r s ≡ true
    split (inl e) =
        let h = as_key c y.key e in
        with_right (by_key y.key r s) (by_gap y.gap r s)
        (subst (λ (g : GapUse). (by_key y.key r s || by_gap g r s) ≡ true) h.1 (subst (λ (k : KeyUse). (by_key k r s || by_gap (gap_of c) r s) ≡ true) (sym h.0) kept))
    split (inr e) =
        let h = as_gap c y.gap e in
        with_left (by_key y.key r s) (by_gap y.gap r s)
        (subst (λ (k : KeyUse). (by_key k r s || by_gap y.gap r s) ≡ true) h.1 (subst (λ (g : GapUse). (by_key (key_of c) r s || by_gap g r s) ≡ true) (sym h.0) kept))
