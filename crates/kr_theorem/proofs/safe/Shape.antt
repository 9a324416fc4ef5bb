-- One fixed protocol for all tables. Its modes are what a lock can have to protect on a name (0 to 11) and the requests (12 to 22), and a mode blocks exactly the requests that it has to keep out.
use Rattle.std.proofs.Common.{ℕ, List, [], ◌∷◌, ◌≤◌, ◌≡◌, refl, sym, Bool, true, false, subst, arith}
use Rattle.std.specs.Prelude.{not, ◌||◌, ◌==◌, cond, filter, if◌then◌else◌, Option, Some, None, slice_index_or}
use Rattle.std.specs.List.{flat_map, list_all}
use Rattle.std.proofs.lemmas.Bool.Decides.{nat_tests}
use Rattle.kr_model.specs.declared.Row.{Row}
use Rattle.kr_model.specs.declared.Row.TheVariants.{FetchHit, FetchMiss, ScanKey, ScanStop, Insert, Delete, Update}
use Rattle.kr_model.specs.declared.Side.{Side}
use Rattle.kr_model.specs.declared.Side.TheVariants.{Current, Next}
use Rattle.kr_model.specs.declared.Span.{Span}
use Rattle.kr_model.specs.declared.Cover.{Cover}
use Rattle.kr_model.specs.declared.Cover.TheVariants.{ReadGap, InsertedKey, DeletedGap}
use Rattle.kr_model.specs.Matrices.{stands_in, for_commit}
use Rattle.kr_model.specs.Protocol.{Protocol, MovesNoKey}
use Rattle.kr_model.specs.Covers.{mode_after, must_conflict, requesters_at, is_open, is_empty, serves, conflicts_with}
use Rattle.kr_model.proofs.Guarantees.{Serves}
use Rattle.kr_model.proofs.Tested.{and_first, and_second, each_mode_or_none}
use Rattle.kr_theorem.proofs.step.Covers.{Covered}
use Rattle.kr_model.specs.declared.KeyUse.{KeyUse}
use Rattle.kr_model.specs.declared.KeyUse.TheVariants.{Free as KeyFree, Read as KeyRead, Updated as KeyUpdated, Inserted as KeyInserted}
use Rattle.kr_model.specs.declared.GapUse.{GapUse}
use Rattle.kr_model.specs.declared.GapUse.TheVariants.{Free as GapFree, Read as GapRead, Deleted as GapDeleted}

-- The mode for what has been done with the key and the gap.
abbrev pub code : KeyUse → GapUse → ℕ
code KeyFree GapFree = 0
code KeyFree GapRead = 1
code KeyFree GapDeleted = 2
code KeyRead GapFree = 3
code KeyRead GapRead = 4
code KeyRead GapDeleted = 5
code KeyUpdated GapFree = 6
code KeyUpdated GapRead = 7
code KeyUpdated GapDeleted = 8
code KeyInserted GapFree = 9
code KeyInserted GapRead = 10
code KeyInserted GapDeleted = 11

-- The requests that each mode blocks.
abbrev lines : List (List ℕ)
lines =
    ([])
    ∷ (19 ∷ 20 ∷ [])
    ∷ (13 ∷ 14 ∷ 15 ∷ 19 ∷ 20 ∷ 21 ∷ [])
    ∷ (20 ∷ 22 ∷ [])
    ∷ (19 ∷ 20 ∷ 22 ∷ [])
    ∷ (13 ∷ 14 ∷ 15 ∷ 19 ∷ 20 ∷ 21 ∷ 22 ∷ [])
    ∷ (12 ∷ 14 ∷ 20 ∷ 22 ∷ [])
    ∷ (12 ∷ 14 ∷ 19 ∷ 20 ∷ 22 ∷ [])
    ∷ (12 ∷ 13 ∷ 14 ∷ 15 ∷ 19 ∷ 20 ∷ 21 ∷ 22 ∷ [])
    ∷ (12 ∷ 13 ∷ 14 ∷ 15 ∷ 20 ∷ 21 ∷ 22 ∷ [])
    ∷ (12 ∷ 13 ∷ 14 ∷ 15 ∷ 19 ∷ 20 ∷ 21 ∷ 22 ∷ [])
    ∷ (12 ∷ 13 ∷ 14 ∷ 15 ∷ 19 ∷ 20 ∷ 21 ∷ 22 ∷ [])
    ∷ (20 ∷ 22 ∷ [])
    ∷ (19 ∷ 20 ∷ [])
    ∷ (19 ∷ 20 ∷ 22 ∷ [])
    ∷ (19 ∷ 20 ∷ [])
    ∷ (12 ∷ 13 ∷ 14 ∷ 15 ∷ 20 ∷ 21 ∷ 22 ∷ [])
    ∷ (12 ∷ 13 ∷ 14 ∷ 15 ∷ 19 ∷ 20 ∷ 21 ∷ 22 ∷ [])
    ∷ (12 ∷ 13 ∷ 14 ∷ 15 ∷ 19 ∷ 20 ∷ 21 ∷ 22 ∷ [])
    ∷ ([])
    ∷ ([])
    ∷ (13 ∷ 14 ∷ 15 ∷ 19 ∷ 20 ∷ 21 ∷ [])
    ∷ (12 ∷ 14 ∷ 20 ∷ 22 ∷ [])
    ∷ []

abbrev pub blocked_by : ℕ → List ℕ
blocked_by h = slice_index_or lines h []

-- What an insert requests on its key, by the mode on the next name.
abbrev splits : List ℕ
splits = 16 ∷ 17 ∷ 18 ∷ 16 ∷ 17 ∷ 18 ∷ 16 ∷ 17 ∷ 18 ∷ 16 ∷ 17 ∷ 18 ∷ 16 ∷ 17 ∷ 17 ∷ 17 ∷ 16 ∷ 18 ∷ 18 ∷ 16 ∷ 16 ∷ 18 ∷ 16 ∷ []

abbrev pub split : ℕ → ℕ
split n = slice_index_or splits n 16

abbrev pub asks : Row → Side → ℕ → Option (ℕ × Span)
asks FetchHit Current on = for_commit 12
asks FetchMiss Next on = for_commit 13
asks ScanKey Current on = for_commit 14
asks ScanStop Next on = for_commit 15
asks Insert Current on = for_commit (split on)
asks Insert Next on = for_commit 19
asks Delete Current on = for_commit 20
asks Delete Next on = for_commit 21
asks Update Current on = for_commit 22
asks _ _ on = None

abbrev pub shape : Protocol
shape = record {
  count = 22;
  ok = λ q h. not (stands_in (blocked_by h) q);
  convert = λ h q. if q == 0 then h else q;
  ask = asks;
  updates = true;
}

-- More is served where more is blocked --

all_fewer : {A : Type 0} (f g : A → Bool) (xs : List A) → ((x : A) → f x ≡ false → g x ≡ false) → is_empty (filter f xs) ≡ true → is_empty (filter g xs) ≡ true
all_fewer f g [] fewer h = refl
all_fewer f g (x ∷ xs) fewer h = head (f x) (g x) (fewer x) h (λ k. all_fewer f g xs fewer k)
  where
    head : (a b : Bool) → (a ≡ false → b ≡ false) → is_empty (cond a (x ∷ filter f xs) (filter f xs)) ≡ true → (is_empty (filter f xs) ≡ true → is_empty (filter g xs) ≡ true) → is_empty (cond b (x ∷ filter g xs) (filter g xs)) ≡ true
    head true b e h rest = absurd (cc)
    head false true e h rest = absurd (by_path (e refl))
      where
        by_path : true ≡ false → ⊥
        by_path z = cc
    head false false e h rest = rest h

same_number : (q x : ℕ) → (q == x) ≡ true → q ≡ x
same_number q x h = grind (arith, nat_tests)

within : (xs ys : List ℕ) → list_all (λ x. stands_in ys x) xs ≡ true → (q : ℕ) → stands_in xs q ≡ true → stands_in ys q ≡ true
within [] ys all q h = absurd (cc)
within (x ∷ xs) ys all q h = head (q == x) refl h (λ k. within xs ys (and_second (stands_in ys x) _ all) q k)
  where
    head : (b : Bool) → (q == x) ≡ b → (b || stands_in xs q) ≡ true → (stands_in xs q ≡ true → stands_in ys q ≡ true) → stands_in ys q ≡ true
    head true e h rest = subst (λ z. stands_in ys z ≡ true) (sym (same_number q x e)) (and_first (stands_in ys x) _ all)
    head false e h rest = rest h

-- Whether the mode b blocks all that a blocks.
abbrev pub blocks_all : ℕ → ℕ → Bool
blocks_all a b = list_all (λ x. stands_in (blocked_by b) x) (blocked_by a)

not_false : (b : Bool) → not b ≡ false → b ≡ true
not_false true h = refl
not_false false h = absurd (cc)

not_true : (b : Bool) → b ≡ true → not b ≡ false
not_true true h = refl
not_true false h = absurd (cc)

pub more : (a b : ℕ) → blocks_all a b ≡ true → (c : Cover) → Serves shape c a → Serves shape c b
more a b all c s = all_fewer (is_open shape a) (is_open shape b) (flat_map (requesters_at shape) (must_conflict shape c)) (λ x. by (shape.ask x.row x.side x.own_next) x.own) s
  where
    by : (q : Option (ℕ × Span)) (o : ℕ) → not (conflicts_with shape a o q) ≡ false → not (conflicts_with shape b o q) ≡ false
    by None o h = h
    by (Some (q, span)) o h =
        let w = shape.convert o q in
        not_true (not (not (stands_in (blocked_by b) w))) (still (stands_in (blocked_by b) w) (within (blocked_by a) (blocked_by b) all w (was (stands_in (blocked_by a) w) h)))
      where
        was : (b : Bool) → not (not (not b)) ≡ false → b ≡ true
        was true h = refl
        was false h = absurd (cc)

        still : (b : Bool) → b ≡ true → not (not b) ≡ true
        still true h = refl
        still false h = absurd (cc)

-- It is covered --

due : (a b : Bool) → (not a || b) ≡ true → a ≡ true → b ≡ true
due true b h e = h
due false b h e = absurd (cc)

pub shape_covered : Covered shape
shape_covered = record {
  after_hit = λ o io. refl;
  after_miss = λ n io. refl;
  after_key_key = λ o io. refl;
  after_key_gap = λ o io. refl;
  after_stop = λ n io. refl;
  after_new_key = λ n o in_n io. each_mode_or_none shape (λ x. serves shape InsertedKey (mode_after shape o (shape.ask Insert Current x))) refl n in_n;
  after_split_read = λ n o in_n io s. due (serves shape ReadGap n) _ (each_mode_or_none shape (λ x. not (serves shape ReadGap x) || serves shape ReadGap (mode_after shape o (shape.ask Insert Current x))) refl n in_n) s;
  after_split_deleted = λ n o in_n io s. due (serves shape DeletedGap n) _ (each_mode_or_none shape (λ x. not (serves shape DeletedGap x) || serves shape DeletedGap (mode_after shape o (shape.ask Insert Current x))) refl n in_n) s;
  after_removal = λ n io. refl;
  after_updated = λ up o io. refl;
}

pub in_count : (k : KeyUse) (g : GapUse) → code k g ≤ shape.count
in_count KeyFree GapFree = omega arith
in_count KeyFree GapRead = omega arith
in_count KeyFree GapDeleted = omega arith
in_count KeyRead GapFree = omega arith
in_count KeyRead GapRead = omega arith
in_count KeyRead GapDeleted = omega arith
in_count KeyUpdated GapFree = omega arith
in_count KeyUpdated GapRead = omega arith
in_count KeyUpdated GapDeleted = omega arith
in_count KeyInserted GapFree = omega arith
in_count KeyInserted GapRead = omega arith
in_count KeyInserted GapDeleted = omega arith

-- A row that moves no key requests the same whatever is held.
pub same_asks : (row : Row) (side : Side) (own : ℕ) → MovesNoKey row → own ≤ shape.count → shape.ask row side own ≡ shape.ask row side 0
same_asks FetchHit Current own no_move le = refl
same_asks FetchHit Next own no_move le = refl
same_asks FetchMiss Current own no_move le = refl
same_asks FetchMiss Next own no_move le = refl
same_asks ScanKey Current own no_move le = refl
same_asks ScanKey Next own no_move le = refl
same_asks ScanStop Current own no_move le = refl
same_asks ScanStop Next own no_move le = refl
same_asks Update Current own no_move le = refl
same_asks Update Next own no_move le = refl
same_asks Insert side own no_move le = absurd no_move
same_asks Delete side own no_move le = absurd no_move
