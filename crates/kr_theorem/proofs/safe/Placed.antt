-- Lock states and the keys of the map: a transaction that doesn't roll back protects keys of the map and keys that it has deleted, nobody protects a key that another has moved, and a lock on an absent key is one that may be there.
use Rattle.std.proofs.Common.{ℕ, ◌≡◌, ◌≢◌, ◌⊎◌, inl, inr, ⊎_elim, sym, ap, ◌∙◌, true, false, subst, true≢false}
use Rattle.std.proofs.lemmas.Bool.{cases_eq, cases_Bool}
use Rattle.kr_model.specs.declared.Name.{Name}
use Rattle.kr_model.specs.declared.Name.TheVariants.{Key, End}
use Rattle.kr_model.specs.Protocol.{Protocol}
use Rattle.kr_model.specs.Map.{Map, IsMap, at}
use Rattle.kr_theorem.proofs.gaps.Gaps.{has, at-key, cases_name}
use Rattle.kr_theorem.proofs.gaps.Undo.{InsertedIn}
use Rattle.kr_theorem.proofs.step.Parts.{Part, Parts, Moved, with_part, with_same, with_other, by_part, whose}
use Rattle.kr_model.specs.declared.KeyUse.TheVariants.{Inserted as KeyInserted}
use Rattle.kr_model.specs.declared.GapUse.TheVariants.{Deleted as GapDeleted}
use Rattle.kr_model.specs.declared.LockState.{LockState}
use Rattle.kr_model.specs.Safe.{IsIdle, MayBeOnAbsent}
use Rattle.kr_theorem.proofs.safe.Regrant.{key_is}
use Rattle.kr_theorem.proofs.safe.Holding.{Holds, voided, voided_live, voided_apart}

-- A name of the map: a key that is present, or the end.
abbrev pub Stands : Map → Name → Type 0
Stands m End = Unit {0}
Stands m (Key k) = has m k ≡ true

pub at_stands : (m : Map) (y : ℕ) → IsMap m → Stands m (at m y)
at_stands m y hm = ⊎_elim (λ e. subst (λ z. Stands m z) (sym e) tt) (λ d. subst (λ z. Stands m z) (sym d.1) (let z = at-key m y d.0 hm d.1 in z.1)) (cases_name (at m y))

-- The lock protects nothing, and its transaction hasn't deleted the key.
abbrev pub IsClear : LockState → Type 0
IsClear x = IsIdle x × (x.deleted ≡ false)

pub record Placed (p : Protocol) (m : Map) (part : Parts) (hold : Holds) : Type 0 where
  -- a protected name is a name of the map
  pub there : (t : ℕ) (n : Name) → (part t).rolling ≡ false → (hold t n).deleted ≡ false → IsIdle (hold t n) ⊎ Stands m n
  -- a key marked as deleted is absent, and its transaction has moved it
  pub gone : (t : ℕ) (n : Name) → (part t).rolling ≡ false → (hold t n).deleted ≡ true → (k : ℕ) × (n ≡ Key k) × (has m k ≡ false) × Moved (part t) k
  -- nobody protects a key that another has moved
  pub mine : (t u k : ℕ) → u ≢ t → (part u).rolling ≡ false → Moved (part t) k → IsClear (hold u (Key k))
  -- the gap in which a transaction has deleted a key is protected as such
  pub guard : (t k : ℕ) → (part t).rolling ≡ false → (hold t (Key k)).deleted ≡ true → (hold t (at m k)).gap ≡ GapDeleted
  -- a lock on an absent key, which its transaction hasn't deleted, may be there
  pub absent : (t k : ℕ) → (part t).rolling ≡ false → has m k ≡ false → (hold t (Key k)).deleted ≡ false → MayBeOnAbsent p (hold t (Key k)).mode
  -- a key that a transaction has inserted is protected as such
  pub put : (t k : ℕ) → InsertedIn (part t).changes k → (hold t (Key k)).key ≡ KeyInserted

-- A name of the map isn't marked as deleted.
pub stands_kept : (p : Protocol) (m : Map) (part : Parts) (hold : Holds) → Placed p m part hold → (t : ℕ) (n : Name) → (part t).rolling ≡ false → Stands m n → (hold t n).deleted ≡ false
stands_kept p m part hold w t n live stands = ⊎_elim
    (λ e. let d = w.gone t n live e in absurd (true≢false (sym (subst (λ z. Stands m z) d.1 stands) ∙ d.2)))
    (λ e. e)
    (cases_Bool (hold t n).deleted)

-- One step of t, from m to n, after which its part is q.
pub placed_stepped : (p : Protocol) (m n : Map) (part : Parts) (hold hold' : Holds) (t : ℕ) (q : Part) → Placed p m part hold
    → ((u : ℕ) (x : Name) → u ≢ t → hold' u x ≡ hold u x)
    → ((u y : ℕ) → u ≢ t → (part u).rolling ≡ false → (has n y ≡ has m y) ⊎ IsClear (hold u (Key y)))
    → (q.rolling ≡ false → (x : Name) → (hold' t x).deleted ≡ false → IsIdle (hold' t x) ⊎ Stands n x)
    → (q.rolling ≡ false → (x : Name) → (hold' t x).deleted ≡ true → (k : ℕ) × (x ≡ Key k) × (has n k ≡ false) × Moved q k)
    → ((u k : ℕ) → u ≢ t → (part u).rolling ≡ false → Moved q k → IsClear (hold u (Key k)))
    → ((v k : ℕ) → v ≢ t → q.rolling ≡ false → Moved (part v) k → IsClear (hold' t (Key k)))
    → ((u k : ℕ) → u ≢ t → (part u).rolling ≡ false → Moved (part u) k → at n k ≡ at m k)
    → (q.rolling ≡ false → (k : ℕ) → (hold' t (Key k)).deleted ≡ true → (hold' t (at n k)).gap ≡ GapDeleted)
    → ((u k : ℕ) → u ≢ t → (part u).rolling ≡ false → has m k ≡ true → has n k ≡ false → MayBeOnAbsent p (hold u (Key k)).mode)
    → (q.rolling ≡ false → (k : ℕ) → has n k ≡ false → (hold' t (Key k)).deleted ≡ false → MayBeOnAbsent p (hold' t (Key k)).mode)
    → ((k : ℕ) → InsertedIn q.changes k → (hold' t (Key k)).key ≡ KeyInserted)
    → Placed p n (with_part part t q) hold'
placed_stepped p m n part hold hold' t q w others changes there gone moves moved named guarded vanished absent put = record {
  there = by_part (λ u x. (y : Name) → x.rolling ≡ false → (hold' u y).deleted ≡ false → IsIdle (hold' u y) ⊎ Stands n y) part t q
      (λ y live kept. there live y kept)
      (λ u ne y live kept. subst (λ h. IsIdle h ⊎ Stands n y) (sym (others u y ne))
      (still u ne live y (w.there u y live (sym (ap (λ h. h.deleted) (others u y ne)) ∙ kept))));
  gone = by_part (λ u x. (y : Name) → x.rolling ≡ false → (hold' u y).deleted ≡ true → (k : ℕ) × (y ≡ Key k) × (has n k ≡ false) × Moved x k) part t q
      (λ y live e. gone live y e)
      (λ u ne y live e.
      let was : (hold u y).deleted ≡ true = sym (ap (λ h. h.deleted) (others u y ne)) ∙ e in
      let d = w.gone u y live was in
      ⊎_elim (λ same. (d.0, d.1, same ∙ d.2, d.3)) (λ clear. absurd (true≢false (sym was ∙ ap (λ z. (hold u z).deleted) d.1 ∙ clear.1))) (changes u d.0 ne live));
  mine = λ v u k ne live h. ⊎_elim
      (λ e. let vt : v ≢ t = λ f. ne (e ∙ sym f) in
      subst (λ z. IsClear (hold' z (Key k))) (sym e)
      (moved v k vt (subst (λ z. z.rolling ≡ false) (with_same part t q) (subst (λ z. (with_part part t q z).rolling ≡ false) e live)) (subst (λ z. Moved z k) (with_other part t q v vt) h)))
      (λ ut. let lu : (part u).rolling ≡ false = subst (λ z. z.rolling ≡ false) (with_other part t q u ut) live in
      subst (λ z. IsClear z) (sym (others u (Key k) ut))
      (⊎_elim (λ a. moves u k ut lu a.1) (λ b. w.mine v u k ne lu b.1) (whose (λ z. Moved z k) part t q v h)))
      (cases_eq u t);
  guard = by_part (λ u x. (k : ℕ) → x.rolling ≡ false → (hold' u (Key k)).deleted ≡ true → (hold' u (at n k)).gap ≡ GapDeleted) part t q
      (λ k live e. guarded live k e)
      (λ u ne k live e.
      let was : (hold u (Key k)).deleted ≡ true = sym (ap (λ h. h.deleted) (others u (Key k) ne)) ∙ e in
      let d = w.gone u (Key k) live was in
      ap (λ h. h.gap) (others u (at n k) ne) ∙ ap (λ z. (hold u z).gap) (named u k ne live (subst (λ z. Moved (part u) z) (sym (key_is k d.0 d.1)) d.3)) ∙ w.guard u k live was);
  absent = by_part (λ u x. (k : ℕ) → x.rolling ≡ false → has n k ≡ false → (hold' u (Key k)).deleted ≡ false → MayBeOnAbsent p (hold' u (Key k)).mode) part t q
      (λ k live none kept. absent live k none kept)
      (λ u ne k live none kept. subst (λ h. MayBeOnAbsent p h.mode) (sym (others u (Key k) ne))
      (⊎_elim (λ e. vanished u k ne live e none) (λ e. w.absent u k live e (sym (ap (λ h. h.deleted) (others u (Key k) ne)) ∙ kept)) (cases_Bool (has m k))));
  put = by_part (λ u x. (k : ℕ) → InsertedIn x.changes k → (hold' u (Key k)).key ≡ KeyInserted) part t q put
      (λ u ne k h. ap (λ z. z.key) (others u (Key k) ne) ∙ w.put u k h);
}
  where
    still : (u : ℕ) → u ≢ t → (part u).rolling ≡ false → (y : Name) → IsIdle (hold u y) ⊎ Stands m y → IsIdle (hold u y) ⊎ Stands n y
    still u ne live y (inl i) = inl i
    still u ne live End (inr s) = inr tt
    still u ne live (Key k) (inr s) = ⊎_elim (λ same. inr (same ∙ s)) (λ clear. inl clear.0) (changes u k ne live)

-- It is kept where lock states of those who roll back are voided, on a name that is no key that they have inserted.
pub placed_voided : (p : Protocol) (m : Map) (part : Parts) (hold : Holds) (n : Name) → ((u k : ℕ) → (part u).rolling ≡ true → Key k ≡ n → InsertedIn (part u).changes k → ⊥) → Placed p m part hold → Placed p m part (voided hold (λ u. (part u).rolling) n)
placed_voided p m part hold n none w =
    let same : (u : ℕ) (x : Name) → (part u).rolling ≡ false → voided hold (λ v. (part v).rolling) n u x ≡ hold u x = λ u x live. voided_live hold (λ v. (part v).rolling) n u x live in
    record {
      there = λ t x live kept. subst (λ h. IsIdle h ⊎ Stands m x) (sym (same t x live)) (w.there t x live (sym (ap (λ h. h.deleted) (same t x live)) ∙ kept));
      gone = λ t x live e. w.gone t x live (sym (ap (λ h. h.deleted) (same t x live)) ∙ e);
      mine = λ t u k ne live h. subst (λ z. IsClear z) (sym (same u (Key k) live)) (w.mine t u k ne live h);
      guard = λ t k live e. ap (λ h. h.gap) (same t (at m k) live) ∙ w.guard t k live (sym (ap (λ h. h.deleted) (same t (Key k) live)) ∙ e);
      absent = λ t k live e kept. subst (λ h. MayBeOnAbsent p h.mode) (sym (same t (Key k) live)) (w.absent t k live e (sym (ap (λ h. h.deleted) (same t (Key k) live)) ∙ kept));
      put = λ t k h. ap (λ z. z.key) (voided_apart hold (λ v. (part v).rolling) n t (Key k) (λ e. none t k e.0 e.1 h)) ∙ w.put t k h;
    }
