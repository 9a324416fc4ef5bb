-- What keeps a transaction able to undo its changes one at a time: the points that its changes keep others from, and the covers in each map that is then to come.
use Rattle.std.proofs.Common.{ℕ, suc, [], ◌∷◌, Option, Some, None, ◌≡◌, ◌≢◌, ◌⊎◌, inl, inr, ⊎_elim, refl, sym, ap, ◌∙◌, arith, Bool, true, false, subst, true≢false}
use Rattle.std.proofs.lemmas.Bool.{cases_lt, cases_eq, cases_Bool}
use Rattle.kr_model.specs.declared.Name.{Name}
use Rattle.kr_model.specs.declared.Name.TheVariants.{Key}
use Rattle.kr_model.specs.declared.Cover.{Cover}
use Rattle.kr_model.specs.declared.Cover.TheVariants.{InsertedKey, DeletedGap, UpdatedKey}
use Rattle.kr_model.specs.Protocol.{Protocol}
use Rattle.kr_model.specs.Map.{Map, IsMap, Changes, at, get, restore}
use Rattle.kr_model.proofs.Guarantees.{Serves}
use Rattle.kr_theorem.proofs.gaps.Maps.{has_some}
use Rattle.kr_model.proofs.UndoLaws.{IsMap-restore}
use Rattle.kr_theorem.proofs.gaps.Undo.{ChangedIn, changed_or_not, restore_back}
use Rattle.kr_theorem.proofs.gaps.Moves.{MovedIn, has_apart, has_here, moved_by, moved_changed, moved_frame, moved_push}
use Rattle.kr_theorem.proofs.step.Covers.{Holds, holds_keep, holds_read, weaken, read_cover, change_cover}
use Rattle.kr_theorem.proofs.gaps.Gaps.{has, Reach, at-unique, reach-refl, reach-from, reach-trans, reach-at, reach-dec, at-stable, reach-stable, Alike, alike-outside, at-insert, at-delete}

-- The points that the changes keep others from: a changed key, and of a removal all up to the next name.
abbrev pub Guard : Map → Changes → ℕ → Type 0
Guard m [] y = ⊥
Guard m (c ∷ l) y = (Reach m c.0 y) ⊎ Guard (restore m c.0 c.1) l y

pub guard_changed : (m : Map) (l : Changes) (y : ℕ) → ChangedIn l y → Guard m l y
guard_changed m [] y h = h
guard_changed m (c ∷ l) y h = ⊎_elim (λ e. inl (subst (λ z. Reach m z y) e (reach-refl m y))) (λ old. inr (guard_changed (restore m c.0 c.1) l y old)) h

pub guard_closed : (m : Map) (l : Changes) (y z : ℕ) → Guard m l y → Reach m y z → Guard m l z
guard_closed m [] y z g reach = g
guard_closed m (c ∷ l) y z g reach = ⊎_elim
    (λ here. inl (reach-trans m c.0 y z here reach))
    (λ old. ⊎_elim
    (λ lt. inr (guard_closed (restore m c.0 c.1) l y z old (reach.0, λ q a b. has_apart m c.0 c.1 q (λ e. absurd (omega (arith, e, a, lt))) ∙ reach.1 q a b)))
    (λ ge. ⊎_elim
    (λ lt. inl (reach-from m y c.0 z reach ge (omega (arith, lt))))
    (λ high. inr (guard_closed (restore m c.0 c.1) l y z old (reach.0, λ q a b. has_apart m c.0 c.1 q (λ e. absurd (omega (arith, e, b, high))) ∙ reach.1 q a b)))
    (cases_lt c.0 z))
    (cases_lt c.0 y))
    g

abbrev Agree : Map → Map → Changes → Type 0
Agree m n l = (y : ℕ) → Guard m l y → has n y ≡ has m y

agree_below : (m n : Map) (c : ℕ × Option ℕ) (l : Changes) → Agree m n (c ∷ l) → Agree (restore m c.0 c.1) (restore n c.0 c.1) l
agree_below m n c l agree y g = ⊎_elim
    (λ e. ap (has (restore n c.0 c.1)) e ∙ has_here n c.0 c.1 ∙ sym (ap (has (restore m c.0 c.1)) e ∙ has_here m c.0 c.1))
    (λ ne. has_apart n c.0 c.1 y ne ∙ agree y (inr g) ∙ sym (has_apart m c.0 c.1 y ne))
    (cases_eq y c.0)

-- Where two maps have the same keys at the guarded points, no point more is guarded.
pub guard_frame : (m n : Map) (l : Changes) (y : ℕ) → Agree m n l → Guard n l y → Guard m l y
guard_frame m n [] y agree g = g
guard_frame m n (c ∷ l) y agree g = ⊎_elim
    (λ here. inl (reach-stable m n c.0 y (λ z reach. agree z (inl reach)) here))
    (λ old. inr (guard_frame (restore m c.0 c.1) (restore n c.0 c.1) l y (agree_below m n c l agree) old))
    g

-- The covers --

-- What covers a guarded point: an absent one lies in a gap that is covered as one with a removal; a key that is there is covered by its insert where it was moved, by
-- its insert or its update where it was changed, and else as the gap below it, since it is then the upper end of a removal.
pub record Level (r : Protocol) (own : Name → ℕ) (m : Map) (l : Changes) (y : ℕ) : Type 0 where
  pub gap : has m y ≡ false → Serves r DeletedGap (own (at m y))
  pub moved : has m y ≡ true → MovedIn (moved_by m l) y → Serves r InsertedKey (own (at m y))
  pub changed : has m y ≡ true → ChangedIn l y → Holds r (own (at m y))
  pub above : has m y ≡ true → (ChangedIn l y → ⊥) → Serves r DeletedGap (own (at m y))

-- The covers stand in the present map, and in each that the changes undone would leave.
abbrev pub Stack : Protocol → (Name → ℕ) → Map → Changes → Type 0
Stack r own m [] = Unit
Stack r own m (c ∷ l) = ((y : ℕ) → Guard m (c ∷ l) y → Level r own m (c ∷ l) y) × Stack r own (restore m c.0 c.1) l

-- A point with the same key and name, and no more changed or moved, stays covered by locks that only grow.
level_same : (r : Protocol) (own own' : Name → ℕ) (m n : Map) (l k : Changes) (y : ℕ)
    → at n y ≡ at m y → has n y ≡ has m y
    → (ChangedIn k y → ChangedIn l y) → (ChangedIn l y → ChangedIn k y) → (MovedIn (moved_by n k) y → MovedIn (moved_by m l) y)
    → ((c : Cover) → Serves r c (own (at m y)) → Serves r c (own' (at m y)))
    → Level r own m l y → Level r own' n k y
level_same r own own' m n l k y named same less more moved keeps x =
    let to : (c : Cover) → Serves r c (own (at m y)) → Serves r c (own' (at n y)) = λ c s. subst (λ z. Serves r c (own' z)) (sym named) (keeps c s) in
    record {
      gap = λ e. to DeletedGap (x.gap (sym same ∙ e));
      moved = λ e h. to InsertedKey (x.moved (sym same ∙ e) (moved h));
      changed = λ e h. holds_keep r (own (at m y)) (own' (at n y)) to (x.changed (sym same ∙ e) (less h));
      above = λ e out. to DeletedGap (x.above (sym same ∙ e) (λ h. out (more h)));
    }

-- A point that is absent.
level_absent : (r : Protocol) (own : Name → ℕ) (m : Map) (l : Changes) (y : ℕ) → has m y ≡ false → Serves r DeletedGap (own (at m y)) → Level r own m l y
level_absent r own m l y none s =
    let not_there : has m y ≡ true → ⊥ = λ e. true≢false (sym e ∙ none) in
    record { gap = λ e. s; moved = λ e h. absurd (not_there e); changed = λ e h. absurd (not_there e); above = λ e out. s }

-- A key that is there and was inserted or updated last.
level_held : (r : Protocol) (own : Name → ℕ) (m : Map) (l : Changes) (y : ℕ) → has m y ≡ true → ChangedIn l y → (MovedIn (moved_by m l) y → Serves r InsertedKey (own (at m y))) → Holds r (own (at m y)) → Level r own m l y
level_held r own m l y there in_l moved held =
    record { gap = λ e. absurd (true≢false (sym there ∙ e)); moved = λ e h. moved h; changed = λ e h. held; above = λ e out. absurd (out in_l) }

-- A changed key is covered as a read needs it, and a moved one as a change does.
pub level_read : (r : Protocol) (own : Name → ℕ) (m : Map) (l : Changes) (y : ℕ) → Level r own m l y → ChangedIn l y → Serves r (read_cover (has m y)) (own (at m y))
level_read r own m l y x h = by (has m y) refl
  where
    by : (b : Bool) → has m y ≡ b → Serves r (read_cover b) (own (at m y))
    by true e = holds_read r (own (at m y)) (x.changed e h)
    by false e = weaken r (own (at m y)) false (x.gap e)

pub level_change : (r : Protocol) (own : Name → ℕ) (m : Map) (l : Changes) (y : ℕ) → Level r own m l y → MovedIn (moved_by m l) y → Serves r (change_cover (has m y)) (own (at m y))
level_change r own m l y x h = by (has m y) refl
  where
    by : (b : Bool) → has m y ≡ b → Serves r (change_cover b) (own (at m y))
    by true e = x.moved e h
    by false e = x.gap e

-- A step of another that leaves the guarded points their keys.
pub stack_frame : (r : Protocol) (own : Name → ℕ) (m n : Map) (l : Changes) → IsMap m → IsMap n → Agree m n l → Stack r own m l → Stack r own n l
stack_frame r own m n [] rm rn agree s = tt
stack_frame r own m n (c ∷ l) rm rn agree s = (
  (λ y g. let old = guard_frame m n (c ∷ l) y agree g in
      level_same r own own m n (c ∷ l) (c ∷ l) y (at-stable m n y rm rn (λ z reach. agree z (guard_closed m (c ∷ l) y z old reach))) (agree y old) (λ h. h) (λ h. h)
      (λ h. subst (λ xs. MovedIn xs y) (moved_frame m n (c ∷ l) (λ z in_l. agree z (guard_changed m (c ∷ l) z in_l))) h)
      (λ x sv. sv) (s.0 y old)),
  stack_frame r own (restore m c.0 c.1) (restore n c.0 c.1) l (IsMap-restore m c.0 c.1 rm) (IsMap-restore n c.0 c.1 rn) (agree_below m n c l agree) s.1,
)

-- Locks that only grow keep it.
pub stack_keeps : (r : Protocol) (own own' : Name → ℕ) (m : Map) (l : Changes) → ((name : Name) (c : Cover) → Serves r c (own name) → Serves r c (own' name)) → Stack r own m l → Stack r own' m l
stack_keeps r own own' m [] keeps s = tt
stack_keeps r own own' m (c ∷ l) keeps s =
    ((λ y g. level_same r own own' m m (c ∷ l) (c ∷ l) y refl refl (λ h. h) (λ h. h) (λ h. h) (keeps (at m y)) (s.0 y g)), stack_keeps r own own' (restore m c.0 c.1) l keeps s.1)

pub stack_top : (r : Protocol) (own : Name → ℕ) (m : Map) (l : Changes) (y : ℕ) → Stack r own m l → Guard m l y → Level r own m l y
stack_top r own m [] y s g = absurd g
stack_top r own m (c ∷ l) y s g = s.0 y g

-- A key that one more change isn't at.
changed_apart : (k : ℕ) (b : Option ℕ) (l : Changes) (y : ℕ) → y ≢ k → ChangedIn ((k, b) ∷ l) y → ChangedIn l y
changed_apart k b l y ne h = ⊎_elim (λ e. absurd (ne e)) (λ older. older) h

alike_put : (m : Map) (k : ℕ) (b : Option ℕ) → Alike k m (restore m k b)
alike_put m k b y ne = has_apart m k b y ne

-- An insert by the transaction puts a level on top.
pub stack_insert : (r : Protocol) (own own' : Name → ℕ) (m : Map) (l : Changes) (k v : ℕ) → IsMap m → get m k ≡ None
    → ((name : Name) (c : Cover) → Serves r c (own name) → Serves r c (own' name))
    → Serves r InsertedKey (own' (Key k))
    → (Serves r DeletedGap (own (at m k)) → Serves r DeletedGap (own' (Key k)))
    → Stack r own m l → Stack r own' (restore m k (Some v)) ((k, None) ∷ l)
stack_insert r own own' m l k v rm absent keeps key split s =
    let n = restore m k (Some v) in
    let more : Changes = (k, None) ∷ l in
    let rn = IsMap-restore m k (Some v) rm in
    let back : restore n k None ≡ m = sym (ap (λ b. restore n k b) absent) ∙ restore_back m k (Some v) rm in
    let there : has n k ≡ true = has_here m k (Some v) in
    let self : Serves r InsertedKey (own' (at n k)) = subst (λ z. Serves r InsertedKey (own' z)) (sym (at-unique n k k rn (reach-refl n k) there)) key in
    let at_k : Level r own' n more k = level_held r own' n more k there (inl refl) (λ h. self) (inl self) in
    let at_other : (y : ℕ) → y ≢ k → Guard m l y → Level r own' n more y = λ y ne g.
    let old = stack_top r own m l y s g in
    ⊎_elim
    (λ reach. let none : has m y ≡ false = reach.1 y (omega arith) (omega (arith, ne, reach.0)) in
    level_absent r own' n more y (alike_put m k (Some v) y ne ∙ none)
    (subst (λ z. Serves r DeletedGap (own' z)) (sym (at-insert m n k y rn (alike_put m k (Some v)) there reach))
    (split (subst (λ z. Serves r DeletedGap (own z)) (reach-at m y k rm reach) (old.gap none)))))
    (λ out. level_same r own own' m n l more y (at-stable m n y rm rn (alike-outside m n k y (alike_put m k (Some v)) out)) (alike_put m k (Some v) y ne)
    (changed_apart k None l y ne) (λ h. inr h)
    (λ h. ⊎_elim (λ e. absurd (ne e)) (λ older. older) (subst (λ xs. MovedIn xs y) (moved_push m k (Some v) None l rm absent) h))
    (keeps (at m y)) old)
    (reach-dec m y k rm) in (
      (λ y g. ⊎_elim (λ e. subst (λ z. Level r own' n more z) (sym e) at_k)
          (λ ne. ⊎_elim (λ here. absurd (true≢false (sym there ∙ here.1 k (omega arith) (omega (arith, ne, here.0)))))
          (λ old. at_other y ne (subst (λ z. Guard z l y) back old)) g)
          (cases_eq y k)),
      subst (λ z. Stack r own' z l) (sym back) (stack_keeps r own own' m l keeps s),
    )

-- And so does a delete.
pub stack_delete : (r : Protocol) (own own' : Name → ℕ) (m : Map) (l : Changes) (k v : ℕ) → IsMap m → get m k ≡ Some v
    → ((name : Name) (c : Cover) → Serves r c (own name) → Serves r c (own' name))
    → Serves r DeletedGap (own' (at m (suc k)))
    → Stack r own m l → Stack r own' (restore m k None) ((k, Some v) ∷ l)
stack_delete r own own' m l k v rm present keeps gap s =
    let n = restore m k None in
    let more : Changes = (k, Some v) ∷ l in
    let rn = IsMap-restore m k None rm in
    let alike = alike_put m k None in
    let back : restore n k (Some v) ≡ m = sym (ap (λ b. restore n k b) present) ∙ restore_back m k None rm in
    let gone : has n k ≡ false = has_here m k None in
    let named : at n k ≡ at m (suc k) = at-delete m n k k rm rn alike gone (reach-refl m k) in
    let absent_at : (y : ℕ) → has n y ≡ false → at n y ≡ at m (suc k) → Level r own' n more y = λ y none is.
    level_absent r own' n more y none (subst (λ z. Serves r DeletedGap (own' z)) (sym is) gap) in
    let moved_before : (y : ℕ) → y ≢ k → MovedIn (moved_by n more) y → MovedIn (moved_by m l) y = λ y ne h.
    ⊎_elim (λ e. absurd (ne e)) (λ older. older) (subst (λ xs. MovedIn xs y) (moved_push m k None (Some v) l rm present) h) in
    let kept : (y : ℕ) → y ≢ k → at n y ≡ at m y → Guard m l y → Level r own' n more y = λ y ne is g.
    level_same r own own' m n l more y is (alike y ne) (changed_apart k (Some v) l y ne) (λ h. inr h) (moved_before y ne) (keeps (at m y)) (stack_top r own m l y s g) in
    let upper : (y : ℕ) → Reach n k y → has n y ≡ true → Level r own' n more y = λ y reach there.
    let ne : y ≢ k = λ e. true≢false (sym there ∙ ap (has n) e ∙ gone) in
    let self_n : at n y ≡ Key y = at-unique n y y rn (reach-refl n y) there in
    let self_m : at m y ≡ Key y = at-unique m y y rm (reach-refl m y) (sym (alike y ne) ∙ there) in
    ⊎_elim
    (λ mine. kept y ne (self_n ∙ sym self_m) (guard_changed m l y mine))
    (λ not_mine. record {
      gap = λ e. absurd (true≢false (sym there ∙ e));
      moved = λ e h. absurd (not_mine (moved_changed m l y (moved_before y ne h)));
      changed = λ e h. absurd (not_mine (changed_apart k (Some v) l y ne h));
      above = λ e out. subst (λ z. Serves r DeletedGap (own' z)) (sym (sym (reach-at n k y rn reach) ∙ named)) gap;
    })
    (changed_or_not l y) in (
      (λ y g. ⊎_elim
          (λ here. ⊎_elim (λ there. upper y here there)
          (λ none. absent_at y none (sym (reach-at n k y rn here) ∙ named)) (cases_Bool (has n y)))
          (λ old. let g' = subst (λ z. Guard z l y) back old in
          ⊎_elim (λ reach. ⊎_elim
          (λ e. absent_at y (ap (has n) e ∙ gone) (at-delete m n k y rm rn alike gone reach))
          (λ ne. absent_at y (alike y ne ∙ reach.1 y (omega arith) (omega (arith, ne, reach.0))) (at-delete m n k y rm rn alike gone reach))
          (cases_eq y k))
          (λ out. kept y (λ e. out (subst (λ z. Reach m z k) (sym e) (reach-refl m k))) (at-stable m n y rm rn (alike-outside m n k y alike out)) g')
          (reach-dec m y k rm))
          g),
      subst (λ z. Stack r own' z l) (sym back) (stack_keeps r own own' m l keeps s),
    )

-- And so does an update.
pub stack_update : (r : Protocol) (own own' : Name → ℕ) (m : Map) (l : Changes) (k v w : ℕ) → IsMap m → get m k ≡ Some w
    → ((name : Name) (c : Cover) → Serves r c (own name) → Serves r c (own' name))
    → r.updates ≡ true → Serves r UpdatedKey (own' (Key k))
    → Stack r own m l → Stack r own' (restore m k (Some v)) ((k, Some w) ∷ l)
stack_update r own own' m l k v w rm present keeps up key s =
    let n = restore m k (Some v) in
    let more : Changes = (k, Some w) ∷ l in
    let rn = IsMap-restore m k (Some v) rm in
    let back : restore n k (Some w) ≡ m = sym (ap (λ b. restore n k b) present) ∙ restore_back m k (Some v) rm in
    let was : has m k ≡ true = has_some m k w present in
    let there : has n k ≡ true = has_here m k (Some v) in
    let same : (y : ℕ) → has n y ≡ has m y = λ y. ⊎_elim (λ e. ap (has n) e ∙ there ∙ sym (ap (has m) e ∙ was)) (λ ne. has_apart m k (Some v) y ne) (cases_eq y k) in
    let named : (y : ℕ) → at n y ≡ at m y = λ y. at-stable m n y rm rn (λ z reach. same z) in
    let moved_before : (y : ℕ) → MovedIn (moved_by n more) y → MovedIn (moved_by m l) y = λ y h. subst (λ xs. MovedIn xs y) (moved_push m k (Some v) (Some w) l rm present) h in
    let at_k : Level r own' n more k = level_held r own' n more k there (inl refl)
    (λ h. let older = moved_before k h in
    let old = stack_top r own m l k s (guard_changed m l k (moved_changed m l k older)) in
    subst (λ z. Serves r InsertedKey (own' z)) (sym (named k)) (keeps (at m k) InsertedKey (old.moved was older)))
    (inr (up, subst (λ z. Serves r UpdatedKey (own' z)) (sym (at-unique n k k rn (reach-refl n k) there)) key)) in (
      (λ y g. ⊎_elim (λ e. subst (λ z. Level r own' n more z) (sym e) at_k)
          (λ ne. ⊎_elim (λ here. absurd (true≢false (sym there ∙ here.1 k (omega arith) (omega (arith, ne, here.0)))))
          (λ old. level_same r own own' m n l more y (named y) (same y) (changed_apart k (Some w) l y ne) (λ h. inr h) (moved_before y) (keeps (at m y))
          (stack_top r own m l y s (subst (λ z. Guard z l y) back old))) g)
          (cases_eq y k)),
      subst (λ z. Stack r own' z l) (sym back) (stack_keeps r own own' m l keeps s),
    )
