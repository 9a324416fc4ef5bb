-- Each transaction can undo its changes one at a time: what a step has to show to keep that, and how each kind of step does.
use Rattle.std.proofs.Common.{ℕ, suc, ◌∷◌, Option, Some, None, ◌≡◌, ◌≢◌, ◌⊎◌, inl, inr, ⊎_elim, refl, sym, ap, ◌∙◌, true, false, subst}
use Rattle.kr_model.specs.declared.Name.{Name}
use Rattle.kr_model.specs.declared.Name.TheVariants.{Key}
use Rattle.kr_model.specs.declared.Row.TheVariants.{Insert, Delete}
use Rattle.kr_model.specs.declared.Side.TheVariants.{Current, Next}
use Rattle.kr_model.specs.declared.Cover.{Cover}
use Rattle.kr_model.specs.declared.Cover.TheVariants.{InsertedKey, DeletedGap, UpdatedKey}
use Rattle.kr_model.specs.Protocol.{Protocol}
use Rattle.kr_model.specs.Covers.{mode_after}
use Rattle.kr_model.specs.Map.{Map, IsMap, Changes, at, get, restore}
use Rattle.kr_model.proofs.Guarantees.{Serves}
use Rattle.kr_theorem.proofs.gaps.Gaps.{has, at-unique, reach-refl, Alike, reach-delete}
use Rattle.kr_theorem.proofs.gaps.Maps.{has_none, has_some}
use Rattle.kr_model.proofs.UndoLaws.{IsMap-restore}
use Rattle.kr_theorem.proofs.gaps.Undo.{changed_or_not, restore_here, restore_back}
use Rattle.kr_theorem.proofs.gaps.Moves.{MovedIn, has_apart, moved_by, moved_more, unmoved_back}
use Rattle.kr_theorem.proofs.step.Parts.{Part, Parts, blank, rolling_with, Moved, with_part, with_other, by_part, whose}
use Rattle.kr_theorem.proofs.step.Covers.{Modes, Granted, clash, Covered, Holds, holds_clash, both_conflict_delete}
use Rattle.kr_theorem.proofs.step.Guarded.{Taken, Guarded}
use Rattle.kr_theorem.proofs.step.Guards.{Guard, Stack, guard_frame, stack_frame, stack_keeps, stack_top, stack_insert, stack_delete, stack_update}
use Rattle.kr_theorem.proofs.step.Steps.{alone_there, insert_not_moved, delete_not_moved, delete_none_above}

-- What lets changes be undone one at a time.
pub record Undoable (p : Protocol) (m : Map) (own : Modes) (part : Parts) : Type 0 where
  -- in the present map, and in each that taking changes back leaves, what the changes left guard is covered
  pub levels : (t : ℕ) → Stack p (own t) m (part t).changes
  -- no other has moved a key that they guard
  pub outside : (t u y : ℕ) → u ≢ t → Moved (part u) y → Guard m (part t).changes y → ⊥

-- One step of t, from m to n, after which its part is q. It shows that no key comes or goes where another's changes guard; that its own levels are covered; and that
-- neither its moved keys are where another's changes guard, nor another's where its own do.
pub undoable_stepped : (p : Protocol) (m n : Map) → IsMap m → IsMap n → (own own' : Modes) (part : Parts) (t : ℕ) (q : Part)
    → Undoable p m own part
    → ((u : ℕ) → u ≢ t → (name : Name) → own' u name ≡ own u name)
    → ((u y : ℕ) → u ≢ t → Guard m (part u).changes y → has n y ≡ has m y)
    → Stack p (own' t) n q.changes
    → ((u y : ℕ) → u ≢ t → Moved q y → Guard m (part u).changes y → ⊥)
    → ((u y : ℕ) → u ≢ t → Moved (part u) y → Guard n q.changes y → ⊥)
    → Undoable p n own' (with_part part t q)
undoable_stepped p m n hm hn own own' part t q d others same levels mover guard = record {
  levels = by_part (λ u x. Stack p (own' u) n x.changes) part t q levels
      (λ u ne. stack_keeps p (own u) (own' u) n (part u).changes (λ name c s. subst (λ h. Serves p c h) (sym (others u ne name)) s)
      (stack_frame p (own u) m n (part u).changes hm hn (λ y g. same u y ne g) (d.levels u)));
  outside = λ w u y ne moved g. ⊎_elim
      (λ mine. let ut : u ≢ t = λ e. ne (e ∙ sym mine.0) in guard u y ut (subst (λ z. Moved z y) (with_other part t q u ut) moved) mine.1)
      (λ other. let old = guard_frame m n (part w).changes y (λ z h. same w z other.0 h) other.1 in
      ⊎_elim (λ mine. mover w y other.0 mine.1 old) (λ kept. d.outside w u y ne kept.1 old) (whose (λ z. Moved z y) part t q u moved))
      (whose (λ z. Guard n z.changes y) part t q w g);
}

module _ (p : Protocol) (m : Map) (hm : IsMap m) (own : Modes) (part : Parts) (g : Guarded p m own part) (d : Undoable p m own part) (t : ℕ) where
  -- What the changes guard --

  -- An insert is refused where another's changes guard the key.
  pub insert_unguarded : (u k : ℕ) → Granted p own t Insert Next (at m k) (own t (at m k)) → has m k ≡ false → u ≢ t → Guard m (part u).changes k → ⊥
  insert_unguarded u k granted absent other guarded =
      let top = stack_top p (own u) m (part u).changes k (d.levels u) guarded in
      clash p own t u Insert Next (at m k) (own t (at m k)) DeletedGap granted other (top.gap absent) (inr (inr (inr (inl refl)))) (g.range t (at m k)) (g.range t (at m k)) refl

  -- So is a delete.
  delete_unguarded : (u k : ℕ) → Granted p own t Delete Current (Key k) (own t (at m (suc k))) → has m k ≡ true → u ≢ t → Guard m (part u).changes k → ⊥
  delete_unguarded u k granted there other guarded =
      let top = stack_top p (own u) m (part u).changes k (d.levels u) guarded in
      let on = own t (at m (suc k)) in
      let named = at-unique m k k hm (reach-refl m k) there in
      ⊎_elim
      (λ mine. holds_clash p own t u Delete (Key k) on granted other (subst (λ z. Holds p (own u z)) named (top.changed there mine)) (both_conflict_delete p) (g.range t (Key k)) (g.range t (at m (suc k))))
      (λ out. clash p own t u Delete Current (Key k) on DeletedGap granted other (subst (λ z. Serves p DeletedGap (own u z)) named (top.above there out))
      (inr (inr (inr (inr (inl refl))))) (g.range t (Key k)) (g.range t (at m (suc k))) tt)
      (changed_or_not (part u).changes k)

  -- The steps --

  -- A step that changes nothing.
  pub undoable_same : (own' : Modes) (q : Part) → Taken p own own' t → q.changes ≡ (part t).changes → q.moved ≡ (part t).moved → Undoable p m own' (with_part part t q)
  undoable_same own' q taken same_changes same_moved =
      undoable_stepped p m m hm hm own own' part t q d taken.others (λ u y ne h. refl)
      (subst (λ l. Stack p (own' t) m l) (sym same_changes) (stack_keeps p (own t) (own' t) m (part t).changes taken.keeps (d.levels t)))
      (λ u y ne moved h. d.outside u t y (λ e. ne (sym e)) (subst (λ l. Moved (record q { moved = l }) y) same_moved moved) h)
      (λ u y ne moved h. d.outside t u y ne moved (subst (λ l. Guard m l y) same_changes h))

  module _ (own' : Modes) (taken : Taken p own own' t) (cov : Covered p) where
    -- An insert of k.
    pub undoable_insert : (q : Part) (k v : ℕ) → get m k ≡ None → q.changes ≡ (k, None) ∷ (part t).changes → q.moved ≡ k ∷ (part t).moved
        → Granted p own t Insert Next (at m k) (own t (at m k))
        → ((c : Cover) → Serves p c (mode_after p (own t (Key k)) (p.ask Insert Current (own t (at m k)))) → Serves p c (own' t (Key k)))
        → Undoable p (restore m k (Some v)) own' (with_part part t q)
    undoable_insert q k v none same_changes same_moved granted after =
        let n = restore m k (Some v) in
        let hn = IsMap-restore m k (Some v) hm in
        let absent = has_none m k none in
        let there = has_some n k v (restore_here m k (Some v)) in
        let back : restore n k None ≡ m = sym (ap (λ b. restore n k b) none) ∙ restore_back m k (Some v) hm in
        let here : (u : ℕ) → u ≢ t → Guard m (part u).changes k → ⊥ = λ u ne h. insert_unguarded u k granted absent ne h in
        undoable_stepped p m n hm hn own own' part t q d taken.others
        (λ u y ne h. has_apart m k (Some v) y (λ e. here u ne (subst (λ z. Guard m (part u).changes z) e h)))
        (subst (λ l. Stack p (own' t) n l) (sym same_changes)
        (stack_insert p (own t) (own' t) m (part t).changes k v hm none taken.keeps
        (after InsertedKey (cov.after_new_key (own t (at m k)) (own t (Key k)) (g.range t (at m k)) (g.range t (Key k))))
        (λ s. after DeletedGap (cov.after_split_deleted (own t (at m k)) (own t (Key k)) (g.range t (at m k)) (g.range t (Key k)) s))
        (d.levels t)))
        (λ u y ne moved h. ⊎_elim (λ e. here u ne (subst (λ z. Guard m (part u).changes z) e h)) (λ older. d.outside u t y (λ e. ne (sym e)) older h)
        (subst (λ l. Moved (record q { moved = l }) y) same_moved moved))
        (λ u y ne moved h. ⊎_elim
        (λ reach. insert_not_moved p m hm own part g t u k granted absent ne (subst (λ z. Moved (part u) z) (alone_there n k y there reach) moved))
        (λ older. d.outside t u y ne moved (subst (λ z. Guard z (part t).changes y) back older))
        (subst (λ l. Guard n l y) same_changes h))

    -- A delete of k.
    pub undoable_delete : (q : Part) (k v : ℕ) → get m k ≡ Some v → q.changes ≡ (k, Some v) ∷ (part t).changes → q.moved ≡ k ∷ (part t).moved
        → Granted p own t Delete Current (Key k) (own t (at m (suc k)))
        → Granted p own t Delete Next (at m (suc k)) (own t (at m (suc k)))
        → ((c : Cover) → Serves p c (mode_after p (own t (at m (suc k))) (p.ask Delete Next (own t (at m (suc k))))) → Serves p c (own' t (at m (suc k))))
        → Undoable p (restore m k None) own' (with_part part t q)
    undoable_delete q k v present same_changes same_moved current next after =
        let n = restore m k None in
        let hn = IsMap-restore m k None hm in
        let there = has_some m k v present in
        let alike : Alike k m n = λ y ne. has_apart m k None y ne in
        let back : restore n k (Some v) ≡ m = sym (ap (λ b. restore n k b) present) ∙ restore_back m k None hm in
        let here : (u : ℕ) → u ≢ t → Guard m (part u).changes k → ⊥ = λ u ne h. delete_unguarded u k current there ne h in
        undoable_stepped p m n hm hn own own' part t q d taken.others
        (λ u y ne h. alike y (λ e. here u ne (subst (λ z. Guard m (part u).changes z) e h)))
        (subst (λ l. Stack p (own' t) n l) (sym same_changes)
        (stack_delete p (own t) (own' t) m (part t).changes k v hm present taken.keeps (after DeletedGap (cov.after_removal (own t (at m (suc k))) (g.range t (at m (suc k))))) (d.levels t)))
        (λ u y ne moved h. ⊎_elim (λ e. here u ne (subst (λ z. Guard m (part u).changes z) e h)) (λ older. d.outside u t y (λ e. ne (sym e)) older h)
        (subst (λ l. Moved (record q { moved = l }) y) same_moved moved))
        (λ u y ne moved h. ⊎_elim
        (λ reach. ⊎_elim
        (λ was. delete_not_moved p m hm own part g t u k current there ne (subst (λ z. Moved (part u) z) (alone_there m k y there was) moved))
        (λ grown. delete_none_above p m hm own part g t u k y next ne moved grown.2)
        (reach-delete m n k k y alike reach))
        (λ older. d.outside t u y ne moved (subst (λ z. Guard z (part t).changes y) back older))
        (subst (λ l. Guard n l y) same_changes h))

    -- An update of k: no key comes or goes.
    pub undoable_update : (q : Part) (k v w : ℕ) → p.updates ≡ true → get m k ≡ Some w → q.changes ≡ (k, Some w) ∷ (part t).changes → q.moved ≡ (part t).moved
        → ((u : ℕ) → u ≢ t → Moved (part u) k → ⊥)
        → ((y : ℕ) → has (restore m k (Some v)) y ≡ has m y)
        → Serves p UpdatedKey (own' t (Key k))
        → Undoable p (restore m k (Some v)) own' (with_part part t q)
    undoable_update q k v w up present same_changes same_moved none same key =
        let n = restore m k (Some v) in
        let hn = IsMap-restore m k (Some v) hm in
        let there = has_some m k w present in
        let back : restore n k (Some w) ≡ m = sym (ap (λ b. restore n k b) present) ∙ restore_back m k (Some v) hm in
        undoable_stepped p m n hm hn own own' part t q d taken.others
        (λ u y ne h. same y)
        (subst (λ l. Stack p (own' t) n l) (sym same_changes) (stack_update p (own t) (own' t) m (part t).changes k v w hm present taken.keeps up key (d.levels t)))
        (λ u y ne moved h. d.outside u t y (λ e. ne (sym e)) (subst (λ l. Moved (record q { moved = l }) y) same_moved moved) h)
        (λ u y ne moved h. ⊎_elim
        (λ reach. none u ne (subst (λ z. Moved (part u) z) (alone_there n k y (same k ∙ there) reach) moved))
        (λ older. d.outside t u y ne moved (subst (λ z. Guard z (part t).changes y) back older))
        (subst (λ l. Guard n l y) same_changes h))

  -- A commit or an abort: only keys that t moved come or go.
  pub undoable_end : (n : Map) → IsMap n → (own' : Modes) → ((u : ℕ) → u ≢ t → (name : Name) → own' u name ≡ own u name) → ((y : ℕ) → (has n y ≡ has m y) ⊎ Moved (part t) y)
      → Undoable p n own' (with_part part t blank)
  undoable_end n hn own' others undone =
      undoable_stepped p m n hm hn own own' part t blank d others
      (λ u y ne h. ⊎_elim (λ same. same) (λ moved. absurd (d.outside u t y (λ e. ne (sym e)) moved h)) (undone y))
      tt (λ u y ne moved h. moved) (λ u y ne moved h. h)

  -- The newest change is undone: the level below is what has to hold.
  pub undoable_back : (c : ℕ × Option ℕ) (cs : Changes) → (part t).changes ≡ c ∷ cs → (part t).moved ≡ moved_by m (part t).changes
      → Undoable p (restore m c.0 c.1) own (with_part part t (rolling_with (restore m c.0 c.1) cs))
  undoable_back c cs is counted =
      let n = restore m c.0 c.1 in
      let hn = IsMap-restore m c.0 c.1 hm in
      let was : (y : ℕ) → MovedIn (moved_by m (c ∷ cs)) y → Moved (part t) y = λ y h. subst (λ xs. MovedIn xs y) (sym (counted ∙ ap (moved_by m) is)) h in
      let stack : Stack p (own t) m (c ∷ cs) = subst (λ l. Stack p (own t) m l) is (d.levels t) in
      undoable_stepped p m n hm hn own own part t (rolling_with n cs) d (λ u ne name. refl)
      (λ u y ne h. unmoved_back m c cs y (λ moved. d.outside u t y (λ z. ne (sym z)) (was y moved) h))
      stack.1
      (λ u y ne moved h. d.outside u t y (λ z. ne (sym z)) (was y (moved_more m c cs y moved)) h)
      (λ u y ne moved h. d.outside t u y ne moved (subst (λ l. Guard m l y) (sym is) (inr h)))
