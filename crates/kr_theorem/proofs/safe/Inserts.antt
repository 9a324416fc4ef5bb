-- An insert: the fixed protocol grants it, nobody else protects its key, and the lock states after it fit the state after it.
use Rattle.std.proofs.Common.{ℕ, ◌++◌, ◌≡◌, ◌≢◌, ◌⊎◌, inl, inr, ⊎_elim, refl, sym, ap, ◌∙◌, true, false, subst, true≢false}
use Rattle.std.proofs.lemmas.Bool.{cases_eq, cases_Bool}
use Rattle.std.specs.Prelude.{Some}
use Rattle.kr_model.specs.declared.Name.{Name}
use Rattle.kr_model.specs.declared.Name.TheVariants.{Key, End}
use Rattle.kr_model.specs.declared.Row.TheVariants.{Insert}
use Rattle.kr_model.specs.declared.Side.TheVariants.{Current, Next}
use Rattle.kr_model.specs.declared.Cover.{Cover}
use Rattle.kr_model.specs.Protocol.{Protocol, IsLawful}
use Rattle.kr_model.specs.Covers.{mode_after}
use Rattle.kr_model.specs.Map.{Map, IsMap, at}
use Rattle.kr_model.specs.Locks.{Locks, own}
use Rattle.kr_model.proofs.Guarantees.{Serves}
use Rattle.kr_model.proofs.Requests.{request_at, asks_one, asks_both, kept_locks}
use Rattle.kr_theorem.proofs.gaps.Gaps.{has, at-key, reach-at, reach-dec, at-stable, Alike, alike-outside, at-insert}
use Rattle.kr_theorem.proofs.gaps.Undo.{InsertedIn, inserted_changed}
use Rattle.kr_theorem.proofs.step.Parts.{Part, Parts, Moved, with_part}
use Rattle.kr_theorem.proofs.step.Covers.{Granted}
use Rattle.kr_theorem.proofs.step.Guarded.{Taken}
use Rattle.kr_theorem.proofs.step.Guards.{Guard, guard_changed}
use Rattle.kr_theorem.proofs.step.Steps.{insert_outside, insert_not_moved}
use Rattle.kr_theorem.proofs.step.Undoable.{insert_unguarded}
use Rattle.kr_theorem.proofs.step.Invariant.{Invariant, moved_touched}
use Rattle.kr_model.specs.declared.KeyUse.TheVariants.{Inserted as KeyInserted}
use Rattle.kr_model.specs.declared.GapUse.TheVariants.{Deleted as GapDeleted}
use Rattle.kr_model.specs.Safe.{free, start, IsIdle, asked, key_after, gap_after, MayBeOnAbsent, MayAsk, MayBeside, IsSafe}
use Rattle.kr_theorem.proofs.safe.Shape.{code, shape, in_count}
use Rattle.kr_theorem.proofs.safe.Stays.{stays}
use Rattle.kr_theorem.proofs.safe.Gains.{gains}
use Rattle.kr_theorem.proofs.safe.Holding.{Holds, modes, pick_second, IsVoid, granted_shape, same_rolls, voided, voided_at, voided_live, rolls_here, void_at}
use Rattle.kr_theorem.proofs.safe.Regrant.{key_is, regranted}
use Rattle.kr_theorem.proofs.safe.Placed.{Stands, at_stands, IsClear, stands_kept, placed_stepped, placed_voided}
use Rattle.kr_theorem.proofs.safe.Sim.{rolls, Sim, rolls_same, after_serves, gap_stays, gap_split, inserted_stays}
use Rattle.kr_theorem.proofs.safe.TwoRequests.{two_holds, two_locks, two_first, two_others, by_two, two_taken, two_paired, range, in_mode, reached}

module _ (p : Protocol) (laws : IsLawful p) (safe : IsSafe p) (m : Map) (l : Locks) (part : Parts) (hold : Holds) (c : Map) (i : Invariant shape m (modes hold) part c) (sim : Sim p m l part hold) (t : ℕ) (live : (part t).rolling ≡ false) (k : ℕ) where
  module _ (absent : has m k ≡ false) (granted_next : Granted p (own l) t Insert Next (at m k) (hold t (at m k)).mode) where
    abbrev x : Name
    x = at m k

    apart : x ≡ Key k → ⊥
    apart e = let z = at-key m k k i.is_map e in true≢false (sym z.1 ∙ absent)

    there : (hold t x).deleted ≡ false
    there = stands_kept p m part hold sim.placed t x live (at_stands m k i.is_map)

    -- The fixed protocol grants it on the next name.
    pub next_granted : Granted shape (modes hold) t Insert Next x (modes hold t x)
    next_granted = granted_shape p laws (rolls part) l hold sim.paired t live safe Insert Next x free start there granted_next tt (modes hold t x)

    -- So no other transaction guards the key or has moved it.
    unguarded : (u : ℕ) → u ≢ t → Guard m (part u).changes k → ⊥
    unguarded u ne g = insert_unguarded shape m i.is_map (modes hold) part i.guarded i.undoable t u k next_granted absent ne g

    unmoved : (u : ℕ) → u ≢ t → Moved (part u) k → ⊥
    unmoved u ne h = insert_not_moved shape m i.is_map (modes hold) part i.guarded t u k next_granted absent ne h

    clear_live : (u : ℕ) → u ≢ t → (part u).rolling ≡ false → IsClear (hold u (Key k))
    clear_live u ne lu =
        let w = sim.placed in
        let kept : (hold u (Key k)).deleted ≡ false = ⊎_elim
        (λ e. let d = w.gone u (Key k) lu e in absurd (unmoved u ne (subst (λ z. Moved (part u) z) (sym (key_is k d.0 d.1)) d.3))) (λ e. e) (cases_Bool (hold u (Key k)).deleted) in
        (⊎_elim (λ z. z) (λ z. absurd (true≢false (sym z ∙ absent))) (w.there u (Key k) lu kept), kept)

    -- The lock states on the key of those who roll back are voided.
    abbrev pub now_void : Holds
    now_void = voided hold (rolls part) (Key k)

    not_t : (u : ℕ) → (part u).rolling ≡ true → u ≢ t
    not_t u rolling e = true≢false (sym rolling ∙ ap (rolls part) e ∙ live)

    pub void_inv : Invariant shape m (modes now_void) part c
    void_inv = regranted shape m (modes hold) (modes now_void) part c i (λ u n. in_count (now_void u n).key (now_void u n).gap)
        (λ u n. ⊎_elim
        (λ e. inr (k, e.1, absent, unguarded u (not_t u e.0)))
        (λ d. inl (ap (λ h. code h.key h.gap) (pick_second (rolls_here (rolls part) (Key k) u n) _ (hold u n) d)))
        (rolls_here (rolls part) (Key k) u n))

    -- None of them has inserted the key.
    none_inserted : (u j : ℕ) → (part u).rolling ≡ true → Key j ≡ Key k → InsertedIn (part u).changes j → ⊥
    none_inserted u j rolling e h =
        unguarded u (not_t u rolling) (guard_changed m (part u).changes k (inserted_changed (part u).changes k (subst (λ z. InsertedIn (part u).changes z) (key_is j k e) h)))

    pub void_sim : Sim p m l part now_void
    void_sim = record { locks = sim.locks; paired = void_at p (rolls part) l hold (Key k) sim.paired; placed = placed_voided p m part hold (Key k) none_inserted sim.placed }

    pub void_clear : (u : ℕ) → u ≢ t → ((part u).rolling ≡ false → IsClear (now_void u (Key k))) × (MayBeside p Insert Current (now_void u (Key k)) ⊎ IsVoid (rolls part u) (now_void u (Key k)))
    void_clear u ne = ⊎_elim
        (λ rolling. ((λ lu. absurd (true≢false (sym rolling ∙ lu))), inr (voided_at hold (rolls part) (Key k) u rolling)))
        (λ lu. let z = clear_live u ne lu in
        let w = sim.placed in
        let same = voided_live hold (rolls part) (Key k) u (Key k) lu in
        ((λ y. subst (λ h. IsClear h) (sym same) z), inl (subst (λ h. MayBeside p Insert Current h) (sym same) (z.1, z.0, w.absent u k lu absent z.1))))
        (cases_Bool (part u).rolling)

    -- The transaction may request on the key.
    pub may_insert : MayAsk p Insert Current (hold t (Key k)) (hold t x)
    may_insert =
        let w = sim.placed in (
          there,
          ⊎_elim
              (λ e. inr (e, w.guard t k live e))
              (λ e. inl (e, ⊎_elim (λ z. z) (λ z. absurd (true≢false (sym z ∙ absent))) (w.there t (Key k) live e), w.absent t k live absent e))
              (cases_Bool (hold t (Key k)).deleted),
        )

-- Where others protect nothing on the key, the lock states after an insert of it fit the state after it.
module _ (p : Protocol) (laws : IsLawful p) (safe : IsSafe p) (m n : Map) (l : Locks) (part : Parts) (hold : Holds) (c : Map) (i : Invariant shape m (modes hold) part c) (sim : Sim p m l part hold) (t : ℕ) (live : (part t).rolling ≡ false) (k : ℕ)
    (hn : IsMap n) (absent : has m k ≡ false) (present : has n k ≡ true) (alike : Alike k m n) (granted_next : Granted p (own l) t Insert Next (at m k) (hold t (at m k)).mode) (granted_key : Granted p (own l) t Insert Current (Key k) (hold t (at m k)).mode)
    (clear : (u : ℕ) → u ≢ t → ((part u).rolling ≡ false → IsClear (hold u (Key k))) × (MayBeside p Insert Current (hold u (Key k)) ⊎ IsVoid (rolls part u) (hold u (Key k))))
    (q : Part) (moved_in : (y : ℕ) → Moved q y → (Moved (part t) y) ⊎ (y ≡ k)) (moved_old : (y : ℕ) → Moved (part t) y → Moved q y) (same_rolling : q.rolling ≡ (part t).rolling) (inserted_in : (y : ℕ) → InsertedIn q.changes y → (InsertedIn (part t).changes y) ⊎ (y ≡ k)) where
  abbrev pub y : Name
  y = at m k

  pub away : y ≡ Key k → ⊥
  away = apart p laws safe m l part hold c i sim t live k absent granted_next

  abbrev pub insert_holds : Holds
  insert_holds = two_holds p laws (rolls part) l hold sim.paired (range p laws safe m l part hold c i sim t live k) t live Insert (Key k) y away

  abbrev pub insert_locks : Locks
  insert_locks = two_locks p laws (rolls part) l hold sim.paired (range p laws safe m l part hold c i sim t live k) t live Insert (Key k) y away

  stands_more : (z : Name) → Stands m z → Stands n z
  stands_more End s = tt
  stands_more (Key j) s = ⊎_elim (λ e. ap (has n) e ∙ present) (λ d. alike j d ∙ s) (cases_eq j k)

  pub insert_taken : Taken shape (modes hold) (modes insert_holds) t
  insert_taken = two_taken p laws (rolls part) l hold sim.paired (range p laws safe m l part hold c i sim t live k) t live Insert (Key k) y away

  pub insert_after : (d : Cover) → Serves shape d (mode_after shape (modes hold t (Key k)) (shape.ask Insert Current (modes hold t y))) → Serves shape d (modes insert_holds t (Key k))
  insert_after d sv =
      let a = hold t (Key k) in
      let b = hold t y in
      subst (λ h. Serves shape d (code h.key h.gap)) (sym (two_first p laws (rolls part) l hold sim.paired (range p laws safe m l part hold c i sim t live k) t live Insert (Key k) y away))
      (after_serves (shape.ask Insert Current (code b.key b.gap)) (code a.key a.gap) (code (key_after Insert Current a.key) (gap_after Insert Current a.gap b.gap))
      (gains Insert Current a.key a.gap b.key b.gap) (stays Insert Current a.key a.gap b.gap) d sv)

  pub insert_sim : Sim p n insert_locks (with_part part t q) insert_holds
  insert_sim =
      let w = sim.placed in
      let other = two_others p laws (rolls part) l hold sim.paired (range p laws safe m l part hold c i sim t live k) t live Insert (Key k) y away in
      let both = by_two p laws (rolls part) l hold sim.paired (range p laws safe m l part hold c i sim t live k) t live Insert (Key k) y away in
      let in_y = in_mode p laws safe m l part hold c i sim t live k y in
      record {
        locks = kept_locks p laws l t (request_at (Some (Key k)) (asked p Insert Current (hold t (Key k)) (hold t y)) ++ request_at (Some y) (asked p Insert Next (hold t y) free))
            (asks_both p (request_at (Some (Key k)) (asked p Insert Current (hold t (Key k)) (hold t y))) (request_at (Some y) (asked p Insert Next (hold t y) free))
            (asks_one p laws (Some (Key k)) Insert Current (hold t y).mode in_y) (asks_one p laws (Some y) Insert Next (hold t y).mode in_y)) sim.locks;
        paired = same_rolls p (rolls part) (rolls (with_part part t q)) insert_locks insert_holds
            (two_paired p laws (rolls part) l hold sim.paired (range p laws safe m l part hold c i sim t live k) t live Insert (Key k) y away
            (reached p laws safe m l part hold c i sim t live k y)
            (may_insert p laws safe m l part hold c i sim t live k absent granted_next)
            (stands_kept p m part hold w t y live (at_stands m k i.is_map))
            (λ u ne. let z = clear u ne in z.1) (λ u. tt) granted_key granted_next in_y in_y)
            (rolls_same part t q same_rolling);
        placed = placed_stepped p m n part hold insert_holds t q w
            (λ u z ne. other u z ne)
            (λ u z ne lu. ⊎_elim (λ e. inr (subst (λ v. IsClear (hold u (Key v))) (sym e) (let f = clear u ne in f.0 lu))) (λ d. inl (alike z d)) (cases_eq z k))
            (λ lq z. both (λ v h. h.deleted ≡ false → IsIdle h ⊎ Stands n v) (λ e. inr present) (λ e. inr (stands_more y (at_stands m k i.is_map)))
            (λ v a b e. ⊎_elim (λ idle. inl idle) (λ s. inr (stands_more v s)) (w.there t v live e)) z)
            (λ lq z. both (λ v h. h.deleted ≡ true → (j : ℕ) × (v ≡ Key j) × (has n j ≡ false) × Moved q j) (λ e. absurd (true≢false (sym e))) (λ e. absurd (true≢false (sym e)))
            (λ v a b e. let d = w.gone t v live e in (d.0, d.1, alike d.0 (λ f. a (d.1 ∙ ap (λ o. Key o) f)) ∙ d.2, moved_old d.0 d.3)) z)
            (λ u j ne lu h. ⊎_elim (λ old. w.mine t u j ne lu old) (λ e. subst (λ v. IsClear (hold u (Key v))) (sym e) (let f = clear u ne in f.0 lu)) (moved_in j h))
            (λ v j ne lq h. both (λ z g. z ≡ Key j → IsClear g)
            (λ e. absurd (unmoved p laws safe m l part hold c i sim t live k absent granted_next v ne (subst (λ z. Moved (part v) z) (sym (key_is k j e)) h)))
            (λ e. let z : IsClear (hold t y) = subst (λ o. IsClear (hold t o)) (sym e) (w.mine v t j (λ f. ne (sym f)) live h) in let idle = z.0 in (record { key = idle.key; gap = idle.gap }, refl))
            (λ z a b e. subst (λ o. IsClear (hold t o)) (sym e) (w.mine v t j (λ f. ne (sym f)) live h))
            (Key j) refl)
            (λ u j ne lu moved. at-stable m n j i.is_map hn (alike-outside m n k j alike (λ reach. insert_outside shape m i.is_map (modes hold) part i.guarded t u k j (next_granted p laws safe m l part hold c i sim t live k absent granted_next) absent ne (moved_touched shape m (modes hold) part i.owned u j moved) reach)))
            (λ lq j e.
            let was = both (λ v h. v ≡ Key j → h.deleted ≡ true → (hold t v).deleted ≡ true) (λ f d. absurd (true≢false (sym d))) (λ f d. absurd (true≢false (sym d))) (λ v a b f d. d) (Key j) refl e in
            let gap = w.guard t j live was in
            let keeps = both (λ v h. (hold t v).gap ≡ GapDeleted → h.gap ≡ GapDeleted) (λ d. gap_stays Insert Current (hold t (Key k)).gap (hold t y).gap d) (λ d. gap_stays Insert Next (hold t y).gap free.gap d) (λ v a b d. d) in
            ⊎_elim
            (λ reach. ap (λ v. (insert_holds t v).gap) (at-insert m n k j hn alike present reach)
            ∙ ap (λ h. h.gap) (two_first p laws (rolls part) l hold sim.paired (range p laws safe m l part hold c i sim t live k) t live Insert (Key k) y away)
            ∙ gap_split (hold t (Key k)).gap (hold t y).gap (sym (ap (λ v. (hold t v).gap) (reach-at m j k i.is_map reach)) ∙ gap))
            (λ out. ap (λ v. (insert_holds t v).gap) (at-stable m n j i.is_map hn (alike-outside m n k j alike out)) ∙ keeps (at m j) gap)
            (reach-dec m j k i.is_map))
            (λ u j ne lu e none. absurd (true≢false (sym (stands_more (Key j) e) ∙ none)))
            (λ lq j none. both (λ v h. v ≡ Key j → h.deleted ≡ false → MayBeOnAbsent p h.mode)
            (λ f d. absurd (true≢false (sym present ∙ ap (has n) (key_is k j f) ∙ none)))
            (λ f d. absurd (true≢false (sym (subst (λ v. Stands n v) f (stands_more y (at_stands m k i.is_map))) ∙ none)))
            (λ v a b f d. subst (λ o. MayBeOnAbsent p (hold t o).mode) (sym f)
            (w.absent t j live (sym (alike j (λ e. a (f ∙ ap (λ o. Key o) e))) ∙ none) (subst (λ o. (hold t o).deleted ≡ false) f d)))
            (Key j) refl)
            (λ j h. both (λ v g. v ≡ Key j → g.key ≡ KeyInserted) (λ f. refl)
            (λ f. inserted_stays Insert Next (hold t y).key (ap (λ o. (hold t o).key) f ∙ old_put j f h))
            (λ v a b f. ap (λ o. (hold t o).key) f ∙ ⊎_elim (λ old. w.put t j old) (λ e. absurd (a (f ∙ ap (λ o. Key o) e))) (inserted_in j h))
            (Key j) refl);
      }
    where
      old_put : (j : ℕ) → y ≡ Key j → InsertedIn q.changes j → (hold t (Key j)).key ≡ KeyInserted
      old_put j f h = let w = sim.placed in ⊎_elim (λ old. w.put t j old) (λ e. absurd (away (f ∙ ap (λ o. Key o) e))) (inserted_in j h)
