-- A delete: the fixed protocol grants it, and the lock states after it fit the state after it.
use Rattle.std.proofs.Common.{ℕ, suc, ◌++◌, ◌≡◌, ◌≢◌, ◌⊎◌, inl, inr, ⊎_elim, refl, sym, ap, ◌∙◌, true, false, subst, true≢false, arith}
use Rattle.std.proofs.lemmas.Bool.{cases_eq}
use Rattle.std.specs.Prelude.{◌||◌, Some}
use Rattle.kr_model.specs.declared.Name.{Name}
use Rattle.kr_model.specs.declared.Name.TheVariants.{Key, End}
use Rattle.kr_model.specs.declared.Row.TheVariants.{Delete}
use Rattle.kr_model.specs.declared.Side.TheVariants.{Current, Next}
use Rattle.kr_model.specs.declared.Cover.{Cover}
use Rattle.kr_model.specs.Protocol.{Protocol, IsLawful}
use Rattle.kr_model.specs.Covers.{mode_after}
use Rattle.kr_model.specs.Map.{Map, IsMap, at}
use Rattle.kr_model.specs.Locks.{Locks, own}
use Rattle.kr_model.proofs.Guarantees.{Serves, Conflicts}
use Rattle.kr_model.proofs.Requests.{request_at, asks_one, asks_both, kept_locks}
use Rattle.kr_theorem.proofs.gaps.Gaps.{has, Reach, at-key, reach-refl, reach-dec, at-stable, Alike, alike-outside, at-delete}
use Rattle.kr_theorem.proofs.gaps.Undo.{InsertedIn}
use Rattle.kr_theorem.proofs.step.Parts.{Part, Parts, Moved, with_part}
use Rattle.kr_theorem.proofs.step.Covers.{Granted}
use Rattle.kr_theorem.proofs.step.Guarded.{Taken}
use Rattle.kr_theorem.proofs.step.Steps.{delete_outside, delete_not_moved}
use Rattle.kr_theorem.proofs.step.Invariant.{Invariant, moved_touched}
use Rattle.kr_model.specs.declared.KeyUse.{KeyUse}
use Rattle.kr_model.specs.declared.KeyUse.TheVariants.{Free as KeyFree, Read as KeyRead, Updated as KeyUpdated, Inserted as KeyInserted}
use Rattle.kr_model.specs.declared.GapUse.{GapUse}
use Rattle.kr_model.specs.declared.GapUse.TheVariants.{Free as GapFree, Read as GapRead, Deleted as GapDeleted}
use Rattle.kr_model.specs.declared.LockState.{LockState}
use Rattle.kr_model.specs.Safe.{free, start, IsIdle, by_key, by_gap, keeps_out, asked, key_after, gap_after, LetsDelete, MayBeOnAbsent, MayAsk, IsSafe}
use Rattle.kr_theorem.proofs.safe.Shape.{code, shape}
use Rattle.kr_theorem.proofs.safe.Stays.{stays}
use Rattle.kr_theorem.proofs.safe.Gains.{gains}
use Rattle.kr_theorem.proofs.safe.Holding.{Holds, modes, open_of, granted_out, granted_shape, same_rolls}
use Rattle.kr_theorem.proofs.safe.Regrant.{key_is}
use Rattle.kr_theorem.proofs.safe.Placed.{Stands, at_stands, IsClear, stands_kept, placed_stepped}
use Rattle.kr_theorem.proofs.safe.Sim.{rolls, Sim, rolls_same, after_serves, moved_out, gap_stays, inserted_stays}
use Rattle.kr_theorem.proofs.safe.TwoRequests.{two_holds, two_locks, two_second, two_others, by_two, two_taken, two_paired, range, in_mode, reached}

-- A lock that protects anything on a key has to block a delete of it.
idle_or_out : (h : LockState) → IsIdle h ⊎ (keeps_out h Delete Current ≡ true)
idle_or_out h = by h.key h.gap refl refl
  where
    by : (a : KeyUse) (b : GapUse) → h.key ≡ a → h.gap ≡ b → IsIdle h ⊎ (keeps_out h Delete Current ≡ true)
    by KeyFree GapFree e f = inl (record { key = e; gap = f })
    by KeyFree GapRead e f = inr (ap (λ a. by_key a Delete Current || by_gap h.gap Delete Current) e ∙ ap (λ b. by_key KeyFree Delete Current || by_gap b Delete Current) f)
    by KeyFree GapDeleted e f = inr (ap (λ a. by_key a Delete Current || by_gap h.gap Delete Current) e ∙ ap (λ b. by_key KeyFree Delete Current || by_gap b Delete Current) f)
    by KeyRead GapFree e f = inr (ap (λ a. by_key a Delete Current || by_gap h.gap Delete Current) e ∙ ap (λ b. by_key KeyRead Delete Current || by_gap b Delete Current) f)
    by KeyRead GapRead e f = inr (ap (λ a. by_key a Delete Current || by_gap h.gap Delete Current) e ∙ ap (λ b. by_key KeyRead Delete Current || by_gap b Delete Current) f)
    by KeyRead GapDeleted e f = inr (ap (λ a. by_key a Delete Current || by_gap h.gap Delete Current) e ∙ ap (λ b. by_key KeyRead Delete Current || by_gap b Delete Current) f)
    by KeyUpdated GapFree e f = inr (ap (λ a. by_key a Delete Current || by_gap h.gap Delete Current) e ∙ ap (λ b. by_key KeyUpdated Delete Current || by_gap b Delete Current) f)
    by KeyUpdated GapRead e f = inr (ap (λ a. by_key a Delete Current || by_gap h.gap Delete Current) e ∙ ap (λ b. by_key KeyUpdated Delete Current || by_gap b Delete Current) f)
    by KeyUpdated GapDeleted e f = inr (ap (λ a. by_key a Delete Current || by_gap h.gap Delete Current) e ∙ ap (λ b. by_key KeyUpdated Delete Current || by_gap b Delete Current) f)
    by KeyInserted GapFree e f = inr (ap (λ a. by_key a Delete Current || by_gap h.gap Delete Current) e ∙ ap (λ b. by_key KeyInserted Delete Current || by_gap b Delete Current) f)
    by KeyInserted GapRead e f = inr (ap (λ a. by_key a Delete Current || by_gap h.gap Delete Current) e ∙ ap (λ b. by_key KeyInserted Delete Current || by_gap b Delete Current) f)
    by KeyInserted GapDeleted e f = inr (ap (λ a. by_key a Delete Current || by_gap h.gap Delete Current) e ∙ ap (λ b. by_key KeyInserted Delete Current || by_gap b Delete Current) f)

-- A delete of a key that is there.
module _ (p : Protocol) (laws : IsLawful p) (safe : IsSafe p) (m n : Map) (l : Locks) (part : Parts) (hold : Holds) (c : Map) (i : Invariant shape m (modes hold) part c) (sim : Sim p m l part hold) (t : ℕ) (live : (part t).rolling ≡ false) (k : ℕ)
    (hn : IsMap n) (present : has m k ≡ true) (gone : has n k ≡ false) (alike : Alike k m n)
    (granted_key : Granted p (own l) t Delete Current (Key k) (hold t (at m (suc k))).mode) (granted_next : Granted p (own l) t Delete Next (at m (suc k)) (hold t (at m (suc k))).mode)
    (q : Part) (moved_in : (y : ℕ) → Moved q y → (Moved (part t) y) ⊎ (y ≡ k)) (moved_old : (y : ℕ) → Moved (part t) y → Moved q y) (moved_new : Moved q k) (same_rolling : q.rolling ≡ (part t).rolling) (older : (y : ℕ) → InsertedIn q.changes y → InsertedIn (part t).changes y) where
  abbrev pub up : Name
  up = at m (suc k)

  pub up_apart : up ≡ Key k → ⊥
  up_apart e = let z = at-key m (suc k) k i.is_map e in absurd (omega (arith, z.0))

  abbrev pub delete_holds : Holds
  delete_holds = two_holds p laws (rolls part) l hold sim.paired (range p laws safe m l part hold c i sim t live k) t live Delete (Key k) up up_apart

  abbrev pub delete_locks : Locks
  delete_locks = two_locks p laws (rolls part) l hold sim.paired (range p laws safe m l part hold c i sim t live k) t live Delete (Key k) up up_apart

  may_key : MayAsk p Delete Current (hold t (Key k)) (hold t up)
  may_key = (stands_kept p m part hold sim.placed t (Key k) live present, stands_kept p m part hold sim.placed t up live (at_stands m (suc k) i.is_map))

  may_next : MayAsk p Delete Next (hold t up) free
  may_next = stands_kept p m part hold sim.placed t up live (at_stands m (suc k) i.is_map)

  pub key_granted : Granted shape (modes hold) t Delete Current (Key k) (modes hold t up)
  key_granted = granted_shape p laws (rolls part) l hold sim.paired t live safe Delete Current (Key k) (hold t up) (reached p laws safe m l part hold c i sim t live k up) may_key granted_key tt (modes hold t up)

  pub above_granted : Granted shape (modes hold) t Delete Next up (modes hold t up)
  above_granted = granted_shape p laws (rolls part) l hold sim.paired t live safe Delete Next up free start may_next granted_next tt (modes hold t up)

  pub delete_taken : Taken shape (modes hold) (modes delete_holds) t
  delete_taken = two_taken p laws (rolls part) l hold sim.paired (range p laws safe m l part hold c i sim t live k) t live Delete (Key k) up up_apart

  pub delete_after : (d : Cover) → Serves shape d (mode_after shape (modes hold t up) (shape.ask Delete Next (modes hold t up))) → Serves shape d (modes delete_holds t up)
  delete_after d sv =
      let b = hold t up in
      subst (λ h. Serves shape d (code h.key h.gap)) (sym (two_second p laws (rolls part) l hold sim.paired (range p laws safe m l part hold c i sim t live k) t live Delete (Key k) up up_apart))
      (after_serves (shape.ask Delete Next (code b.key b.gap)) (code b.key b.gap) (code (key_after Delete Next b.key) (gap_after Delete Next b.gap free.gap))
      (gains Delete Next b.key b.gap b.key b.gap) (stays Delete Next b.key b.gap free.gap) d sv)

  clear_deleted : (u : ℕ) → u ≢ t → (part u).rolling ≡ false → IsClear (hold u (Key k))
  clear_deleted u ne lu = (
    ⊎_elim (λ z. z)
        (λ o. absurd (granted_out p laws (rolls part) l hold sim.paired t live safe Delete Current (Key k) (hold t up) (reached p laws safe m l part hold c i sim t live k up) may_key granted_key u ne o))
        (idle_or_out (hold u (Key k))),
    stands_kept p m part hold sim.placed u (Key k) lu present,
  )

  -- The delete is granted beside every lock on the key.
  lets_delete : (u : ℕ) → u ≢ t → LetsDelete p (hold u (Key k)).mode
  lets_delete u ne =
      let pr = sim.paired in
      record {
        own = (hold t (Key k)).mode;
        next = (hold t up).mode;
        own_within = in_mode p laws safe m l part hold c i sim t live k (Key k);
        next_within = in_mode p laws safe m l part hold c i sim t live k up;
        granted = open_of p (hold u (Key k)).mode (hold t (Key k)).mode (p.ask Delete Current (hold t up).mode)
            (λ conflict. granted_key u ne (subst (λ h. Conflicts p h (own l t (Key k)) (p.ask Delete Current (hold t up).mode)) (pr.mode u (Key k))
            (subst (λ o. Conflicts p (hold u (Key k)).mode o (p.ask Delete Current (hold t up).mode)) (pr.mode t (Key k)) conflict)));
      }

  stands_less : (z : Name) → (z ≡ Key k → ⊥) → Stands m z → Stands n z
  stands_less End d s = tt
  stands_less (Key j) d s = alike j (λ e. d (ap (λ o. Key o) e)) ∙ s

  pub delete_sim : Sim p n delete_locks (with_part part t q) delete_holds
  delete_sim =
      let w = sim.placed in
      let other = two_others p laws (rolls part) l hold sim.paired (range p laws safe m l part hold c i sim t live k) t live Delete (Key k) up up_apart in
      let both = by_two p laws (rolls part) l hold sim.paired (range p laws safe m l part hold c i sim t live k) t live Delete (Key k) up up_apart in
      let in_y = in_mode p laws safe m l part hold c i sim t live k up in
      record {
        locks = kept_locks p laws l t (request_at (Some (Key k)) (asked p Delete Current (hold t (Key k)) (hold t up)) ++ request_at (Some up) (asked p Delete Next (hold t up) free))
            (asks_both p (request_at (Some (Key k)) (asked p Delete Current (hold t (Key k)) (hold t up))) (request_at (Some up) (asked p Delete Next (hold t up) free))
            (asks_one p laws (Some (Key k)) Delete Current (hold t up).mode in_y) (asks_one p laws (Some up) Delete Next (hold t up).mode in_y)) sim.locks;
        paired = same_rolls p (rolls part) (rolls (with_part part t q)) delete_locks delete_holds
            (two_paired p laws (rolls part) l hold sim.paired (range p laws safe m l part hold c i sim t live k) t live Delete (Key k) up up_apart
            (reached p laws safe m l part hold c i sim t live k up) may_key may_next (λ u ne. inl tt) (λ u. tt) granted_key granted_next in_y in_y)
            (rolls_same part t q same_rolling);
        placed = placed_stepped p m n part hold delete_holds t q w
            (λ u z ne. other u z ne)
            (λ u z ne lu. ⊎_elim (λ e. inr (subst (λ v. IsClear (hold u (Key v))) (sym e) (clear_deleted u ne lu))) (λ d. inl (alike z d)) (cases_eq z k))
            (λ lq z. both (λ v h. h.deleted ≡ false → IsIdle h ⊎ Stands n v) (λ e. absurd (true≢false e)) (λ e. inr (stands_less up up_apart (at_stands m (suc k) i.is_map)))
            (λ v a b e. ⊎_elim (λ idle. inl idle) (λ s. inr (stands_less v a s)) (w.there t v live e)) z)
            (λ lq z. both (λ v h. h.deleted ≡ true → (j : ℕ) × (v ≡ Key j) × (has n j ≡ false) × Moved q j) (λ e. (k, refl, gone, moved_new)) (λ e. absurd (true≢false (sym e)))
            (λ v a b e. let d = w.gone t v live e in (d.0, d.1, alike d.0 (λ f. a (d.1 ∙ ap (λ o. Key o) f)) ∙ d.2, moved_old d.0 d.3)) z)
            (λ u j ne lu h. ⊎_elim (λ old. w.mine t u j ne lu old) (λ e. subst (λ v. IsClear (hold u (Key v))) (sym e) (clear_deleted u ne lu)) (moved_in j h))
            (λ v j ne lq h. both (λ z g. z ≡ Key j → IsClear g)
            (λ e. absurd (delete_not_moved shape m i.is_map (modes hold) part i.guarded t v k key_granted present ne (subst (λ z. Moved (part v) z) (sym (key_is k j e)) h)))
            (λ e. absurd (granted_out p laws (rolls part) l hold sim.paired t live safe Delete Next up free start may_next granted_next v ne
            (subst (λ o. keeps_out (hold v o) Delete Next ≡ true) (sym e) (moved_out m hold part c i v j h (subst (λ o. Stands m o) e (at_stands m (suc k) i.is_map)) Delete Next refl))))
            (λ z a b e. subst (λ o. IsClear (hold t o)) (sym e) (w.mine v t j (λ f. ne (sym f)) live h))
            (Key j) refl)
            (λ u j ne lu moved. at-stable m n j i.is_map hn (alike-outside m n k j alike (λ reach. delete_outside shape m i.is_map (modes hold) part i.guarded t u k j key_granted present ne (moved_touched shape m (modes hold) part i.owned u j moved) reach)))
            (λ lq j e.
            let at_y : (Reach m j k) → (delete_holds t (at n j)).gap ≡ GapDeleted = λ reach. ap (λ v. (delete_holds t v).gap) (at-delete m n k j i.is_map hn alike gone reach)
            ∙ ap (λ h. h.gap) (two_second p laws (rolls part) l hold sim.paired (range p laws safe m l part hold c i sim t live k) t live Delete (Key k) up up_apart) in
            let keeps = both (λ v h. (hold t v).gap ≡ GapDeleted → h.gap ≡ GapDeleted) (λ d. gap_stays Delete Current (hold t (Key k)).gap (hold t up).gap d) (λ d. refl) (λ v a b d. d) in
            ⊎_elim at_y
            (λ out. let apart_k : j ≢ k = λ f. out (subst (λ v. Reach m v k) (sym f) (reach-refl m k)) in
            let was = both (λ v h. v ≡ Key j → h.deleted ≡ true → (hold t v).deleted ≡ true) (λ f d. absurd (apart_k (sym (key_is k j f)))) (λ f d. absurd (true≢false (sym d))) (λ v a b f d. d) (Key j) refl e in
            ap (λ v. (delete_holds t v).gap) (at-stable m n j i.is_map hn (alike-outside m n k j alike out)) ∙ keeps (at m j) (w.guard t j live was))
            (reach-dec m j k i.is_map))
            (λ u j ne lu e none. inl (⊎_elim (λ same. subst (λ o. LetsDelete p (hold u (Key o)).mode) (sym same) (lets_delete u ne)) (λ d. absurd (true≢false (sym e ∙ sym (alike j d) ∙ none))) (cases_eq j k)))
            (λ lq j none. both (λ v h. v ≡ Key j → h.deleted ≡ false → MayBeOnAbsent p h.mode)
            (λ f d. absurd (true≢false d))
            (λ f d. absurd (true≢false (sym (subst (λ v. Stands n v) f (stands_less up up_apart (at_stands m (suc k) i.is_map))) ∙ none)))
            (λ v a b f d. subst (λ o. MayBeOnAbsent p (hold t o).mode) (sym f)
            (w.absent t j live (sym (alike j (λ e. a (f ∙ ap (λ o. Key o) e))) ∙ none) (subst (λ o. (hold t o).deleted ≡ false) f d)))
            (Key j) refl)
            (λ j h. both (λ v g. (hold t v).key ≡ KeyInserted → g.key ≡ KeyInserted)
            (λ e. inserted_stays Delete Current (hold t (Key k)).key e) (λ e. inserted_stays Delete Next (hold t up).key e) (λ v a b e. e) (Key j) (w.put t j (older j h)));
      }
