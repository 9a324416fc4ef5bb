-- The lock states fit the state after a transaction ends, and after it undoes a change.
use Rattle.std.specs.Prelude.{◌≡◌, ℕ, ◌∷◌, Option, refl}
use Rattle.kr_model.specs.Protocol.{Protocol, IsLawful}
use Rattle.kr_model.specs.declared.Name.TheVariants.{Key}
use Rattle.kr_model.specs.Map.{Map, IsMap, Changes, restore}
use Rattle.kr_theorem.proofs.step.Parts.{blank, rolling_with, with_part}
use Rattle.kr_theorem.proofs.step.Invariant.{Invariant}
use Rattle.std.proofs.Common.{sym, ◌∙◌, ap, subst, ◌≢◌, true, false, ◌⊎◌, inl, inr, ⊎_elim, true≢false}
use Rattle.kr_model.proofs.Requests.{released_locks}
use Rattle.kr_model.proofs.UndoLaws.{IsMap-restore}
use Rattle.kr_theorem.proofs.gaps.Gaps.{has, at-stable}
use Rattle.kr_theorem.proofs.gaps.Undo.{InsertedIn}
use Rattle.kr_theorem.proofs.gaps.Moves.{MovedIn, moved_by, moved_more, unmoved_back, back_inserted}
use Rattle.kr_theorem.proofs.step.Invariant.{moved_touched}
use Rattle.kr_model.specs.Safe.{IsIdle, MayBeOnAbsent, IsSafe}
use Rattle.kr_theorem.proofs.safe.Shape.{shape}
use Rattle.kr_theorem.proofs.safe.Absent.{inserted_used, none_on_absent, beside_inserted}
use Rattle.kr_theorem.proofs.safe.Holding.{Holds, modes, without_holds, without_same, without_other, end_at, roll_at}
use Rattle.kr_theorem.proofs.safe.Placed.{IsClear, placed_stepped}
use Rattle.kr_theorem.proofs.safe.Sim.{rolls, Sim}
use Rattle.kr_model.specs.Locks.{Locks, release}
use Rattle.kr_theorem.proofs.step.Parts.{Part, Parts, Moved, moved_or_not, with_same, with_other}

module _ (p : Protocol) (laws : IsLawful p) (safe : IsSafe p) (m : Map) (l : Locks) (part : Parts) (hold : Holds) (c : Map) (i : Invariant shape m (modes hold) part c) (sim : Sim p m l part hold) (t : ℕ) where
  -- Where a key that t has inserted goes, another's lock may be on it.
  outlives : (u y : ℕ) → u ≢ t → (part u).rolling ≡ false → Moved (part t) y → InsertedIn (part t).changes y → MayBeOnAbsent p (hold u (Key y)).mode
  outlives u y ne lu moved inserted =
      let w = sim.placed in
      let pr = sim.paired in
      let put = w.put t y inserted in
      let clear = w.mine t u y ne lu moved in
      ⊎_elim
      (λ b. beside_inserted p laws safe (hold u (Key y)) (hold t (Key y)) b put clear.0 clear.1)
      (λ void. let idle = void.1 in absurd (inserted_used (sym put ∙ idle.key)))
      (pr.beside u t (Key y) lu (λ e. ne (sym e)))

  -- t releases its locks, only keys that it moved come or go, and only keys that it inserted go.
  pub left_sim : (n : Map) → IsMap n → ((y : ℕ) → (has n y ≡ has m y) ⊎ Moved (part t) y) → ((y : ℕ) → has m y ≡ true → has n y ≡ false → InsertedIn (part t).changes y) → Sim p n (release l t) (with_part part t blank) (without_holds hold t)
  left_sim n hm only inserted =
      let gd = i.guarded in
      let w = sim.placed in
      record {
        locks = released_locks p l t sim.locks;
        paired = end_at p (rolls part) (rolls (with_part part t blank)) l hold t sim.paired (ap (λ z. z.rolling) (with_same part t blank)) (λ u ne. ap (λ z. z.rolling) (with_other part t blank u ne));
        placed = placed_stepped p m n part hold (without_holds hold t) t blank w
            (λ u x ne. without_other hold t u x ne)
            (λ u y ne lu. ⊎_elim (λ same. inl same) (λ moved. inr (w.mine t u y ne lu moved)) (only y))
            (λ lq x e. inl (subst (λ z. IsIdle z) (sym (without_same hold t x)) (record { key = refl; gap = refl })))
            (λ lq x e. absurd (true≢false (sym e ∙ ap (λ z. z.deleted) (without_same hold t x))))
            (λ u j ne lu moved. absurd moved)
            (λ v j ne lq moved. subst (λ z. IsClear z) (sym (without_same hold t (Key j))) (record { key = refl; gap = refl }, refl))
            (λ u j ne lu moved. at-stable m n j i.is_map hm (λ y reach. ⊎_elim (λ same. same) (λ mv. absurd (gd.apart t u j y ne (moved_touched shape m (modes hold) part i.owned u j moved) mv reach)) (only y)))
            (λ lq j e. absurd (true≢false (sym e ∙ ap (λ z. z.deleted) (without_same hold t (Key j)))))
            (λ u j ne lu e none. outlives u j ne lu (⊎_elim (λ same. absurd (true≢false (sym e ∙ sym same ∙ none))) (λ moved. moved) (only j)) (inserted j e none))
            (λ lq j none kept. subst (λ z. MayBeOnAbsent p z.mode) (sym (without_same hold t (Key j))) (none_on_absent p laws))
            (λ j h. absurd h);
      }

  -- The lock states stay where a change is undone.
  pub back_sim : (x : ℕ × Option ℕ) (cs : Changes) → (part t).changes ≡ x ∷ cs → Sim p (restore m x.0 x.1) l (with_part part t (rolling_with (restore m x.0 x.1) cs)) hold
  back_sim x cs is =
      let w = sim.placed in
      let n = restore m x.0 x.1 in
      let q : Part = rolling_with n cs in
      let owned = i.owned in
      let gd = i.guarded in
      let was : (y : ℕ) → MovedIn (moved_by m (x ∷ cs)) y → Moved (part t) y = λ y z. subst (λ xs. MovedIn xs y) (sym (owned.counted t ∙ ap (moved_by m) is)) z in
      record {
        locks = sim.locks;
        paired = roll_at p (rolls part) (rolls (with_part part t q)) l hold t sim.paired (ap (λ z. z.rolling) (with_same part t q)) (λ u ne. ap (λ z. z.rolling) (with_other part t q u ne));
        placed = placed_stepped p m n part hold hold t q w
            (λ u y ne. refl)
            (λ u y ne lu. ⊎_elim (λ moved. inr (w.mine t u y ne lu (was y moved))) (λ out. inl (unmoved_back m x cs y out)) (moved_or_not (moved_by m (x ∷ cs)) y))
            (λ lq y e. absurd (true≢false lq))
            (λ lq y e. absurd (true≢false lq))
            (λ u j ne lu moved. w.mine t u j ne lu (was j (moved_more m x cs j moved)))
            (λ v j ne lq moved. absurd (true≢false lq))
            (λ u j ne lu moved. at-stable m n j i.is_map (IsMap-restore m x.0 x.1 i.is_map) (λ y reach. ⊎_elim (λ mv. absurd (gd.apart t u j y ne (moved_touched shape m (modes hold) part owned u j moved) (was y mv) reach)) (λ out. unmoved_back m x cs y out) (moved_or_not (moved_by m (x ∷ cs)) y)))
            (λ lq j e. absurd (true≢false lq))
            (λ u j ne lu e none.
            let f = back_inserted m x j e none in
            let new : InsertedIn (x ∷ cs) j = inl f in
            let inserted = subst (λ z. InsertedIn z j) (sym is) new in
            outlives u j ne lu (⊎_elim (λ moved. was j moved) (λ out. absurd (true≢false (sym e ∙ sym (unmoved_back m x cs j out) ∙ none))) (moved_or_not (moved_by m (x ∷ cs)) j)) inserted)
            (λ lq j none kept. absurd (true≢false lq))
            (λ j h. let old : InsertedIn (x ∷ cs) j = inr h in w.put t j (subst (λ z. InsertedIn z j) (sym is) old));
      }
