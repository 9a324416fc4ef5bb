-- The invariant says nothing of a lock state on an absent key that no change left guards: such a lock state can be put to anything.
use Rattle.std.proofs.Common.{ℕ, [], ◌∷◌, ◌≤◌, ◌≡◌, ◌⊎◌, inl, inr, ⊎_elim, sym, ap, ◌∙◌, false, true, subst, true≢false}
use Rattle.kr_model.specs.declared.Name.{Name}
use Rattle.kr_model.specs.declared.Name.TheVariants.{Key}
use Rattle.kr_model.specs.declared.Cover.TheVariants.{InsertedKey, DeletedGap}
use Rattle.kr_model.specs.Protocol.{Protocol}
use Rattle.kr_model.specs.Map.{Map, IsMap, Changes, at, restore}
use Rattle.kr_model.proofs.Guarantees.{Serves}
use Rattle.kr_model.proofs.UndoLaws.{IsMap-restore}
use Rattle.kr_theorem.proofs.gaps.Gaps.{has, at-key, at-reach}
use Rattle.kr_theorem.proofs.step.Parts.{Parts}
use Rattle.kr_theorem.proofs.step.Covers.{Modes, Holds, read_cover, change_cover}
use Rattle.kr_theorem.proofs.step.Guards.{Guard, Level, Stack, guard_closed}
use Rattle.kr_theorem.proofs.step.Invariant.{Invariant}

pub key_is : (x y : ℕ) → Key x ≡ Key y → x ≡ y
key_is x y e = cc

-- The mode on each name stays, or the name is a key that no change left guards.
abbrev pub StaysAt : Map → Changes → (Name → ℕ) → (Name → ℕ) → Type 0
StaysAt m l own own' = (n : Name) → (own' n ≡ own n) ⊎ ((k : ℕ) × (n ≡ Key k) × (Guard m l k → ⊥))

level_stays : (r : Protocol) (own own' : Name → ℕ) (m : Map) (l : Changes) (y : ℕ) → own' (at m y) ≡ own (at m y) → Level r own m l y → Level r own' m l y
level_stays r own own' m l y same x = record {
  gap = λ e. subst (λ z. Serves r DeletedGap z) (sym same) (x.gap e);
  moved = λ e h. subst (λ z. Serves r InsertedKey z) (sym same) (x.moved e h);
  changed = λ e h. subst (λ z. Holds r z) (sym same) (x.changed e h);
  above = λ e out. subst (λ z. Serves r DeletedGap z) (sym same) (x.above e out);
}

stack_stays : (r : Protocol) (own own' : Name → ℕ) (m : Map) (l : Changes) → IsMap m → StaysAt m l own own' → Stack r own m l → Stack r own' m l
stack_stays r own own' m [] rm stays s = tt
stack_stays r own own' m (c ∷ l) rm stays s = (
  (λ y g. level_stays r own own' m (c ∷ l) y
      (⊎_elim (λ e. e) (λ d. absurd (d.2 (guard_closed m (c ∷ l) y d.0 g (at-reach m y d.0 rm d.1)))) (stays (at m y)))
      (s.0 y g)),
  stack_stays r own own' (restore m c.0 c.1) l (IsMap-restore m c.0 c.1 rm)
      (λ n. ⊎_elim (λ e. inl e) (λ d. inr (d.0, d.1, λ g. d.2 (inr g))) (stays n)) s.1,
)

module _ (p : Protocol) (m : Map) (own own' : Modes) (part : Parts) (c : Map) (i : Invariant p m own part c)
    (range : (t : ℕ) (n : Name) → own' t n ≤ p.count)
    (stays : (t : ℕ) (n : Name) → (own' t n ≡ own t n) ⊎ ((k : ℕ) × (n ≡ Key k) × (has m k ≡ false) × (Guard m (part t).changes k → ⊥))) where
  present : (t k : ℕ) → has m k ≡ true → own' t (Key k) ≡ own t (Key k)
  present t k there = ⊎_elim (λ e. e) (λ d. absurd (true≢false (sym there ∙ ap (has m) (key_is k d.0 d.1) ∙ d.2))) (stays t (Key k))

  named : (t y : ℕ) → own' t (at m y) ≡ own t (at m y)
  named t y = ⊎_elim (λ e. e) (λ d. let z = at-key m y d.0 i.is_map d.1 in absurd (true≢false (sym z.1 ∙ d.2))) (stays t (at m y))

  pub regranted : Invariant p m own' part c
  regranted =
      let g = i.guarded in
      let w = i.owned in
      let u = i.undoable in
      record {
        is_map = i.is_map;
        is_committed_map = i.is_committed_map;
        guarded = record {
          range = range;
          cover = λ t k touch. subst (λ z. Serves p (read_cover (has m k)) z) (sym (named t k)) (g.cover t k touch);
          change = λ t k moved. subst (λ z. Serves p (change_cover (has m k)) z) (sym (named t k)) (g.change t k moved);
          apart = g.apart;
        };
        owned = record {
          counted = w.counted;
          present = λ t k changed there. subst (λ z. Holds p z) (sym (present t k there)) (w.present t k changed there);
          alone = w.alone;
        };
        undoable = record {
          levels = λ t. stack_stays p (own t) (own' t) m (part t).changes i.is_map
              (λ n. ⊎_elim (λ e. inl e) (λ d. inr (d.0, d.1, d.3)) (stays t n)) (u.levels t);
          outside = u.outside;
        };
        replay = i.replay;
        scan = i.scan;
        committed = i.committed;
      }
