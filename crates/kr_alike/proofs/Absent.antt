-- What is held on absent keys, and on keys that another has inserted, in each state of a run under a safe table.
use Rattle.std.proofs.Common.{ℕ, ◌≡◌, ◌≢◌, inl, inr, ⊎_elim, refl, sym, ap, ◌∙◌, Bool, true, false, subst, true≢false, [], ◌∷◌, List, Option, Some, None, arith}
use Rattle.std.specs.Prelude.{if◌then◌else◌, not, cond, ◌&&◌, is_some, unwrap_or}
use Rattle.std.specs.Ordering.{nat_cmp}
use Rattle.std.specs.FinMap.{find}
use Rattle.std.proofs.lemmas.Bool.{cases_Bool}
use Rattle.kr_model.specs.declared.Name.{Name}
use Rattle.kr_model.specs.declared.Name.TheVariants.{Key}
use Rattle.kr_model.specs.declared.Row.TheVariants as row
use Rattle.kr_model.specs.declared.Side.TheVariants.{Current}
use Rattle.kr_model.specs.declared.Span.TheVariants.{Instant, Commit}
use Rattle.kr_model.specs.declared.KeyUse.TheVariants.{Inserted as KeyInserted}
use Rattle.kr_model.specs.Protocol.{Protocol, IsLawful}
use Rattle.kr_model.specs.Map.{Map, Changes, restore}
use Rattle.kr_model.specs.Locks.{Locks, Request, own, kept, kept_one, release, holder_cmp}
use Rattle.kr_model.specs.State.{State, Active, has_ended, idle, standing}
use Rattle.kr_model.specs.Run.{Entry}
use Rattle.kr_model.specs.Safe.{free, start as beside, Beside, IsSafe}
use Rattle.kr_model.proofs.Actives.{tied}
use Rattle.kr_model.proofs.LockLaws.{find-release, own-keep_other}
use Rattle.kr_theorem.proofs.gaps.Gaps.{has}
use Rattle.kr_theorem.proofs.gaps.Undo.{ChangedIn, InsertedIn}
use Rattle.kr_theorem.proofs.gaps.Moves.{MovedIn, moved_by, moved_changed}
use Rattle.kr_theorem.proofs.step.Parts.{Moved}
use Rattle.kr_theorem.proofs.safe.Absent.{inserted_used, beside_inserted, free_open}
use Rattle.kr_theorem.proofs.safe.Holding.{alone_live}
use Rattle.kr_theorem.proofs.safe.Sim.{rolls}
use Rattle.kr_theorem.proofs.run.Rollback.{found_in}
use Rattle.kr_theorem.proofs.run.Known.{Known}
use Rattle.kr_alike.specs.Coming.{MayBeLeft}

-- In this state.
pub record Left (p : Protocol) (s : State) : Type 0 where
  -- what is held on an absent key, by one who hasn't changed it, may be left there
  pub absent : (u k : ℕ) → has s.map k ≡ false → (ChangedIn (standing s u).changes k → ⊥) → MayBeLeft p (own s.locks u (Key k))
  -- so may what is held on a key that another has inserted
  pub inserted : (w u k : ℕ) → u ≢ w → InsertedIn (standing s w).changes k → MayBeLeft p (own s.locks u (Key k))

-- Locks --

pub kept_other : (p : Protocol) (l : Locks) (t : ℕ) (rs : List Request) (u : ℕ) (n : Name) → u ≢ t → own (kept p l t rs) u n ≡ own l u n
kept_other p l t [] u n ne = refl
kept_other p l t ((x, q, Instant) ∷ rs) u n ne = kept_other p l t rs u n ne
kept_other p l t ((x, q, Commit) ∷ rs) u n ne = kept_other p (kept_one p l t x q Commit) t rs u n ne ∙ own-keep_other l t x (p.convert (own l t x) q) u n (λ a b. ne b)

pub released : (l : Locks) (t : ℕ) (n : Name) → own (release l t) t n ≡ 0
released l t n = ap (λ o. unwrap_or o 0) (find-release l t (n, t) ∙ ap (λ b. cond (not b) (find holder_cmp (n, t) l) None) (tied t))

-- No lock may be left: a delete is granted beside it.
pub none_left : (p : Protocol) → IsLawful p → (m : ℕ) → m ≡ 0 → MayBeLeft p m
none_left p laws m e = subst (λ z. MayBeLeft p z) (sym e) (inl (record { own = free; next = free; own_reached = beside; next_reached = beside; asks = (refl, refl); granted = free_open p laws row.Delete Current free free (omega arith) (omega arith) }))

-- An inserted key is moved.
inserted_moved : (m : Map) (l : Changes) (k : ℕ) → InsertedIn l k → MovedIn (moved_by m l) k
inserted_moved m [] k h = h
inserted_moved m (c ∷ l) k (inl e) =
    let rest = moved_by (restore m c.0 c.1) l in
    subst (λ (b : Bool). MovedIn (if b then c.0 ∷ rest else rest) k) (sym (ap (λ (o : Option ℕ). not (has m c.0 && is_some o)) e.1 ∙ by (has m c.0))) (inl e.0)
  where
    by : (b : Bool) → not (b && false) ≡ true
    by true = refl
    by false = refl
inserted_moved m (c ∷ l) k (inr h) = by (inserted_moved (restore m c.0 c.1) l k h) (not (has m c.0 && is_some c.1))
  where
    rest : List ℕ
    rest = moved_by (restore m c.0 c.1) l

    by : MovedIn (moved_by (restore m c.0 c.1) l) k → (b : Bool) → MovedIn (if b then c.0 ∷ rest else rest) k
    by older true = inr older
    by older false = older

module _ (p : Protocol) (opening : Map) (h : List Entry) (s : State) (g : Known p opening h s) where
  -- The changes that the state has of a transaction are those of its part.
  pub changes_are : (u : ℕ) → (standing s u).changes ≡ (g.part u).changes
  changes_are u = ⊎_elim over (λ e. let st = g.stands u e in st.changes) (cases_Bool (has_ended s u))
    where
      none : has_ended s u ≡ true → (f : Option Active) → find nat_cmp u s.active ≡ f → (unwrap_or f idle).changes ≡ []
      none e None is = refl
      none e (Some a) is = absurd (true≢false (sym e ∙ g.live u a (found_in u a s.active is)))

      over : has_ended s u ≡ true → (standing s u).changes ≡ (g.part u).changes
      over e = none e (find nat_cmp u s.active) refl ∙ sym (g.over u e)

  -- A key that one has inserted is protected as such; so its lock may be left there.
  pub left_by_own : (u k : ℕ) → InsertedIn (standing s u).changes k → MayBeLeft p (own s.locks u (Key k))
  left_by_own u k is =
      let sim = g.sim in
      let w = sim.placed in
      let pr = sim.paired in
      let put : (g.hold u (Key k)).key ≡ KeyInserted = w.put u k (subst (λ l. InsertedIn l k) (changes_are u) is) in
      ⊎_elim
      (λ b. inr (record { state = g.hold u (Key k); reached = b; mode = pr.mode u (Key k); past = inr put }))
      (λ void. let i = void.1 in absurd (inserted_used (sym put ∙ i.key)))
      (pr.alone u (Key k))

  module _ (laws : IsLawful p) (safe : IsSafe p) (u : ℕ) (live : (g.part u).rolling ≡ false) where
    alone : (k : ℕ) → Beside p (g.hold u (Key k)) free
    alone k = let sim = g.sim in alone_live p (rolls g.part) s.locks g.hold sim.paired u (Key k) live

    -- What one holds that doesn't roll back.
    pub live_absent : (k : ℕ) → has s.map k ≡ false → (ChangedIn (standing s u).changes k → ⊥) → MayBeLeft p (own s.locks u (Key k))
    live_absent k none unchanged =
        let sim = g.sim in
        let w = sim.placed in
        let pr = sim.paired in
        let i = g.inv in
        let o = i.owned in
        ⊎_elim
        (λ e. let d = w.gone u (Key k) live e in
        absurd (unchanged (subst (λ l. ChangedIn l k) (sym (changes_are u)) (moved_changed s.map (g.part u).changes k (subst (λ xs. MovedIn xs k) (o.counted u) (subst (λ z. Moved (g.part u) z) (sym (key_of k d.0 d.1)) d.3))))))
        (λ e. inr (record {
          state = g.hold u (Key k);
          reached = alone k;
          mode = pr.mode u (Key k);
          past = inl (e, ⊎_elim (λ z. z) (λ z. absurd (true≢false (sym z ∙ none))) (w.there u (Key k) live e), w.absent u k live none e);
        }))
        (cases_Bool (g.hold u (Key k)).deleted)
      where
        key_of : (x y : ℕ) → Key x ≡ Key y → x ≡ y
        key_of x y e = cc

    pub live_inserted : (w k : ℕ) → u ≢ w → InsertedIn (standing s w).changes k → MayBeLeft p (own s.locks u (Key k))
    live_inserted w k ne is =
        let sim = g.sim in
        let pl = sim.placed in
        let pr = sim.paired in
        let i = g.inv in
        let o = i.owned in
        let in_part : InsertedIn (g.part w).changes k = subst (λ l. InsertedIn l k) (changes_are w) is in
        let moved : Moved (g.part w) k = subst (λ xs. MovedIn xs k) (sym (o.counted w)) (inserted_moved s.map (g.part w).changes k in_part) in
        let clear = pl.mine w u k ne live moved in
        let put = pl.put w k in_part in
        ⊎_elim
        (λ b. inr (record {
          state = g.hold u (Key k);
          reached = alone k;
          mode = pr.mode u (Key k);
          past = inl (clear.1, clear.0, beside_inserted p laws safe (g.hold u (Key k)) (g.hold w (Key k)) b put clear.0 clear.1);
        }))
        (λ void. let v = void.1 in absurd (inserted_used (sym put ∙ v.key)))
        (pr.beside u w (Key k) live (λ e. ne (sym e)))
