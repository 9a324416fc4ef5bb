-- Each kind of step keeps what the locks guard: an insert, a delete, a read, and an end.
use Rattle.std.proofs.Common.{ℕ, suc, ◌≤◌, ◌≡◌, ◌≢◌, ◌⊎◌, ⊎_elim, inl, inr, refl, sym, ap, ◌∙◌, arith, Bool, true, false, subst, true≢false}
use Rattle.std.proofs.lemmas.Bool.{cases_lt, cases_eq}
use Rattle.kr_model.specs.declared.Name.{Name}
use Rattle.kr_model.specs.declared.Name.TheVariants.{Key}
use Rattle.kr_model.specs.declared.Row.{Row}
use Rattle.kr_model.specs.declared.Row.TheVariants.{FetchHit, ScanKey, Insert, Delete, Update}
use Rattle.kr_model.specs.declared.Side.TheVariants.{Current, Next}
use Rattle.kr_model.specs.declared.Cover.{Cover}
use Rattle.kr_model.specs.declared.Cover.TheVariants.{ReadKey, ReadGap, InsertedKey, DeletedGap, UpdatedKey}
use Rattle.kr_model.specs.Protocol.{Protocol}
use Rattle.kr_model.specs.Covers.{mode_after, must_conflict, Ask}
use Rattle.kr_model.specs.Map.{Map, IsMap, at}
use Rattle.kr_model.proofs.Guarantees.{In, Serves}
use Rattle.kr_theorem.proofs.gaps.Gaps.{has, Reach, at-key, at-unique, reach-refl, reach-from, reach-trans, reach-at, reach-dec, at-stable, Alike, alike-outside, at-insert, reach-insert, at-delete, reach-delete, reach-stable}
use Rattle.kr_theorem.proofs.step.Parts.{Part, Parts, blank, Touched, Moved, blank_untouched, with_part}
use Rattle.kr_theorem.proofs.step.Covers.{Modes, read_cover, change_cover, Granted, clash, weaken, Covered, reads_conflict_delete, changes_conflict_delete, changes_conflict_key, read_conflicts_update, update_read}
use Rattle.kr_theorem.proofs.step.Guarded.{Taken, Guarded, stepped}

-- A point whose reach ends at an absent key is absent.
gap_below : (m : Map) (k c : ℕ) → Reach m k c → has m c ≡ false → has m k ≡ false
gap_below m k c r none = ⊎_elim (λ lt. r.1 k (omega arith) lt) (λ ge. let e : k ≡ c = omega (arith, r.0, ge) in ap (has m) e ∙ none) (cases_lt k c)

-- A present key reaches itself alone.
pub alone_there : (m : Map) (k c : ℕ) → has m k ≡ true → Reach m k c → c ≡ k
alone_there m k c there r = ⊎_elim (λ e. e) (λ far. absurd (true≢false (sym there ∙ r.1 k (omega arith) (omega (arith, far, r.0))))) (cases_eq c k)

module _ (p : Protocol) (m : Map) (hm : IsMap m) (own : Modes) (part : Parts) (g : Guarded p m own part) (t : ℕ) where
  -- An insert --

  -- It isn't granted in the reach of a point that another has touched.
  pub insert_outside : (u k y : ℕ) → Granted p own t Insert Next (at m k) (own t (at m k)) → has m k ≡ false → u ≢ t → Touched (part u) y → Reach m y k → ⊥
  insert_outside u k y granted absent other touch reach =
      let here = subst (λ h. Serves p (read_cover h) (own u (at m y))) (gap_below m y k reach absent) (g.cover u y touch) in
      clash p own t u Insert Next (at m k) (own t (at m k)) ReadGap granted other
      (subst (λ z. Serves p ReadGap (own u z)) (reach-at m y k hm reach) here) (inl refl) (g.range t (at m k)) (g.range t (at m k)) refl

  -- It isn't granted of a key that another has deleted.
  pub insert_not_moved : (u k : ℕ) → Granted p own t Insert Next (at m k) (own t (at m k)) → has m k ≡ false → u ≢ t → Moved (part u) k → ⊥
  insert_not_moved u k granted absent other moved =
      clash p own t u Insert Next (at m k) (own t (at m k)) DeletedGap granted other
      (subst (λ h. Serves p (change_cover h) (own u (at m k))) absent (g.change u k moved)) (inr (inr (inr (inl refl)))) (g.range t (at m k)) (g.range t (at m k)) refl

  -- A delete --

  -- It isn't granted in the reach of a point that another has touched.
  pub delete_outside : (u k y : ℕ) → Granted p own t Delete Current (Key k) (own t (at m (suc k))) → has m k ≡ true → u ≢ t → Touched (part u) y → Reach m y k → ⊥
  delete_outside u k y granted there other touch reach =
      clash p own t u Delete Current (Key k) (own t (at m (suc k))) (read_cover (has m y)) granted other
      (subst (λ z. Serves p (read_cover (has m y)) (own u z)) (at-unique m y k hm reach there) (g.cover u y touch)) (reads_conflict_delete p (has m y)) (g.range t (Key k)) (g.range t (at m (suc k))) tt

  -- It isn't granted of a key that another has inserted.
  pub delete_not_moved : (u k : ℕ) → Granted p own t Delete Current (Key k) (own t (at m (suc k))) → has m k ≡ true → u ≢ t → Moved (part u) k → ⊥
  delete_not_moved u k granted there other moved =
      clash p own t u Delete Current (Key k) (own t (at m (suc k))) (change_cover (has m k)) granted other
      (subst (λ z. Serves p (change_cover (has m k)) (own u z)) (at-unique m k k hm (reach-refl m k) there) (g.change u k moved))
      (changes_conflict_delete p (has m k) Current) (g.range t (Key k)) (g.range t (at m (suc k))) tt

  -- It isn't granted where the point above the key reaches a key that another has moved, since the gap would be merged with that one.
  pub delete_none_above : (u k c : ℕ) → Granted p own t Delete Next (at m (suc k)) (own t (at m (suc k))) → u ≢ t → Moved (part u) c → Reach m (suc k) c → ⊥
  delete_none_above u k c granted other moved reach =
      clash p own t u Delete Next (at m (suc k)) (own t (at m (suc k))) (change_cover (has m c)) granted other
      (subst (λ z. Serves p (change_cover (has m c)) (own u z)) (sym (reach-at m (suc k) c hm reach)) (g.change u c moved)) (changes_conflict_delete p (has m c) Next) (g.range t (at m (suc k))) (g.range t (at m (suc k))) refl

  -- An update --

  -- It isn't granted of a key that another has touched.
  pub update_outside : (u k : ℕ) → p.updates ≡ true → Granted p own t Update Current (Key k) 0 → has m k ≡ true → u ≢ t → Touched (part u) k → ⊥
  update_outside u k up granted there other touch =
      clash p own t u Update Current (Key k) 0 ReadKey granted other
      (subst (λ z. Serves p ReadKey (own u z)) (at-unique m k k hm (reach-refl m k) there) (subst (λ h. Serves p (read_cover h) (own u (at m k))) there (g.cover u k touch)))
      (read_conflicts_update p up) (g.range t (Key k)) (omega arith) tt

  -- Reads --

  -- A fetch of a present key meets no key that another has moved.
  pub hit_apart : (k on : ℕ) → on ≤ p.count → Granted p own t FetchHit Current (Key k) on → has m k ≡ true
      → (u y c : ℕ) → u ≢ t → y ≡ k → Moved (part u) c → Reach m y c → ⊥
  hit_apart k on in_range granted there u y c ne e moved reach =
      let same = alone_there m k c there (subst (λ z. Reach m z c) e reach) in
      clash p own t u FetchHit Current (Key k) on InsertedKey granted ne
      (subst (λ h. Serves p (change_cover h) (own u (Key k))) there
      (subst (λ z. Serves p (change_cover (has m k)) (own u z)) (at-unique m k k hm (reach-refl m k) there) (g.change u k (subst (λ z. Moved (part u) z) same moved)))) (inl refl) (g.range t (Key k)) in_range tt

  -- A scan that reads a key meets none up to it.
  pub key_apart : (from x on : ℕ) → on ≤ p.count → Granted p own t ScanKey Current (Key x) on → at m from ≡ Key x
      → (u y c : ℕ) → u ≢ t → (from ≤ y) × (y ≤ x) → Moved (part u) c → Reach m y c → ⊥
  key_apart from x on in_range granted is u y c ne new moved reach =
      let k = at-key m from x hm is in
      let upto : Reach m from x = (k.0, k.2) in
      let le : c ≤ x = ⊎_elim (λ lt. absurd (true≢false (sym k.1 ∙ reach.1 x new.1 lt))) (λ ge. ge) (cases_lt x c) in
      let same : at m c ≡ Key x = at-unique m c x hm (reach-from m from c x upto (omega (arith, new.0, reach.0)) le) k.1 in
      clash p own t u ScanKey Current (Key x) on (change_cover (has m c)) granted ne
      (subst (λ z. Serves p (change_cover (has m c)) (own u z)) same (g.change u c moved)) (changes_conflict_key p (has m c)) (g.range t (Key x)) in_range tt

  -- A read of a gap, under the name above it, meets none that its points reach.
  pub gap_apart : (from : ℕ) (row : Row) → ((b : Bool) → In {A = Ask} (row, Next) (must_conflict p (change_cover b))) → Granted p own t row Next (at m from) (own t (at m from))
      → (u y c : ℕ) → u ≢ t → Reach m from y → Moved (part u) c → Reach m y c → ⊥
  gap_apart from row listed granted u y c ne new moved reach =
      clash p own t u row Next (at m from) (own t (at m from)) (change_cover (has m c)) granted ne
      (subst (λ z. Serves p (change_cover (has m c)) (own u z)) (sym (reach-at m from c hm (reach-trans m from y c new reach))) (g.change u c moved)) (listed (has m c)) (g.range t (at m from)) (g.range t (at m from)) refl

  -- The steps --

  module _ (n : Map) (hn : IsMap n) (own' : Modes) (q : Part) (taken : Taken p own own' t) (held : (u k : ℕ) → Moved (part u) k → Touched (part u) k) where
    -- A gap that the inserter covers is split, and both parts stay covered.
    insert_carries : (k : ℕ) (kind : Bool → Cover) → Alike k m n → has m k ≡ false → has n k ≡ true
        → (Serves p (kind false) (own t (at m k)) → Serves p (kind false) (own' t (Key k)))
        → (y : ℕ) → y ≢ k → Serves p (kind (has m y)) (own t (at m y)) → Serves p (kind (has n y)) (own' t (at n y))
    insert_carries k kind alike absent there split y ne s =
        subst (λ h. Serves p (kind h) (own' t (at n y))) (sym (alike y ne)) (⊎_elim
        (λ reach. let none = gap_below m y k reach absent in
        subst (λ h. Serves p (kind h) (own' t (at n y))) (sym none)
        (subst (λ z. Serves p (kind false) (own' t z)) (sym (at-insert m n k y hn alike there reach))
        (split (subst (λ z. Serves p (kind false) (own t z)) (reach-at m y k hm reach) (subst (λ h. Serves p (kind h) (own t (at m y))) none s)))))
        (λ out. subst (λ z. Serves p (kind (has m y)) (own' t z)) (sym (at-stable m n y hm hn (alike-outside m n k y alike out))) (taken.keeps (at m y) (kind (has m y)) s))
        (reach-dec m y k hm))

    -- An insert of k.
    pub insert_step : Covered p → (k : ℕ) → Granted p own t Insert Next (at m k) (own t (at m k)) → Alike k m n → has m k ≡ false → has n k ≡ true
        → ((c : Cover) → Serves p c (mode_after p (own t (Key k)) (p.ask Insert Current (own t (at m k)))) → Serves p c (own' t (Key k)))
        → ((y : ℕ) → Touched q y → (Touched (part t) y) ⊎ (y ≡ k))
        → ((y : ℕ) → Moved q y → (Moved (part t) y) ⊎ (y ≡ k))
        → Guarded p n own' (with_part part t q)
    insert_step cov k granted alike absent there after touched moved =
        let on = own t (at m k) in
        let self : Serves p InsertedKey (own' t (Key k)) = after InsertedKey (cov.after_new_key on (own t (Key k)) (g.range t (at m k)) (g.range t (Key k))) in
        let named : at n k ≡ Key k = at-unique n k k hn (reach-refl n k) there in
        let new : Serves p (change_cover (has n k)) (own' t (at n k)) = subst (λ z. Serves p (change_cover (has n k)) (own' t z)) (sym named) (subst (λ h. Serves p (change_cover h) (own' t (Key k))) (sym there) self) in
        let new_at : (y : ℕ) → y ≡ k → Serves p (change_cover (has n y)) (own' t (at n y)) = λ y e. subst (λ z. Serves p (change_cover (has n z)) (own' t (at n z))) (sym e) new in
        stepped p m n hm hn own own' part t q g taken.range taken.others held
        (λ u y ne touch. alike-outside m n k y alike (insert_outside u k y granted absent ne touch))
        (λ y touch. ⊎_elim (λ e. weaken p (own' t (at n y)) (has n y) (new_at y e))
        (λ ne. insert_carries k read_cover alike absent there
        (λ s. after ReadGap (cov.after_split_read on (own t (Key k)) (g.range t (at m k)) (g.range t (Key k)) s))
        y ne (g.cover t y (⊎_elim (λ old. old) (λ e. absurd (ne e)) (touched y touch))))
        (cases_eq y k))
        (λ y b. ⊎_elim (λ e. new_at y e)
        (λ ne. insert_carries k change_cover alike absent there
        (λ s. after DeletedGap (cov.after_split_deleted on (own t (Key k)) (g.range t (at m k)) (g.range t (Key k)) s))
        y ne (g.change t y (⊎_elim (λ old. old) (λ e. absurd (ne e)) (moved y b))))
        (cases_eq y k))
        (λ u y c ne touch b reach. ⊎_elim (λ old. g.apart t u y c ne touch old reach)
        (λ e. insert_outside u k y granted absent ne touch (subst (λ z. Reach m y z) e reach)) (moved c b))
        (λ u y c ne touch b reach. ⊎_elim (λ old. g.apart u t y c (λ e. ne (sym e)) old b (reach-insert m n k y c alike absent reach))
        (λ e. insert_not_moved u k granted absent ne (subst (λ z. Moved (part u) z) (alone_there n k c there (subst (λ z. Reach n z c) e reach)) b))
        (touched y touch))

    -- A delete of k.
    pub delete_step : Covered p → (k : ℕ) → Granted p own t Delete Current (Key k) (own t (at m (suc k))) → Granted p own t Delete Next (at m (suc k)) (own t (at m (suc k)))
        → Alike k m n → has m k ≡ true → has n k ≡ false
        → ((c : Cover) → Serves p c (mode_after p (own t (at m (suc k))) (p.ask Delete Next (own t (at m (suc k))))) → Serves p c (own' t (at m (suc k))))
        → ((y : ℕ) → Touched q y → (Touched (part t) y) ⊎ (y ≡ k))
        → ((y : ℕ) → Moved q y → (Moved (part t) y) ⊎ (y ≡ k))
        → Guarded p n own' (with_part part t q)
    delete_step cov k current next alike there gone after touched moved =
        let above = at m (suc k) in
        let gap : Serves p DeletedGap (own' t above) = after DeletedGap (cov.after_removal (own t above) (g.range t above)) in
        let absent : (y : ℕ) → Reach m y k → has n y ≡ false = λ y reach. ⊎_elim (λ e. ap (has n) e ∙ gone) (λ ne. alike y ne ∙ reach.1 y (omega arith) (omega (arith, ne, reach.0))) (cases_eq y k) in
        let merged : (y : ℕ) → Reach m y k → Serves p (change_cover (has n y)) (own' t (at n y)) = λ y reach.
        subst (λ h. Serves p (change_cover h) (own' t (at n y))) (sym (absent y reach)) (subst (λ z. Serves p DeletedGap (own' t z)) (sym (at-delete m n k y hm hn alike gone reach)) gap) in
        let other_than : (y : ℕ) → (Reach m y k → ⊥) → y ≢ k = λ y out e. out (subst (λ z. Reach m z k) (sym e) (reach-refl m k)) in
        let stays : (y : ℕ) (kind : Bool → Cover) → (Reach m y k → ⊥) → Serves p (kind (has m y)) (own t (at m y)) → Serves p (kind (has n y)) (own' t (at n y)) = λ y kind out s.
        subst (λ h. Serves p (kind h) (own' t (at n y))) (sym (alike y (other_than y out)))
        (subst (λ z. Serves p (kind (has m y)) (own' t z)) (sym (at-stable m n y hm hn (alike-outside m n k y alike out))) (taken.keeps (at m y) (kind (has m y)) s)) in
        stepped p m n hm hn own own' part t q g taken.range taken.others held
        (λ u y ne touch. alike-outside m n k y alike (delete_outside u k y current there ne touch))
        (λ y touch. ⊎_elim (λ reach. weaken p (own' t (at n y)) (has n y) (merged y reach))
        (λ out. stays y read_cover out (g.cover t y (⊎_elim (λ old. old) (λ e. absurd (other_than y out e)) (touched y touch))))
        (reach-dec m y k hm))
        (λ y b. ⊎_elim (λ reach. merged y reach)
        (λ out. stays y change_cover out (g.change t y (⊎_elim (λ old. old) (λ e. absurd (other_than y out e)) (moved y b))))
        (reach-dec m y k hm))
        (λ u y c ne touch b reach. ⊎_elim (λ old. g.apart t u y c ne touch old reach)
        (λ e. delete_outside u k y current there ne touch (subst (λ z. Reach m y z) e reach)) (moved c b))
        (λ u y c ne touch b reach. ⊎_elim
        (λ back. ⊎_elim (λ old. g.apart u t y c (λ e. ne (sym e)) old b back)
        (λ e. delete_not_moved u k current there ne (subst (λ z. Moved (part u) z) (alone_there m k c there (subst (λ z. Reach m z c) e back)) b))
        (touched y touch))
        (λ grown. delete_none_above u k c next ne b grown.2)
        (reach-delete m n k y c alike reach))

    -- An update of k: no key comes or goes.
    pub update_step : (k : ℕ) → p.updates ≡ true → Granted p own t Update Current (Key k) 0 → ((y : ℕ) → has n y ≡ has m y) → has m k ≡ true
        → Serves p UpdatedKey (own' t (Key k))
        → ((y : ℕ) → Touched q y → (Touched (part t) y) ⊎ (y ≡ k))
        → ((y : ℕ) → Moved q y → Moved (part t) y)
        → Guarded p n own' (with_part part t q)
    update_step k up granted same there updated touched moved =
        let stays : (y : ℕ) (kind : Bool → Cover) → Serves p (kind (has m y)) (own' t (at m y)) → Serves p (kind (has n y)) (own' t (at n y)) = λ y kind s.
        subst (λ h. Serves p (kind h) (own' t (at n y))) (sym (same y)) (subst (λ z. Serves p (kind (has m y)) (own' t z)) (sym (at-stable m n y hm hn (λ z reach. same z))) s) in
        let at_k : Serves p (read_cover (has m k)) (own' t (at m k)) =
        subst (λ h. Serves p (read_cover h) (own' t (at m k))) (sym there)
        (subst (λ z. Serves p ReadKey (own' t z)) (sym (at-unique m k k hm (reach-refl m k) there)) (update_read p (own' t (Key k)) up updated)) in
        stepped p m n hm hn own own' part t q g taken.range taken.others held
        (λ u y ne touch z reach. same z)
        (λ y touch. stays y read_cover (⊎_elim (λ old. taken.keeps (at m y) (read_cover (has m y)) (g.cover t y old))
        (λ e. subst (λ z. Serves p (read_cover (has m z)) (own' t (at m z))) (sym e) at_k) (touched y touch)))
        (λ y b. stays y change_cover (taken.keeps (at m y) (change_cover (has m y)) (g.change t y (moved y b))))
        (λ u y c ne touch b reach. g.apart t u y c ne touch (moved c b) reach)
        (λ u y c ne touch b reach. let back = reach-stable m n y c (λ z r. same z) reach in
        ⊎_elim (λ old. g.apart u t y c (λ e. ne (sym e)) old b back)
        (λ e. update_outside u k up granted there ne (subst (λ z. Touched (part u) z) (alone_there m k c there (subst (λ z. Reach m z c) e back)) (held u c b)))
        (touched y touch))

  -- A fetch or a scan: new points, under the name that was requested.
  pub read_step : (own' : Modes) (q : Part) → Taken p own own' t → ((u k : ℕ) → Moved (part u) k → Touched (part u) k) → (New : ℕ → Type 0)
      → ((k : ℕ) → Touched q k → (Touched (part t) k) ⊎ New k)
      → ((k : ℕ) → Moved q k → Moved (part t) k)
      → ((k : ℕ) → New k → Serves p (read_cover (has m k)) (own' t (at m k)))
      → ((u k c : ℕ) → u ≢ t → New k → Moved (part u) c → Reach m k c → ⊥)
      → Guarded p m own' (with_part part t q)
  read_step own' q taken held New touched moved covers apart =
      stepped p m m hm hm own own' part t q g taken.range taken.others held
      (λ u k ne touch y reach. refl)
      (λ k touch. ⊎_elim (λ old. taken.keeps (at m k) (read_cover (has m k)) (g.cover t k old)) (λ new. covers k new) (touched k touch))
      (λ k b. taken.keeps (at m k) (change_cover (has m k)) (g.change t k (moved k b)))
      (λ u k c ne touch b reach. g.apart t u k c ne touch (moved c b) reach)
      (λ u k c ne touch b reach. ⊎_elim (λ old. g.apart u t k c (λ e. ne (sym e)) old b reach) (λ new. apart u k c ne new b reach) (touched k touch))

  -- A commit or an abort: t has nothing left, and only keys that it moved come or go.
  pub end_step : (n : Map) → IsMap n → (own' : Modes) → ((u : ℕ) (name : Name) → own' u name ≤ p.count) → ((u : ℕ) → u ≢ t → (name : Name) → own' u name ≡ own u name)
      → ((u k : ℕ) → Moved (part u) k → Touched (part u) k) → ((y : ℕ) → (has n y ≡ has m y) ⊎ Moved (part t) y)
      → Guarded p n own' (with_part part t blank)
  end_step n hn own' range others held undone =
      stepped p m n hm hn own own' part t blank g range others held
      (λ u k ne touch y reach. ⊎_elim (λ same. same) (λ b. absurd (g.apart t u k y ne touch b reach)) (undone y))
      (λ k touch. absurd (blank_untouched k touch))
      (λ k b. absurd b)
      (λ u k c ne touch b reach. b)
      (λ u k c ne touch b reach. blank_untouched k touch)
