-- Reads: the points that each reading row may touch. By its grant no other has moved what they reach, and by its case they are covered from then on.
use Rattle.std.proofs.Common.{ℕ, ◌≤◌, ◌<◌, ◌≡◌, ◌≢◌, ⊎_elim, sym, ap, ◌∙◌, arith, true, false, subst}
use Rattle.std.proofs.lemmas.Bool.{cases_lt}
use Rattle.kr_model.specs.declared.Name.{Name}
use Rattle.kr_model.specs.declared.Name.TheVariants.{Key}
use Rattle.kr_model.specs.declared.Row.{Row}
use Rattle.kr_model.specs.declared.Row.TheVariants.{FetchHit, FetchMiss, ScanKey, ScanStop}
use Rattle.kr_model.specs.declared.Side.{Side}
use Rattle.kr_model.specs.declared.Side.TheVariants.{Current, Next}
use Rattle.kr_model.specs.declared.Cover.{Cover}
use Rattle.kr_model.specs.declared.Cover.TheVariants.{ReadKey, ReadGap}
use Rattle.kr_model.specs.Protocol.{Protocol, MovesNoKey}
use Rattle.kr_model.specs.Covers.{mode_after}
use Rattle.kr_model.specs.Map.{Map, at}
use Rattle.kr_model.proofs.Guarantees.{Conflicts, Serves}
use Rattle.kr_theorem.proofs.gaps.Gaps.{has, Reach, at-key, at-unique, reach-refl, reach-at}
use Rattle.kr_theorem.proofs.step.Parts.{Parts, Changed, Moved}
use Rattle.kr_theorem.proofs.step.Covers.{Modes, read_cover, Granted, Covered, holds_clash, both_conflict_hit, both_conflict_key, changes_conflict_miss, changes_conflict_stop}
use Rattle.kr_theorem.proofs.step.Steps.{hit_apart, key_apart, gap_apart}
use Rattle.kr_theorem.proofs.step.Invariant.{Invariant, gone_moved}
use Rattle.kr_theorem.proofs.step.Scans.{key_cover, gap_reach}

-- The points that t may touch: each is covered by its locks after the step, and no other has moved what one reaches, or changed one.
pub record MayTouch (p : Protocol) (m : Map) (own' : Modes) (part : Parts) (t : ℕ) (New : ℕ → Type 0) : Type 0 where
  pub covers : (k : ℕ) → New k → Serves p (read_cover (has m k)) (own' t (at m k))
  pub apart : (u k c : ℕ) → u ≢ t → New k → Moved (part u) c → Reach m k c → ⊥
  pub unchanged : (u k : ℕ) → u ≢ t → New k → Changed (part u) k → ⊥

-- The locks after the step serve what the mode after this request does.
abbrev pub KeepsAfter : Protocol → Modes → Modes → ℕ → Row → Side → Name → Type 0
KeepsAfter p own own' t row side name = (c : Cover) → Serves p c (mode_after p (own t name) (p.ask row side 0)) → Serves p c (own' t name)

-- A row that moves no key asks the same whatever is held.
abbrev pub AsksAlike : Protocol → Type 0
AsksAlike p = (row : Row) (side : Side) (own : ℕ) → MovesNoKey row → own ≤ p.count → p.ask row side own ≡ p.ask row side 0

module _ (p : Protocol) (alike : AsksAlike p) (cases : Covered p) (m : Map) (own : Modes) (part : Parts) (c : Map) (i : Invariant p m own part c) (t : ℕ) (own' : Modes) where
  range : (u : ℕ) (name : Name) → own u name ≤ p.count
  range u name = let g = i.guarded in g.range u name

  -- A reading row asks the same whatever is held.
  whatever_held : (row : Row) (side : Side) (name : Name) → MovesNoKey row → Granted p own t row side name 0 → Granted p own t row side name (own t name)
  whatever_held row side name reads granted u ne conflict =
      granted u ne (subst (λ z. Conflicts p (own u name) (own t name) z) (alike row side (own t name) reads (range t name)) conflict)

  -- A fetch of a present key touches it.
  pub hit_touches : (k : ℕ) → has m k ≡ true → Granted p own t FetchHit Current (Key k) 0 → KeepsAfter p own own' t FetchHit Current (Key k) → MayTouch p m own' part t (λ y. y ≡ k)
  hit_touches k there granted after =
      let w = i.owned in
      record {
        covers = λ y e. subst (λ z. Serves p (read_cover (has m z)) (own' t (at m z))) (sym e)
            (subst (λ b. Serves p (read_cover b) (own' t (at m k))) (sym there)
            (subst (λ z. Serves p ReadKey (own' t z)) (sym (at-unique m k k i.is_map (reach-refl m k) there)) (after ReadKey (cases.after_hit (own t (Key k)) (range t (Key k))))));
        apart = hit_apart p m i.is_map own part i.guarded t k 0 (omega arith) granted there;
        unchanged = λ u y ne e changed. holds_clash p own t u FetchHit (Key k) 0 granted ne (w.present u k (subst (λ z. Changed (part u) z) e changed) there) (both_conflict_hit p) (range t (Key k)) (omega arith);
      }

  -- A fetch of an absent key touches it.
  pub miss_touches : (k : ℕ) → has m k ≡ false → Granted p own t FetchMiss Next (at m k) 0 → KeepsAfter p own own' t FetchMiss Next (at m k) → MayTouch p m own' part t (λ y. y ≡ k)
  miss_touches k absent granted after =
      let w = i.owned in
      let apart = gap_apart p m i.is_map own part i.guarded t k FetchMiss (changes_conflict_miss p) (whatever_held FetchMiss Next (at m k) tt granted) in
      let reach : (y : ℕ) → y ≡ k → Reach m k y = λ y e. subst (λ z. Reach m k z) (sym e) (reach-refl m k) in
      record {
        covers = λ y e. subst (λ z. Serves p (read_cover (has m z)) (own' t (at m z))) (sym e)
            (subst (λ b. Serves p (read_cover b) (own' t (at m k))) (sym absent) (after ReadGap (cases.after_miss (own t (at m k)) (range t (at m k)))));
        apart = λ u y c ne e. apart u y c ne (reach y e);
        unchanged = λ u y ne e changed. apart u y y ne (reach y e) (gone_moved p m own part w u y changed (ap (has m) e ∙ absent)) (reach-refl m y);
      }

  -- A scan that reads a key touches the points up to it.
  pub key_touches : (from x : ℕ) → at m from ≡ Key x → Granted p own t ScanKey Current (Key x) 0 → KeepsAfter p own own' t ScanKey Current (Key x) → MayTouch p m own' part t (λ y. (from ≤ y) × (y ≤ x))
  key_touches from x found granted after =
      let w = i.owned in
      let k = at-key m from x i.is_map found in
      let apart = key_apart p m i.is_map own part i.guarded t from x 0 (omega arith) granted found in
      let held = own' t (Key x) in
      record {
        covers = λ y here.
            let z = key_cover p m i.is_map held (after ReadKey (cases.after_key_key (own t (Key x)) (range t (Key x)))) (after ReadGap (cases.after_key_gap (own t (Key x)) (range t (Key x)))) from x y found here.0 here.1 in
            subst (λ n. Serves p (read_cover (has m y)) (own' t n)) (sym z.0) z.1;
        apart = apart;
        unchanged = λ u y ne here changed. ⊎_elim
            (λ lt. apart u y y ne here (gone_moved p m own part w u y changed (k.2 y here.0 lt)) (reach-refl m y))
            (λ ge. let e : y ≡ x = omega (arith, ge, here.1) in
            holds_clash p own t u ScanKey (Key x) 0 granted ne (w.present u x (subst (λ z. Changed (part u) z) e changed) k.1) (both_conflict_key p) (range t (Key x)) (omega arith))
            (cases_lt y x);
      }

  -- A scan that stops touches the points up to its upper end; no key stands there.
  pub stop_touches : (from hi : ℕ) → ((x : ℕ) → at m from ≡ Key x → hi < x) → Granted p own t ScanStop Next (at m from) 0 → KeepsAfter p own own' t ScanStop Next (at m from) → MayTouch p m own' part t (λ y. (from ≤ y) × (y ≤ hi))
  stop_touches from hi far granted after =
      let w = i.owned in
      let name = at m from in
      let apart = gap_apart p m i.is_map own part i.guarded t from ScanStop (changes_conflict_stop p) (whatever_held ScanStop Next name tt granted) in
      let reach : (y : ℕ) → (from ≤ y) × (y ≤ hi) → (Reach m from y) × (has m y ≡ false) = λ y here. gap_reach m i.is_map from hi y far here.0 here.1 in
      record {
        covers = λ y here.
            let z = reach y here in
            subst (λ b. Serves p (read_cover b) (own' t (at m y))) (sym z.1)
            (subst (λ x. Serves p ReadGap (own' t x)) (reach-at m from y i.is_map z.0) (after ReadGap (cases.after_stop (own t name) (range t name))));
        apart = λ u y c ne here. let z = reach y here in apart u y c ne z.0;
        unchanged = λ u y ne here changed. let z = reach y here in apart u y y ne z.0 (gone_moved p m own part w u y changed z.1) (reach-refl m y);
      }
