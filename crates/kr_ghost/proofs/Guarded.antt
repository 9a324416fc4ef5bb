-- What the lock states guard, and that each kind of step keeps it.
use Rattle.std.specs.Prelude.{◌≡◌, ℕ, Bool, true, false, ◌⊎◌}
use Rattle.std.proofs.Common.{sym, ◌∙◌, ap, subst, ⊎_elim, ◌≢◌, arith, true≢false}
use Rattle.std.proofs.lemmas.Bool.{cases_lt, cases_eq}
use Rattle.kr_model.specs.declared.Name.{Name}
use Rattle.kr_model.specs.declared.Name.TheVariants.{Key}
use Rattle.kr_model.specs.Map.{Map, IsMap, at}
use Rattle.kr_theorem.proofs.gaps.Gaps.{has, Reach, at-key, at-unique, reach-refl, reach-at, reach-dec, at-stable, Alike, alike-outside, at-insert, at-delete}
use Rattle.kr_theorem.proofs.step.Parts.{Part, Parts, blank, Touched, Changed, changed_touched, blank_untouched, with_part, with_other, by_part, whose}
use Rattle.kr_ghost.specs.declared.cases.Cover.{Cover}
use Rattle.kr_ghost.specs.declared.cases.Cover.TheVariants.{ReadKey, ReadGap, ChangedKey}
use Rattle.kr_ghost.proofs.Names.{key_is}
use Rattle.kr_ghost.proofs.Holding.{Holds, Protects, weaken}

-- The cover that a touched point needs, by whether it is a name.
abbrev pub read_cover : Bool → Cover
read_cover true = ReadKey
read_cover false = ReadGap

-- What the lock states guard, where these keys are names.
pub record Guarded (e : Map) (hold : Holds) (part : Parts) : Type 0 where
  -- a changed key is a name
  pub named : (t k : ℕ) → Changed (part t) k → has e k ≡ true
  -- a touched point is protected as one that was read, and a changed key as one that was changed
  pub cover : (t k : ℕ) → Touched (part t) k → Protects (read_cover (has e k)) (hold t (at e k))
  pub change : (t k : ℕ) → Changed (part t) k → Protects ChangedKey (hold t (Key k))
  -- no other has touched a changed key
  pub alone : (t u k : ℕ) → u ≢ t → Touched (part u) k → Changed (part t) k → ⊥

-- What a step of t does to the lock states: those of others stay, and what those of t protect stays protected.
pub record Taken (hold hold' : Holds) (t : ℕ) : Type 0 where
  pub others : (u : ℕ) → u ≢ t → (name : Name) → hold' u name ≡ hold u name
  pub keeps : (name : Name) (c : Cover) → Protects c (hold t name) → Protects c (hold' t name)

-- A name hangs on itself.
pub at-name : (e : Map) (k : ℕ) → IsMap e → has e k ≡ true → at e k ≡ Key k
at-name e k he there = at-unique e k k he (reach-refl e k) there

-- A touched name is protected by what is held on it, and a touched point that is no name by what is held on the name that it hangs on.
pub cover_name : (e : Map) (hold : Holds) (part : Parts) → IsMap e → Guarded e hold part → (t k : ℕ) → Touched (part t) k → has e k ≡ true → Protects ReadKey (hold t (Key k))
cover_name e hold part he g t k touch there =
    subst (λ n. Protects ReadKey (hold t n)) (at-name e k he there) (subst (λ b. Protects (read_cover b) (hold t (at e k))) there (g.cover t k touch))

pub cover_gap : (e : Map) (hold : Holds) (part : Parts) → Guarded e hold part → (t k : ℕ) → Touched (part t) k → has e k ≡ false → Protects ReadGap (hold t (at e k))
cover_gap e hold part g t k touch absent = subst (λ b. Protects (read_cover b) (hold t (at e k))) absent (g.cover t k touch)

-- And the other way round.
pub covered_name : (e : Map) (hold : Holds) → IsMap e → (t k : ℕ) → has e k ≡ true → Protects ReadKey (hold t (Key k)) → Protects (read_cover (has e k)) (hold t (at e k))
covered_name e hold he t k there s =
    subst (λ b. Protects (read_cover b) (hold t (at e k))) (sym there) (subst (λ n. Protects ReadKey (hold t n)) (sym (at-name e k he there)) s)

pub covered_gap : (e : Map) (hold : Holds) (t k : ℕ) (n : Name) → has e k ≡ false → at e k ≡ n → Protects ReadGap (hold t n) → Protects (read_cover (has e k)) (hold t (at e k))
covered_gap e hold t k n absent is s =
    subst (λ b. Protects (read_cover b) (hold t (at e k))) (sym absent) (subst (λ n. Protects ReadGap (hold t n)) (sym is) s)

-- A point that reaches what is no name is none either.
pub gap_below : (e : Map) (y k : ℕ) → Reach e y k → has e k ≡ false → has e y ≡ false
gap_below e y k r none = ⊎_elim (λ lt. r.1 y (omega arith) lt) (λ ge. let same : y ≡ k = omega (arith, r.0, ge) in ap (has e) same ∙ none) (cases_lt y k)

-- One step of t, by which no name goes, and none comes in the reach of a point that another touched.
module _ (e e' : Map) (he : IsMap e) (he' : IsMap e') (hold hold' : Holds) (part : Parts) (t : ℕ) (q : Part) (g : Guarded e hold part)
    (others : (u : ℕ) → u ≢ t → (name : Name) → hold' u name ≡ hold u name) (more : (k : ℕ) → has e k ≡ true → has e' k ≡ true) where
  pub stepped : ((u k : ℕ) → u ≢ t → Touched (part u) k → (y : ℕ) → Reach e k y → has e' y ≡ has e y)
      → ((k : ℕ) → Changed q k → has e' k ≡ true)
      → ((k : ℕ) → Touched q k → Protects (read_cover (has e' k)) (hold' t (at e' k)))
      → ((k : ℕ) → Changed q k → Protects ChangedKey (hold' t (Key k)))
      → ((u k : ℕ) → u ≢ t → Touched (part u) k → Changed q k → ⊥)
      → ((u k : ℕ) → u ≢ t → Touched q k → Changed (part u) k → ⊥)
      → Guarded e' hold' (with_part part t q)
  stepped same named cover change changer toucher = record {
    named = by_part (λ u x. (k : ℕ) → Changed x k → has e' k ≡ true) part t q named (λ u ne k c. more k (g.named u k c));
    cover = by_part (λ u x. (k : ℕ) → Touched x k → Protects (read_cover (has e' k)) (hold' u (at e' k))) part t q cover
        (λ u ne k touch. subst (λ b. Protects (read_cover b) (hold' u (at e' k))) (sym (same u k ne touch k (reach-refl e k)))
        (subst (λ h. Protects (read_cover (has e k)) h) (sym (others u ne (at e' k)))
        (subst (λ n. Protects (read_cover (has e k)) (hold u n)) (sym (at-stable e e' k he he' (same u k ne touch))) (g.cover u k touch))));
    change = by_part (λ u x. (k : ℕ) → Changed x k → Protects ChangedKey (hold' u (Key k))) part t q change
        (λ u ne k c. subst (λ h. Protects ChangedKey h) (sym (others u ne (Key k))) (g.change u k c));
    alone = λ w u k ne touch changed. ⊎_elim
        (λ mine. let wt : w ≢ t = λ is. ne (mine.0 ∙ sym is) in toucher w k wt mine.1 (subst (λ z. Changed z k) (with_other part t q w wt) changed))
        (λ other. ⊎_elim (λ mine. changer u k other.0 other.1 mine.1) (λ old. g.alone w u k ne other.1 old.1) (whose (λ z. Changed z k) part t q w changed))
        (whose (λ z. Touched z k) part t q u touch);
  }

-- No name comes or goes --

module _ (e e' : Map) (he : IsMap e) (he' : IsMap e') (same : (y : ℕ) → has e' y ≡ has e y) (hold hold' : Holds) (part : Parts) (t : ℕ) (q : Part)
    (g : Guarded e hold part) (others : (u : ℕ) → u ≢ t → (name : Name) → hold' u name ≡ hold u name) where
  same_at : (k : ℕ) → at e' k ≡ at e k
  same_at k = at-stable e e' k he he' (λ y r. same y)

  -- A step of t by which no name comes or goes.
  pub same_names : ((k : ℕ) → Changed q k → has e k ≡ true)
      → ((k : ℕ) → Touched q k → Protects (read_cover (has e k)) (hold' t (at e k)))
      → ((k : ℕ) → Changed q k → Protects ChangedKey (hold' t (Key k)))
      → ((u k : ℕ) → u ≢ t → Touched (part u) k → Changed q k → ⊥)
      → ((u k : ℕ) → u ≢ t → Touched q k → Changed (part u) k → ⊥)
      → Guarded e' hold' (with_part part t q)
  same_names named cover change changer toucher =
      stepped e e' he he' hold hold' part t q g others (λ k there. same k ∙ there)
      (λ u k ne touch y r. same y)
      (λ k c. same k ∙ named k c)
      (λ k touch. subst (λ b. Protects (read_cover b) (hold' t (at e' k))) (sym (same k)) (subst (λ n. Protects (read_cover (has e k)) (hold' t n)) (sym (same_at k)) (cover k touch)))
      change changer toucher

  -- An end: t has nothing left.
  pub end_step : q ≡ blank → Guarded e' hold' (with_part part t q)
  end_step is =
      let none : (k : ℕ) → Touched q k → ⊥ = λ k touch. blank_untouched k (subst (λ z. Touched z k) is touch) in
      same_names (λ k c. absurd (none k (changed_touched q k c))) (λ k touch. absurd (none k touch)) (λ k c. absurd (none k (changed_touched q k c)))
      (λ u k ne touch c. none k (changed_touched q k c)) (λ u k ne touch c. none k touch)

  -- The newest change of t is undone: it touches its changes left alone, they are a part of those before, and they stay protected.
  pub back_step : ((k : ℕ) → Touched q k → Changed q k) → ((k : ℕ) → Changed q k → Changed (part t) k)
      → ((k : ℕ) → Changed q k → Protects ChangedKey (hold' t (Key k))) → Guarded e' hold' (with_part part t q)
  back_step alone was mine =
      same_names (λ k c. g.named t k (was k c))
      (λ k touch. let c = alone k touch in covered_name e hold' he t k (g.named t k (was k c)) (weaken (hold' t (Key k)) (mine k c)))
      mine
      (λ u k ne touch c. g.alone t u k ne touch (was k c))
      (λ u k ne touch c. g.alone u t k (λ is. ne (sym is)) (changed_touched (part t) k (was k (alone k touch))) c)

module _ (e e' : Map) (he : IsMap e) (he' : IsMap e') (hold hold' : Holds) (part : Parts) (t : ℕ) (q : Part) (g : Guarded e hold part) (taken : Taken hold hold' t) where
  -- A read: t touches some points more.
  pub read_step : (New : ℕ → Type 0) → ((y : ℕ) → has e' y ≡ has e y)
      → ((k : ℕ) → Touched q k → (Touched (part t) k) ⊎ New k)
      → ((k : ℕ) → Changed q k → Changed (part t) k)
      → ((k : ℕ) → New k → Protects (read_cover (has e k)) (hold' t (at e k)))
      → ((u k : ℕ) → u ≢ t → New k → Changed (part u) k → ⊥)
      → Guarded e' hold' (with_part part t q)
  read_step New same touched changed covers unchanged =
      same_names e e' he he' same hold hold' part t q g taken.others
      (λ k c. g.named t k (changed k c))
      (λ k touch. ⊎_elim (λ old. taken.keeps (at e k) (read_cover (has e k)) (g.cover t k old)) (λ new. covers k new) (touched k touch))
      (λ k c. taken.keeps (Key k) ChangedKey (g.change t k (changed k c)))
      (λ u k ne touch c. g.alone t u k ne touch (changed k c))
      (λ u k ne touch c. ⊎_elim (λ old. g.alone u t k (λ is. ne (sym is)) old c) (λ new. unchanged u k ne new c) (touched k touch))

  -- A change of a name k: a delete, an update, or an insert of a ghost.
  pub change_step : (k : ℕ) → has e k ≡ true → ((y : ℕ) → has e' y ≡ has e y)
      → ((u : ℕ) → u ≢ t → Touched (part u) k → ⊥)
      → Protects ChangedKey (hold' t (Key k))
      → ((y : ℕ) → Touched q y → (Touched (part t) y) ⊎ (y ≡ k))
      → ((y : ℕ) → Changed q y → (Changed (part t) y) ⊎ (y ≡ k))
      → Guarded e' hold' (with_part part t q)
  change_step k there same untouched self touched changed =
      same_names e e' he he' same hold hold' part t q g taken.others
      (λ y c. ⊎_elim (λ old. g.named t y old) (λ is. ap (has e) is ∙ there) (changed y c))
      (λ y touch. ⊎_elim
      (λ old. taken.keeps (at e y) (read_cover (has e y)) (g.cover t y old))
      (λ is. subst (λ z. Protects (read_cover (has e z)) (hold' t (at e z))) (sym is) (covered_name e hold' he t k there (weaken (hold' t (Key k)) self)))
      (touched y touch))
      (λ y c. ⊎_elim (λ old. taken.keeps (Key y) ChangedKey (g.change t y old)) (λ is. subst (λ z. Protects ChangedKey (hold' t (Key z))) (sym is) self) (changed y c))
      (λ u y ne touch c. ⊎_elim (λ old. g.alone t u y ne touch old) (λ is. untouched u ne (subst (λ z. Touched (part u) z) is touch)) (changed y c))
      (λ u y ne touch c. ⊎_elim (λ old. g.alone u t y (λ is. ne (sym is)) old c)
      (λ is. untouched u ne (changed_touched (part u) k (subst (λ z. Changed (part u) z) is c))) (touched y touch))

  -- A new name, where no other protects the gap --

  -- No other has touched a point that reaches the new key.
  pub outside : (k : ℕ) → has e k ≡ false → ((u : ℕ) → u ≢ t → Protects ReadGap (hold u (at e k)) → ⊥) → (u y : ℕ) → u ≢ t → Touched (part u) y → Reach e y k → ⊥
  outside k absent unread u y ne touch reach =
      unread u ne (subst (λ n. Protects ReadGap (hold u n)) (reach-at e y k he reach) (cover_gap e hold part g u y touch (gap_below e y k reach absent)))

  -- A step of t by which the key k becomes a name.
  pub insert_step : (k : ℕ) → has e k ≡ false → has e' k ≡ true → Alike k e e'
      → ((u : ℕ) → u ≢ t → Protects ReadGap (hold u (at e k)) → ⊥)
      → Protects ChangedKey (hold' t (Key k))
      → (Protects ReadGap (hold t (at e k)) → Protects ReadGap (hold' t (Key k)))
      → ((y : ℕ) → Touched q y → (Touched (part t) y) ⊎ (y ≡ k))
      → ((y : ℕ) → Changed q y → (Changed (part t) y) ⊎ (y ≡ k))
      → Guarded e' hold' (with_part part t q)
  insert_step k absent there alike unread self split touched changed =
      let more : (y : ℕ) → has e y ≡ true → has e' y ≡ true = λ y h. ⊎_elim (λ is. ap (has e') is ∙ there) (λ ne. alike y ne ∙ h) (cases_eq y k) in
      let carried : (y : ℕ) → y ≢ k → Touched (part t) y → Protects (read_cover (has e' y)) (hold' t (at e' y)) = λ y ne touch. ⊎_elim
      (λ reach.
      let none = gap_below e y k reach absent in
      covered_gap e' hold' t y (Key k) (alike y ne ∙ none) (at-insert e e' k y he' alike there reach)
      (split (subst (λ n. Protects ReadGap (hold t n)) (reach-at e y k he reach) (cover_gap e hold part g t y touch none))))
      (λ out.
      subst (λ b. Protects (read_cover b) (hold' t (at e' y))) (sym (alike y ne))
      (subst (λ n. Protects (read_cover (has e y)) (hold' t n)) (sym (at-stable e e' y he he' (alike-outside e e' k y alike out))) (taken.keeps (at e y) (read_cover (has e y)) (g.cover t y touch))))
      (reach-dec e y k he) in
      stepped e e' he he' hold hold' part t q g taken.others more
      (λ u y ne touch. alike-outside e e' k y alike (outside k absent unread u y ne touch))
      (λ y c. ⊎_elim (λ old. more y (g.named t y old)) (λ is. ap (has e') is ∙ there) (changed y c))
      (λ y touch. ⊎_elim
      (λ is. subst (λ z. Protects (read_cover (has e' z)) (hold' t (at e' z))) (sym is) (covered_name e' hold' he' t k there (weaken (hold' t (Key k)) self)))
      (λ ne. carried y ne (⊎_elim (λ old. old) (λ is. absurd (ne is)) (touched y touch)))
      (cases_eq y k))
      (λ y c. ⊎_elim (λ old. taken.keeps (Key y) ChangedKey (g.change t y old)) (λ is. subst (λ z. Protects ChangedKey (hold' t (Key z))) (sym is) self) (changed y c))
      (λ u y ne touch c. ⊎_elim (λ old. g.alone t u y ne touch old) (λ is. outside k absent unread u k ne (subst (λ z. Touched (part u) z) is touch) (reach-refl e k)) (changed y c))
      (λ u y ne touch c. ⊎_elim (λ old. g.alone u t y (λ is. ne (sym is)) old c)
      (λ is. true≢false (sym (g.named u k (subst (λ z. Changed (part u) z) is c)) ∙ absent)) (touched y touch))

-- A name goes --

-- What a purge of k does to the lock states, where n is the next name: what was protected of points that hang on k is protected on n.
pub record Passed (e : Map) (hold hold' : Holds) (part : Parts) (k : ℕ) (n : Name) : Type 0 where
  pub keeps : (u : ℕ) (name : Name) (c : Cover) → name ≢ Key k → Protects c (hold u name) → Protects c (hold' u name)
  pub inherits : (u y : ℕ) → Touched (part u) y → at e y ≡ Key k → Protects (read_cover (has e y)) (hold u (Key k)) → Protects ReadGap (hold' u n)

module _ (e e' : Map) (he : IsMap e) (he' : IsMap e') (hold hold' : Holds) (part : Parts) (g : Guarded e hold part) (k : ℕ) (there : has e k ≡ true)
    (gone : has e' k ≡ false) (alike : Alike k e e') (passed : Passed e hold hold' part k (at e' k)) where
  -- What reaches k hangs on the next name afterwards.
  next_above : (y : ℕ) → Reach e y k → at e' y ≡ at e' k
  next_above y reach = at-delete e e' k y he he' alike gone reach ∙ sym (at-delete e e' k k he he' alike gone (reach-refl e k))

  no_name : (y : ℕ) → Reach e y k → has e' y ≡ false
  no_name y reach =
      ⊎_elim (λ is. ap (has e') is ∙ gone) (λ ne. alike y ne ∙ ⊎_elim (λ lt. reach.1 y (omega arith) lt) (λ ge. absurd (ne (let same : y ≡ k = omega (arith, reach.0, ge) in same))) (cases_lt y k))
      (cases_eq y k)

  outside_k : (y : ℕ) → (Reach e y k → ⊥) → at e y ≢ Key k
  outside_k y out is = let w = at-key e y k he is in out (w.0, w.2)

  -- A purge of k, which nobody has changed.
  pub purge_step : ((u : ℕ) → Changed (part u) k → ⊥) → Guarded e' hold' part
  purge_step unchanged = record {
    named = λ u y c. alike y (λ is. unchanged u (subst (λ z. Changed (part u) z) is c)) ∙ g.named u y c;
    cover = λ u y touch. ⊎_elim
        (λ reach.
        let is : at e y ≡ Key k = at-unique e y k he reach there in
        covered_gap e' hold' u y (at e' k) (no_name y reach) (next_above y reach)
        (passed.inherits u y touch is (subst (λ n. Protects (read_cover (has e y)) (hold u n)) is (g.cover u y touch))))
        (λ out.
        subst (λ b. Protects (read_cover b) (hold' u (at e' y))) (sym (alike y (λ is. out (subst (λ z. Reach e z k) (sym is) (reach-refl e k)))))
        (subst (λ n. Protects (read_cover (has e y)) (hold' u n)) (sym (at-stable e e' y he he' (alike-outside e e' k y alike out)))
        (passed.keeps u (at e y) (read_cover (has e y)) (outside_k y out) (g.cover u y touch))))
        (reach-dec e y k he);
    change = λ u y c. passed.keeps u (Key y) ChangedKey (λ is. unchanged u (subst (λ z. Changed (part u) z) (key_is y k is) c)) (g.change u y c);
    alone = g.alone;
  }
