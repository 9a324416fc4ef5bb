-- The part of the invariant that speaks of locks and gaps, and what one step of a transaction has to show to keep it.
use Rattle.std.proofs.Common.{ℕ, ◌≤◌, ◌≡◌, ◌≢◌, ⊎_elim, sym, ◌∙◌, Bool, subst}
use Rattle.kr_model.specs.declared.Name.{Name}
use Rattle.kr_model.specs.declared.Cover.{Cover}
use Rattle.kr_model.specs.Protocol.{Protocol}
use Rattle.kr_model.specs.Map.{Map, IsMap, at}
use Rattle.kr_model.proofs.Guarantees.{Serves}
use Rattle.kr_theorem.proofs.gaps.Gaps.{has, Reach, reach-refl, at-stable, reach-stable}
use Rattle.kr_theorem.proofs.step.Parts.{Part, Parts, Touched, Moved, with_part, with_other, by_part, whose}
use Rattle.kr_theorem.proofs.step.Covers.{Modes, read_cover, change_cover}

-- What a step of t does to the locks: all modes stay in range, those of others stay, and what those of t serve stays served.
pub record Taken (p : Protocol) (before after : Modes) (t : ℕ) : Type 0 where
  pub range : (u : ℕ) (name : Name) → after u name ≤ p.count
  pub others : (u : ℕ) → u ≢ t → (name : Name) → after u name ≡ before u name
  pub keeps : (name : Name) (c : Cover) → Serves p c (before t name) → Serves p c (after t name)

-- What the locks guard.
pub record Guarded (p : Protocol) (m : Map) (own : Modes) (part : Parts) : Type 0 where
  -- each mode is none or a mode
  pub range : (t : ℕ) (n : Name) → own t n ≤ p.count
  -- a touched point is covered as one that was read
  pub cover : (t k : ℕ) → Touched (part t) k → Serves p (read_cover (has m k)) (own t (at m k))
  -- a moved key is covered as one that was inserted or deleted
  pub change : (t k : ℕ) → Moved (part t) k → Serves p (change_cover (has m k)) (own t (at m k))
  -- no point that one transaction touched reaches a key that another moved
  pub apart : (t u k c : ℕ) → u ≢ t → Touched (part u) k → Moved (part t) c → Reach m k c → ⊥

-- One step of t, from m to n, after which its part is q. It shows that no key comes or goes in the reach of a point that another touched; that its own points and
-- keys are covered; and that neither its keys are in the reach of another's points, nor another's keys in that of its own.
pub stepped : (p : Protocol) (m n : Map) → IsMap m → IsMap n → (own own' : Modes) (part : Parts) (t : ℕ) (q : Part)
    → Guarded p m own part
    → ((u : ℕ) (name : Name) → own' u name ≤ p.count)
    → ((u : ℕ) → u ≢ t → (name : Name) → own' u name ≡ own u name)
    → ((u k : ℕ) → Moved (part u) k → Touched (part u) k)
    → ((u k : ℕ) → u ≢ t → Touched (part u) k → (y : ℕ) → Reach m k y → has n y ≡ has m y)
    → ((k : ℕ) → Touched q k → Serves p (read_cover (has n k)) (own' t (at n k)))
    → ((k : ℕ) → Moved q k → Serves p (change_cover (has n k)) (own' t (at n k)))
    → ((u k c : ℕ) → u ≢ t → Touched (part u) k → Moved q c → Reach m k c → ⊥)
    → ((u k c : ℕ) → u ≢ t → Touched q k → Moved (part u) c → Reach n k c → ⊥)
    → Guarded p n own' (with_part part t q)
stepped p m n hm hn own own' part t q g range others held same cover change changer toucher =
    let stays : (u k : ℕ) → u ≢ t → Touched (part u) k → (kind : Bool → Cover) → Serves p (kind (has m k)) (own u (at m k)) → Serves p (kind (has n k)) (own' u (at n k)) =
    λ u k ne touch kind s.
    subst (λ h. Serves p (kind h) (own' u (at n k))) (sym (same u k ne touch k (reach-refl m k)))
    (subst (λ h. Serves p (kind (has m k)) h) (sym (others u ne (at n k)))
    (subst (λ z. Serves p (kind (has m k)) (own u z)) (sym (at-stable m n k hm hn (same u k ne touch))) s)) in
    record {
      range = range;
      cover = by_part (λ u x. (k : ℕ) → Touched x k → Serves p (read_cover (has n k)) (own' u (at n k))) part t q cover (λ u ne k touch. stays u k ne touch read_cover (g.cover u k touch));
      change = by_part (λ u x. (k : ℕ) → Moved x k → Serves p (change_cover (has n k)) (own' u (at n k))) part t q change (λ u ne k moved. stays u k ne (held u k moved) change_cover (g.change u k moved));
      apart = λ w u k c ne touch moved reach. ⊎_elim
          (λ mine. let wt : w ≢ t = λ e. ne (mine.0 ∙ sym e) in toucher w k c wt mine.1 (subst (λ z. Moved z c) (with_other part t q w wt) moved) reach)
          (λ other. let back = reach-stable m n k c (same u k other.0 other.1) reach in ⊎_elim
          (λ mine. changer u k c other.0 other.1 mine.1 back)
          (λ old. g.apart w u k c ne other.1 old.1 back)
          (whose (λ z. Moved z c) part t q w moved))
          (whose (λ z. Touched z k) part t q u touch);
    }
