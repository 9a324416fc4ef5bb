-- A new key keeps how the lock states fit.
use Rattle.std.specs.Prelude.{◌≡◌, ℕ, Bool, true, false, if◌then◌else◌, List, [], ◌∷◌, Option, None, refl}
use Rattle.std.proofs.Common.{sym, ◌∙◌, ap, subst, inl, inr, ⊎_elim, ◌≢◌}
use Rattle.std.proofs.lemmas.Bool.{cases_eq}
use Rattle.kr_model.specs.declared.Name.{Name}
use Rattle.kr_model.specs.declared.Name.TheVariants.{Key, End}
use Rattle.kr_model.specs.Locks.{Locks, own}
use Rattle.kr_model.specs.Map.{Map}
use Rattle.kr_model.proofs.Actives.{tied}
use Rattle.kr_model.proofs.LockLaws.{name_or_not}
use Rattle.kr_theorem.proofs.gaps.Gaps.{has, Alike}
use Rattle.kr_theorem.proofs.step.Parts.{Part, Parts, with_part, by_part}
use Rattle.kr_ghost.specs.Protocol.{GhostProtocol}
use Rattle.kr_ghost.specs.Safe.{Free as KeyFree, Inserted, Hold, idle, free, Beside, start, turn, quiet, roll}
use Rattle.kr_ghost.proofs.Names.{key_is}
use Rattle.kr_ghost.proofs.Holding.{Holds, with_hold, hold_here, hold_apart, olds, olds_at, Fits}
use Rattle.kr_ghost.proofs.Sim.{status, Sim, Peer, alone_after, beside_after}
use Rattle.kr_ghost.proofs.Undone.{olds_apart}

-- Of two that have nothing on a name each may roll back.
pub idle_right : (p : GhostProtocol) (b : Bool) (x : Hold) (r : Bool) → Beside p b x free → Beside p b x (idle r)
idle_right p b x false s = s
idle_right p b x true s = turn b (idle true) x (quiet b free x b (idle true) (turn b x free s) (roll b free refl))

pub idle_both : (p : GhostProtocol) (b r u : Bool) → Beside p b (idle r) (idle u)
idle_both p b r u = turn b (idle u) (idle r) (idle_right p b (idle u) r (turn b free (idle u) (idle_right p b free u (start b))))

nothing_fits : (os : List (Option ℕ)) → Fits os KeyFree → os ≡ []
nothing_fits [] f = refl
nothing_fits (o ∷ os) f = absurd f

-- k, which was no name, is present now, and t has x on it.
module _ (p : GhostProtocol) (m m' e e' : Map) (l l' : Locks) (part : Parts) (hold : Holds) (z : Sim p m e l part hold) (t : ℕ) (q : Part) (k : ℕ) (x : Hold)
    (absent : has e k ≡ false) (there : has m' k ≡ true) (same : Alike k m m') (names : (y : ℕ) → has e' y ≡ false → (y ≢ k) × (has e y ≡ false))
    (new : Beside p true x free) (inserts : x.key ≡ Inserted) (rolling : x.rolling ≡ q.rolling) (rolling_same : q.rolling ≡ (part t).rolling) (changes : q.changes ≡ (k, None) ∷ (part t).changes)
    (mode_new : x.mode ≡ own l' t (Key k)) (modes : (u : ℕ) (n : Name) → ((u ≡ t) × (n ≡ Key k) → ⊥) → own l' u n ≡ own l u n) where
  abbrev pub added_holds : Holds
  added_holds = with_hold hold t (Key k) x

  here : added_holds t (Key k) ≡ x
  here = hold_here hold t (Key k) x

  -- Every other lock state stays.
  pub added_apart : (n : Name) → n ≢ Key k → added_holds t n ≡ hold t n
  added_apart n ne = hold_apart hold t (Key k) x t n (λ both. ne both.1)

  pub added_others : (u : ℕ) → u ≢ t → (n : Name) → added_holds u n ≡ hold u n
  added_others u ne n = hold_apart hold t (Key k) x u n (λ both. ne both.0)

  still : (n : Name) → n ≢ Key k → status m' n ≡ status m n
  still End ne = refl
  still (Key y) ne = same y (λ is. ne (ap Key is))

  -- Nobody has anything on the key.
  peer_idle : (y : Hold) → Peer p m m' e l part hold added_holds z t added_others (Key k) y → (r : Bool) × (y ≡ idle r)
  peer_idle y (inl is) = (false, is)
  peer_idle y (inr (u, ne, is)) = ((part u).rolling, is ∙ z.none u k absent)

  pair : (n : Name) (y : Hold) → Peer p m m' e l part hold added_holds z t added_others n y → Beside p (status m n) (hold t n) y → Beside p (status m' n) (added_holds t n) y
  pair n y peer b = ⊎_elim
      (λ is.
      let i = peer_idle y (subst (λ w. Peer p m m' e l part hold added_holds z t added_others w y) is peer) in
      subst (λ w. Beside p (status m' w) (added_holds t w) y) (sym is) (subst (λ h. Beside p (status m' (Key k)) h y) (sym here)
      (subst (λ s. Beside p s x y) (sym there) (subst (λ v. Beside p true x v) (sym i.1) (idle_right p true x i.0 new)))))
      (λ ne. subst (λ h. Beside p (status m' n) h y) (sym (added_apart n ne)) (subst (λ s. Beside p s (hold t n) y) (sym (still n ne)) b))
      (name_or_not n (Key k))

  third : (n : Name) (v w : Hold) → Peer p m m' e l part hold added_holds z t added_others n v → Peer p m m' e l part hold added_holds z t added_others n w
      → Beside p (status m n) v w → Beside p (status m n) (hold t n) v → Beside p (status m n) (hold t n) w → Beside p (status m' n) v w
  third n v w pv pw b bv bw = ⊎_elim
      (λ is.
      let i = peer_idle v (subst (λ y. Peer p m m' e l part hold added_holds z t added_others y v) is pv) in
      let j = peer_idle w (subst (λ y. Peer p m m' e l part hold added_holds z t added_others y w) is pw) in
      subst (λ y. Beside p (status m' n) v y) (sym j.1) (subst (λ y. Beside p (status m' n) y (idle j.0)) (sym i.1) (idle_both p (status m' n) i.0 j.0)))
      (λ ne. subst (λ s. Beside p s v w) (sym (still n ne)) b)
      (name_or_not n (Key k))

  -- So the lock states fit the index with the new key.
  pub added_sim : Sim p m' e' l' (with_part part t q) added_holds
  added_sim = record {
    mode = λ u n. ⊎_elim
        (λ is. subst (λ w. (added_holds w n).mode ≡ own l' w n) (sym is) (⊎_elim
        (λ at_k. subst (λ w. (added_holds t w).mode ≡ own l' t w) (sym at_k) (ap (λ (h : Hold). h.mode) here ∙ mode_new))
        (λ ne. ap (λ (h : Hold). h.mode) (added_apart n ne) ∙ z.mode t n ∙ sym (modes t n (λ both. ne both.1)))
        (name_or_not n (Key k))))
        (λ ne. ap (λ (h : Hold). h.mode) (added_others u ne n) ∙ z.mode u n ∙ sym (modes u n (λ both. ne both.0)))
        (cases_eq u t);
    rolls = λ u n. by_part (λ v w. (added_holds v n).rolling ≡ w.rolling) part t q
        (⊎_elim
        (λ at_k. subst (λ w. (added_holds t w).rolling ≡ q.rolling) (sym at_k) (ap (λ (h : Hold). h.rolling) here ∙ rolling))
        (λ ne. ap (λ (h : Hold). h.rolling) (added_apart n ne) ∙ z.rolls t n ∙ sym rolling_same)
        (name_or_not n (Key k)))
        (λ v ne. ap (λ (h : Hold). h.rolling) (added_others v ne n) ∙ z.rolls v n) u;
    none = λ u y gone.
        let w = names y gone in
        by_part (λ v w. added_holds v (Key y) ≡ idle w.rolling) part t q
        (added_apart (Key y) (λ is. w.0 (key_is y k is)) ∙ z.none t y w.1 ∙ ap idle (sym rolling_same))
        (λ v ne. added_others v ne (Key y) ∙ z.none v y w.1) u;
    fits = λ u n. by_part (λ v w. Fits (olds_at w.changes n) (added_holds v n).key) part t q
        (subst (λ cs. Fits (olds_at cs n) (added_holds t n).key) (sym changes) (⊎_elim
        (λ at_k. subst (λ w. Fits (olds_at ((k, None) ∷ (part t).changes) w) (added_holds t w).key) (sym at_k)
        (subst (λ h. Fits (olds ((k, None) ∷ (part t).changes) k) h.key) (sym here) (subst (λ b. Fits (olds ((k, None) ∷ (part t).changes) k) b) (sym inserts)
        (subst (λ os. Fits os Inserted) (sym only) tt))))
        (λ ne. subst (λ h. Fits (olds_at ((k, None) ∷ (part t).changes) n) h.key) (sym (added_apart n ne))
        (subst (λ os. Fits os (hold t n).key) (sym (olds_apart (k, None) (part t).changes n ne)) (z.fits t n)))
        (name_or_not n (Key k))))
        (λ v ne. subst (λ h. Fits (olds_at (part v).changes n) h.key) (sym (added_others v ne n)) (z.fits v n)) u;
    alone = alone_after p m m' e l part hold added_holds z t added_others pair third;
    beside = beside_after p m m' e l part hold added_holds z t added_others pair third;
  }
    where
      none_before : olds (part t).changes k ≡ []
      none_before = nothing_fits (olds (part t).changes k) (subst (λ h. Fits (olds (part t).changes k) h.key) (z.none t k absent) (z.fits t (Key k)))

      only : olds ((k, None) ∷ (part t).changes) k ≡ None ∷ []
      only = ap (λ b. if b then None ∷ olds (part t).changes k else olds (part t).changes k) (tied k) ∙ ap (λ os. None ∷ os) none_before
