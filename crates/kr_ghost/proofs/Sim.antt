-- How the lock states of a run fit its locks and its index, and that whatever one transaction does on its names keeps that.
use Rattle.std.specs.Prelude.{◌≡◌, ℕ, Bool, true, false, if◌then◌else◌, refl, ◌⊎◌, Option}
use Rattle.std.proofs.Common.{sym, ◌∙◌, ap, subst, inl, inr, ⊎_elim, ◌≢◌, eqb}
use Rattle.std.proofs.lemmas.Bool.{cases_eq, eq-eqb, ne_eqb}
use Rattle.kr_model.specs.declared.Name.{Name}
use Rattle.kr_model.specs.declared.Name.TheVariants.{Key, End}
use Rattle.kr_model.specs.Locks.{Locks, own}
use Rattle.kr_model.specs.Map.{Map, restore}
use Rattle.kr_theorem.proofs.gaps.Gaps.{has}
use Rattle.kr_theorem.proofs.gaps.Moves.{has_apart}
use Rattle.kr_theorem.proofs.step.Parts.{Part, Parts, with_part, by_part, with_same, with_other}
use Rattle.kr_ghost.specs.Protocol.{GhostProtocol}
use Rattle.kr_ghost.specs.Safe.{Hold, idle, free, Quiet, Beside, turn, quiet}
use Rattle.kr_ghost.proofs.Holding.{Holds, olds_at, Fits}

-- Whether the key of a name is present; the end has none.
abbrev pub status : Map → Name → Bool
status m (Key k) = has m k
status m End = true

-- How the lock states fit, where these keys are names.
pub record Sim (p : GhostProtocol) (m e : Map) (l : Locks) (part : Parts) (hold : Holds) : Type 0 where
  -- each has the mode that is held, and rolls back where its transaction does; nobody has anything on what is no name
  pub mode : (t : ℕ) (n : Name) → (hold t n).mode ≡ own l t n
  pub rolls : (t : ℕ) (n : Name) → (hold t n).rolling ≡ (part t).rolling
  pub none : (t k : ℕ) → has e k ≡ false → hold t (Key k) ≡ idle (part t).rolling
  -- what has been done with a key agrees with the changes left
  pub fits : (t : ℕ) (n : Name) → Fits (olds_at (part t).changes n) (hold t n).key
  -- two can be on each name, and one with nobody beside it
  pub alone : (t : ℕ) (n : Name) → Beside p (status m n) (hold t n) free
  pub beside : (t u : ℕ) (n : Name) → t ≢ u → Beside p (status m n) (hold t n) (hold u n)

-- What stands at a key changes no other name's status.
pub status_apart : (m : Map) (k : ℕ) (b : Option ℕ) (n : Name) → n ≢ Key k → status (restore m k b) n ≡ status m n
status_apart m k b End ne = refl
status_apart m k b (Key y) ne = has_apart m k b y (λ is. ne (ap Key is))

-- With its own part put in its place, all parts are as they were.
pub as_was : (part : Parts) (t u : ℕ) → with_part part t (part t) u ≡ part u
as_was part t u = ⊎_elim (λ is. subst (λ w. with_part part t (part t) w ≡ part w) (sym is) (with_same part t (part t)))
    (λ ne. with_other part t (part t) u ne) (cases_eq u t)

-- Only what the parts say of changes and of rolling back counts.
pub sim_by : (p : GhostProtocol) (m e : Map) (l : Locks) (part part' : Parts) (hold : Holds) → ((t : ℕ) → (part' t).changes ≡ (part t).changes) → ((t : ℕ) → (part' t).rolling ≡ (part t).rolling)
    → Sim p m e l part hold → Sim p m e l part' hold
sim_by p m e l part part' hold changes rolling z = record {
  mode = z.mode;
  rolls = λ t n. z.rolls t n ∙ sym (rolling t);
  none = λ t k out. z.none t k out ∙ ap idle (sym (rolling t));
  fits = λ t n. subst (λ cs. Fits (olds_at cs n) (hold t n).key) (sym (changes t)) (z.fits t n);
  alone = z.alone;
  beside = z.beside;
}

-- One transaction does something --

module _ (p : GhostProtocol) (m m' e : Map) (l : Locks) (part : Parts) (hold hold' : Holds) (z : Sim p m e l part hold) (t : ℕ) (others : (u : ℕ) → u ≢ t → (n : Name) → hold' u n ≡ hold u n) where
  -- Whoever may be beside t on a name: another, or nobody.
  abbrev pub Peer : Name → Hold → Type 0
  Peer n y = (y ≡ free) ⊎ ((u : ℕ) × (u ≢ t) × (y ≡ hold u n))

  module _ (pair : (n : Name) (y : Hold) → Peer n y → Beside p (status m n) (hold t n) y → Beside p (status m' n) (hold' t n) y)
      (third : (n : Name) (x y : Hold) → Peer n x → Peer n y → Beside p (status m n) x y → Beside p (status m n) (hold t n) x → Beside p (status m n) (hold t n) y → Beside p (status m' n) x y) where
    peer : (u : ℕ) (n : Name) → u ≢ t → Peer n (hold u n)
    peer u n ne = inr (u, ne, refl)

    -- So each can be on the name alone afterwards, and each two can be.
    pub alone_after : (u : ℕ) (n : Name) → Beside p (status m' n) (hold' u n) free
    alone_after u n = ⊎_elim
        (λ is. subst (λ w. Beside p (status m' n) (hold' w n) free) (sym is) (pair n free (inl refl) (z.alone t n)))
        (λ ne. subst (λ x. Beside p (status m' n) x free) (sym (others u ne n)) (third n (hold u n) free (peer u n ne) (inl refl) (z.alone u n) (z.beside t u n (λ is. ne (sym is))) (z.alone t n)))
        (cases_eq u t)

    pub beside_after : (u w : ℕ) (n : Name) → u ≢ w → Beside p (status m' n) (hold' u n) (hold' w n)
    beside_after u w n apart = ⊎_elim
        (λ is.
        let nw : w ≢ t = λ same. apart (is ∙ sym same) in
        subst (λ x. Beside p (status m' n) (hold' x n) (hold' w n)) (sym is)
        (subst (λ y. Beside p (status m' n) (hold' t n) y) (sym (others w nw n)) (pair n (hold w n) (peer w n nw) (z.beside t w n (λ same. nw (sym same))))))
        (λ nu. subst (λ x. Beside p (status m' n) x (hold' w n)) (sym (others u nu n)) (⊎_elim
        (λ is. subst (λ y. Beside p (status m' n) (hold u n) (hold' y n)) (sym is)
        (turn (status m' n) (hold' t n) (hold u n) (pair n (hold u n) (peer u n nu) (z.beside t u n (λ same. nu (sym same))))))
        (λ nw. subst (λ y. Beside p (status m' n) (hold u n) y) (sym (others w nw n))
        (third n (hold u n) (hold w n) (peer u n nu) (peer w n nw) (z.beside u w n apart) (z.beside t u n (λ same. nu (sym same))) (z.beside t w n (λ same. nw (sym same)))))
        (cases_eq w t)))
        (cases_eq u t)

-- All of a transaction's lock states change, and no name does --

-- The lock states with these for t.
abbrev pub with_all : Holds → ℕ → (Name → Hold) → Holds
with_all hold t f u n = if eqb u t then f n else hold u n

pub all_here : (hold : Holds) (t : ℕ) (f : Name → Hold) (n : Name) → with_all hold t f t n ≡ f n
all_here hold t f n = ap (λ b. if b then f n else hold t n) (eq-eqb t t refl)

pub all_apart : (hold : Holds) (t : ℕ) (f : Name → Hold) (u : ℕ) (n : Name) → u ≢ t → with_all hold t f u n ≡ hold u n
all_apart hold t f u n ne = ap (λ b. if b then f n else hold u n) (ne_eqb u t ne)

module _ (p : GhostProtocol) (m e e' : Map) (l l' : Locks) (part : Parts) (hold : Holds) (z : Sim p m e l part hold) (t : ℕ) (q : Part) (f : Name → Hold)
    (silent : (n : Name) → Quiet (status m n) (hold t n) (status m n) (f n)) (names : (y : ℕ) → has e' y ≡ false → has e y ≡ false)
    (modes : (n : Name) → (f n).mode ≡ own l' t n) (modes_others : (u : ℕ) → u ≢ t → (n : Name) → own l' u n ≡ own l u n)
    (rolling : (n : Name) → (f n).rolling ≡ q.rolling) (none_t : (k : ℕ) → has e k ≡ false → f (Key k) ≡ idle q.rolling) (fits_t : (n : Name) → Fits (olds_at q.changes n) (f n).key) where
  -- The lock states with those for t.
  abbrev pub quiet_holds : Holds
  quiet_holds = with_all hold t f

  others : (u : ℕ) → u ≢ t → (n : Name) → quiet_holds u n ≡ hold u n
  others u ne n = all_apart hold t f u n ne

  pair : (n : Name) (y : Hold) → Peer p m m e l part hold quiet_holds z t others n y → Beside p (status m n) (hold t n) y → Beside p (status m n) (quiet_holds t n) y
  pair n y peer b = subst (λ h. Beside p (status m n) h y) (sym (all_here hold t f n)) (quiet (status m n) (hold t n) y (status m n) (f n) b (silent n))

  third : (n : Name) (v w : Hold) → Peer p m m e l part hold quiet_holds z t others n v → Peer p m m e l part hold quiet_holds z t others n w
      → Beside p (status m n) v w → Beside p (status m n) (hold t n) v → Beside p (status m n) (hold t n) w → Beside p (status m n) v w
  third n v w pv pw b bv bw = b

  -- They fit the locks afterwards.
  pub quiet_sim : Sim p m e' l' (with_part part t q) quiet_holds
  quiet_sim = record {
    mode = λ u n. ⊎_elim
        (λ is. subst (λ w. (quiet_holds w n).mode ≡ own l' w n) (sym is) (ap (λ (h : Hold). h.mode) (all_here hold t f n) ∙ modes n))
        (λ ne. ap (λ (h : Hold). h.mode) (others u ne n) ∙ z.mode u n ∙ sym (modes_others u ne n))
        (cases_eq u t);
    rolls = λ u n. by_part (λ v w. (quiet_holds v n).rolling ≡ w.rolling) part t q
        (ap (λ (h : Hold). h.rolling) (all_here hold t f n) ∙ rolling n) (λ v ne. ap (λ (h : Hold). h.rolling) (others v ne n) ∙ z.rolls v n) u;
    none = λ u k absent. by_part (λ v w. quiet_holds v (Key k) ≡ idle w.rolling) part t q
        (all_here hold t f (Key k) ∙ none_t k (names k absent)) (λ v ne. others v ne (Key k) ∙ z.none v k (names k absent)) u;
    fits = λ u n. by_part (λ v w. Fits (olds_at w.changes n) (quiet_holds v n).key) part t q
        (subst (λ h. Fits (olds_at q.changes n) h.key) (sym (all_here hold t f n)) (fits_t n))
        (λ v ne. subst (λ h. Fits (olds_at (part v).changes n) h.key) (sym (others v ne n)) (z.fits v n)) u;
    alone = alone_after p m m e l part hold quiet_holds z t others pair third;
    beside = beside_after p m m e l part hold quiet_holds z t others pair third;
  }
