-- A change undone keeps how the lock states fit.
use Rattle.std.specs.Prelude.{◌≡◌, ℕ, Bool, true, false, if◌then◌else◌, List, [], ◌∷◌, Option, Some, None, refl, ◌⊎◌, is_some}
use Rattle.std.proofs.Common.{sym, ◌∙◌, ap, subst, inl, inr, ⊎_elim, ◌≢◌}
use Rattle.std.proofs.lemmas.Bool.{cases_eq}
use Rattle.kr_model.specs.declared.Name.{Name}
use Rattle.kr_model.specs.declared.Name.TheVariants.{Key, End}
use Rattle.kr_model.specs.Locks.{Locks, own}
use Rattle.kr_model.specs.Map.{Map, Changes, restore}
use Rattle.kr_model.proofs.Actives.{tied, untied}
use Rattle.kr_model.proofs.LockLaws.{name_or_not}
use Rattle.kr_theorem.proofs.gaps.Gaps.{has}
use Rattle.kr_theorem.proofs.gaps.Moves.{has_here}
use Rattle.kr_theorem.proofs.step.Parts.{Part, Parts, with_part, by_part}
use Rattle.kr_ghost.specs.Protocol.{GhostProtocol}
use Rattle.kr_ghost.specs.Safe.{KeyUse, Free as KeyFree, Read, Inserted, Updated, Deleted, Several, Hold, idle, Undone, insert as undo_insert, update as undo_update, delete as undo_delete, to_insert, to_update, to_several, Quiet, undo, Beside, quiet, third_undoes}
use Rattle.kr_ghost.proofs.Names.{key_is}
use Rattle.kr_ghost.proofs.Holding.{Holds, with_hold, hold_here, hold_apart, olds, olds_at, Fits}
use Rattle.kr_ghost.proofs.Sim.{status, status_apart, Sim, Peer, alone_after, beside_after}

-- One silent move, or two.
abbrev Path : Bool → Hold → Bool → Hold → Type 0
Path b x c y = Quiet b x c y ⊎ ((d : Bool) × (w : Hold) × Quiet b x d w × Quiet d w c y)

path_pair : (p : GhostProtocol) (b : Bool) (x : Hold) (c : Bool) (y v : Hold) → Path b x c y → Beside p b x v → Beside p c y v
path_pair p b x c y v (inl one) s = quiet b x v c y s one
path_pair p b x c y v (inr (d, w, one, two)) s = quiet d w v c y (quiet b x v d w s one) two

path_third : (p : GhostProtocol) (b : Bool) (x : Hold) (c : Bool) (y u v : Hold) → Path b x c y → Beside p b u v → Beside p b x u → Beside p b x v → Beside p c u v
path_third p b x c y u v (inl one) s su sv = third_undoes b u v x c y s su sv one
path_third p b x c y u v (inr (d, w, one, two)) s su sv =
    third_undoes d u v w c y (third_undoes b u v x d w s su sv one) (quiet b x u d w su one) (quiet b x v d w sv one) two

-- What is left of the key's changes, where these are left.
abbrev left_of : List (Option ℕ) → KeyUse
left_of [] = KeyFree
left_of (o ∷ os) = Several

abbrev undone_state : ℕ → List (Option ℕ) → Hold
undone_state mode os = record { mode = mode; key = left_of os; gap = false; rolling = true }

left_fits : (os : List (Option ℕ)) → Fits os (left_of os)
left_fits [] = tt
left_fits (o ∷ os) = tt

undo_path : (b : Bool) (x : Hold) (o : Option ℕ) (os : List (Option ℕ)) → x.rolling ≡ true → Fits (o ∷ os) x.key → Path b x (is_some o) (undone_state x.mode os)
undo_path b x o os rolls f = by x.key refl o os f
  where
    at_once : (c : Bool) (k : KeyUse) → Undone x.key c k → Quiet b x c (record { mode = x.mode; key = k; gap = false; rolling = true })
    at_once c k u = undo b x c k rolls u

    two_steps : (d : Bool) (k : KeyUse) (c : Bool) → Undone x.key d k → Undone k c KeyFree → Path b x c (record { mode = x.mode; key = KeyFree; gap = false; rolling = true })
    two_steps d k c one two =
        inr (d, record { mode = x.mode; key = k; gap = false; rolling = true }, at_once d k one, undo d (record { mode = x.mode; key = k; gap = false; rolling = true }) c KeyFree refl two)

    by : (k : KeyUse) → x.key ≡ k → (o : Option ℕ) (os : List (Option ℕ)) → Fits (o ∷ os) k → Path b x (is_some o) (undone_state x.mode os)
    by KeyFree is o os f = absurd f
    by Read is o os f = absurd f
    by Inserted is None [] f = inl (at_once false KeyFree (subst (λ z. Undone z false KeyFree) (sym is) undo_insert))
    by Inserted is (Some v) [] f = absurd f
    by Inserted is o (r ∷ os) f = absurd f
    by Updated is None [] f = absurd f
    by Updated is (Some v) [] f = inl (at_once true KeyFree (subst (λ z. Undone z true KeyFree) (sym is) undo_update))
    by Updated is o (r ∷ os) f = absurd f
    by Deleted is None [] f = absurd f
    by Deleted is (Some v) [] f = inl (at_once true KeyFree (subst (λ z. Undone z true KeyFree) (sym is) undo_delete))
    by Deleted is o (r ∷ os) f = absurd f
    by Several is None [] f = two_steps true Inserted false (subst (λ z. Undone z true Inserted) (sym is) to_insert) undo_insert
    by Several is (Some v) [] f = two_steps true Updated true (subst (λ z. Undone z true Updated) (sym is) to_update) undo_update
    by Several is o (r ∷ os) f = inl (at_once (is_some o) Several (subst (λ z. Undone z (is_some o) Several) (sym is) (to_several (is_some o))))

olds_first : (x : ℕ × Option ℕ) (cs : Changes) → olds (x ∷ cs) x.0 ≡ x.1 ∷ olds cs x.0
olds_first x cs = ap (λ b. if b then x.1 ∷ olds cs x.0 else olds cs x.0) (tied x.0)

-- A change of another key adds nothing here.
pub olds_apart : (x : ℕ × Option ℕ) (cs : Changes) (n : Name) → n ≢ Key x.0 → olds_at (x ∷ cs) n ≡ olds_at cs n
olds_apart x cs End ne = refl
olds_apart x cs (Key k) ne = ap (λ b. if b then x.1 ∷ olds cs k else olds cs k) (untied x.0 k (λ is. ne (ap Key (sym is))))

module _ (p : GhostProtocol) (m e e' : Map) (l : Locks) (part : Parts) (hold : Holds) (z : Sim p m e l part hold) (t : ℕ) (x : ℕ × Option ℕ) (cs : Changes)
    (is : (part t).changes ≡ x ∷ cs) (rolls : (part t).rolling ≡ true) (q : Part) (left : q.changes ≡ cs) (still_rolls : q.rolling ≡ true)
    (names : (y : ℕ) → has e' y ≡ false → has e y ≡ false) (named : has e x.0 ≡ true) where
  abbrev n0 : Name
  n0 = Key x.0

  abbrev m' : Map
  m' = restore m x.0 x.1

  -- The lock state of t on the key after the undo, and all lock states then.
  abbrev pub undone : Hold
  undone = undone_state (hold t n0).mode (olds cs x.0)

  abbrev pub undone_holds : Holds
  undone_holds = with_hold hold t n0 undone

  there : undone_holds t n0 ≡ undone
  there = hold_here hold t n0 undone

  -- Every other lock state stays.
  pub undone_apart : (n : Name) → n ≢ n0 → undone_holds t n ≡ hold t n
  undone_apart n ne = hold_apart hold t n0 undone t n (λ both. ne both.1)

  pub undone_others : (u : ℕ) → u ≢ t → (n : Name) → undone_holds u n ≡ hold u n
  undone_others u ne n = hold_apart hold t n0 undone u n (λ both. ne both.0)

  path : Path (status m n0) (hold t n0) (status m' n0) undone
  path = subst (λ s. Path (status m n0) (hold t n0) s undone) (sym (has_here m x.0 x.1))
      (undo_path (status m n0) (hold t n0) x.1 (olds cs x.0) (z.rolls t n0 ∙ rolls) (subst (λ os. Fits os (hold t n0).key) (ap (λ l. olds l x.0) is ∙ olds_first x cs) (z.fits t n0)))

  pair : (n : Name) (y : Hold) → Peer p m m' e l part hold undone_holds z t undone_others n y → Beside p (status m n) (hold t n) y → Beside p (status m' n) (undone_holds t n) y
  pair n y peer b = ⊎_elim
      (λ same. subst (λ w. Beside p (status m' w) (undone_holds t w) y) (sym same) (subst (λ h. Beside p (status m' n0) h y) (sym there)
      (path_pair p (status m n0) (hold t n0) (status m' n0) undone y path (subst (λ w. Beside p (status m w) (hold t w) y) same b))))
      (λ ne. subst (λ h. Beside p (status m' n) h y) (sym (undone_apart n ne)) (subst (λ s. Beside p s (hold t n) y) (sym (status_apart m x.0 x.1 n ne)) b))
      (name_or_not n n0)

  third : (n : Name) (v w : Hold) → Peer p m m' e l part hold undone_holds z t undone_others n v → Peer p m m' e l part hold undone_holds z t undone_others n w
      → Beside p (status m n) v w → Beside p (status m n) (hold t n) v → Beside p (status m n) (hold t n) w → Beside p (status m' n) v w
  third n v w pv pw b bv bw = ⊎_elim
      (λ same. subst (λ y. Beside p (status m' y) v w) (sym same)
      (path_third p (status m n0) (hold t n0) (status m' n0) undone v w path (subst (λ y. Beside p (status m y) v w) same b)
      (subst (λ y. Beside p (status m y) (hold t y) v) same bv) (subst (λ y. Beside p (status m y) (hold t y) w) same bw)))
      (λ ne. subst (λ s. Beside p s v w) (sym (status_apart m x.0 x.1 n ne)) b)
      (name_or_not n n0)

  not_name : (k : ℕ) → has e k ≡ false → Key k ≢ n0
  not_name k absent same = absent_named (sym named ∙ sym (ap (has e) (key_is k x.0 same)) ∙ absent)
    where
      absent_named : true ≡ false → ⊥
      absent_named e = cc

  -- So the lock states fit the index with the change undone.
  pub undone_sim : Sim p m' e' l (with_part part t q) undone_holds
  undone_sim = record {
    mode = λ u n. ⊎_elim
        (λ mine. subst (λ w. (undone_holds w n).mode ≡ own l w n) (sym mine) (⊎_elim
        (λ same. subst (λ w. (undone_holds t w).mode ≡ own l t w) (sym same) (ap (λ (h : Hold). h.mode) there ∙ z.mode t n0))
        (λ ne. ap (λ (h : Hold). h.mode) (undone_apart n ne) ∙ z.mode t n)
        (name_or_not n n0)))
        (λ ne. ap (λ (h : Hold). h.mode) (undone_others u ne n) ∙ z.mode u n)
        (cases_eq u t);
    rolls = λ u n. by_part (λ v w. (undone_holds v n).rolling ≡ w.rolling) part t q
        (⊎_elim
        (λ same. subst (λ w. (undone_holds t w).rolling ≡ q.rolling) (sym same) (ap (λ (h : Hold). h.rolling) there ∙ sym still_rolls))
        (λ ne. ap (λ (h : Hold). h.rolling) (undone_apart n ne) ∙ z.rolls t n ∙ rolls ∙ sym still_rolls)
        (name_or_not n n0))
        (λ v ne. ap (λ (h : Hold). h.rolling) (undone_others v ne n) ∙ z.rolls v n) u;
    none = λ u k absent. by_part (λ v w. undone_holds v (Key k) ≡ idle w.rolling) part t q
        (undone_apart (Key k) (not_name k (names k absent)) ∙ z.none t k (names k absent) ∙ ap idle (rolls ∙ sym still_rolls))
        (λ v ne. undone_others v ne (Key k) ∙ z.none v k (names k absent)) u;
    fits = λ u n. by_part (λ v w. Fits (olds_at w.changes n) (undone_holds v n).key) part t q
        (subst (λ l. Fits (olds_at l n) (undone_holds t n).key) (sym left) (⊎_elim
        (λ same. subst (λ w. Fits (olds_at cs w) (undone_holds t w).key) (sym same) (subst (λ h. Fits (olds cs x.0) h.key) (sym there) (left_fits (olds cs x.0))))
        (λ ne. subst (λ h. Fits (olds_at cs n) h.key) (sym (undone_apart n ne)) (subst (λ os. Fits os (hold t n).key) (ap (λ l. olds_at l n) is ∙ olds_apart x cs n ne) (z.fits t n)))
        (name_or_not n n0)))
        (λ v ne. subst (λ h. Fits (olds_at (part v).changes n) h.key) (sym (undone_others v ne n)) (z.fits v n)) u;
    alone = alone_after p m m' e l part hold undone_holds z t undone_others pair third;
    beside = beside_after p m m' e l part hold undone_holds z t undone_others pair third;
  }
