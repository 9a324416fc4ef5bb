-- What comes of two that can be on one name, by the code's tests, can be on one name.
use Rattle.std.proofs.Common.{ℕ, Bool, true, false, ◌≡◌, ◌⊎◌, inl, inr, Some, None, refl, sym, ap, ◌∙◌, subst, arith}
use Rattle.std.proofs.lemmas.Bool.Decides.{nat_tests}
use Rattle.std.specs.Prelude.{◌&&◌, ◌||◌, ◌==◌, not, if◌then◌else◌}
use Rattle.std.proofs.lemmas.Bool.{and_parts}
use Rattle.kr_ghost.specs.Protocol.{GhostProtocol, Purges, Unlocked, Inherit, inherits as are_inherited, heir_of}
use Rattle.kr_ghost.specs.Safe.{KeyUse, Free, Read, Inserted, Updated, Deleted, Several, Hold, free, is_changed, is_read, Ask, FetchHit, FetchMiss, ScanName, ScanStop, Insert, Delete, Update, Revive, InsertHit, DeleteMiss, UpdateMiss, ReviveNext, InsertHitNext, MayAsk, is_blocked, rolled, Undone, insert, update, delete, to_insert, to_update, to_delete, to_several, commit, leave, roll, undo, inherits, Beside, turn, ask, quiet, third_asks, third_undoes, new, purge}
use Rattle.kr_ghost_decide.specs.declared.heir.Heirs.{Heirs}
use Rattle.kr_ghost_decide.specs.declared.way.Way.{Way}
use Rattle.kr_ghost_decide.specs.declared.way.Way.TheVariants as way
use Rattle.kr_ghost_decide.specs.Holds.{Fact, key_use, asking}
use Rattle.kr_ghost_decide.specs.Ways.{may_ask, granted, is_undone, undone, is_free, with_new, moved, alters}
use Rattle.kr_ghost_decide.specs.Heirs.{left, inherited, same, inherited_by}
use Rattle.kr_ghost_decide.specs.Found.{IsLeft}

-- Tests --

pub not_true : (a : Bool) → not a ≡ true → a ≡ false
not_true true h = absurd (cc)
not_true false h = refl

and_false : (a b : Bool) → (a && b) ≡ false → (a ≡ false) ⊎ (b ≡ false)
and_false true b h = inr h
and_false false b h = inl refl

or_false : (a b : Bool) → (a || b) ≡ false → (a ≡ false) × (b ≡ false)
or_false true b h = absurd (cc)
or_false false b h = (refl, h)

or_true : (a b : Bool) → (a || b) ≡ true → (a ≡ true) ⊎ (b ≡ true)
or_true true b h = inl refl
or_true false b h = inr h

if_some : (b : Bool) (x g : Fact) → (if b then Some x else None) ≡ Some g → (b ≡ true) × (x ≡ g)
if_some true x g e = (refl, cc)
if_some false x g e = absurd (cc)

if_none : (b : Bool) (x g : Fact) → (if b then None else Some x) ≡ Some g → (b ≡ false) × (x ≡ g)
if_none true x g e = absurd (cc)
if_none false x g e = (refl, cc)

pub same_back : (a b : Bool) → same a b ≡ true → a ≡ b
same_back true b h = sym h
same_back false b h = sym (not_true b h)

pub undone_back : (k : KeyUse) (b : Bool) (l : KeyUse) → is_undone k b l ≡ true → Undone k b l
undone_back Free b l h = absurd (cc)
undone_back Read b l h = absurd (cc)
undone_back Inserted true l h = absurd (cc)
undone_back Inserted false Free h = insert
undone_back Inserted false Read h = absurd (cc)
undone_back Inserted false Inserted h = absurd (cc)
undone_back Inserted false Updated h = absurd (cc)
undone_back Inserted false Deleted h = absurd (cc)
undone_back Inserted false Several h = absurd (cc)
undone_back Updated false l h = absurd (cc)
undone_back Updated true Free h = update
undone_back Updated true Read h = absurd (cc)
undone_back Updated true Inserted h = absurd (cc)
undone_back Updated true Updated h = absurd (cc)
undone_back Updated true Deleted h = absurd (cc)
undone_back Updated true Several h = absurd (cc)
undone_back Deleted false l h = absurd (cc)
undone_back Deleted true Free h = delete
undone_back Deleted true Read h = absurd (cc)
undone_back Deleted true Inserted h = absurd (cc)
undone_back Deleted true Updated h = absurd (cc)
undone_back Deleted true Deleted h = absurd (cc)
undone_back Deleted true Several h = absurd (cc)
undone_back Several true Free h = absurd (cc)
undone_back Several true Read h = absurd (cc)
undone_back Several true Inserted h = to_insert
undone_back Several true Updated h = to_update
undone_back Several true Deleted h = absurd (cc)
undone_back Several true Several h = to_several true
undone_back Several false Free h = absurd (cc)
undone_back Several false Read h = absurd (cc)
undone_back Several false Inserted h = absurd (cc)
undone_back Several false Updated h = absurd (cc)
undone_back Several false Deleted h = to_delete
undone_back Several false Several h = to_several false

purges_inherit : (x : Purges) → are_inherited x ≡ true → (heir : ℕ → ℕ) × (x ≡ Inherit heir)
purges_inherit Unlocked h = absurd (cc)
purges_inherit (Inherit heir) h = (heir, refl)

module _ (p : GhostProtocol) where
  abbrev AreBeside : Fact → Type 0
  AreBeside f = Beside p f.present f.own f.other

  pub may_back : (b : Bool) (x : Hold) (a : Ask) → may_ask p b x a ≡ true → MayAsk p b x a
  may_back b x FetchHit h = not_true x.rolling h
  may_back b x FetchMiss h = not_true x.rolling h
  may_back b x ScanName h = not_true x.rolling h
  may_back b x ScanStop h = not_true x.rolling h
  may_back b x Insert h = not_true x.rolling h
  may_back b x Delete h = not_true x.rolling h
  may_back b x Update h = let z = and_parts (not x.rolling) p.table.updates h in (not_true x.rolling z.0, z.1)
  may_back b x Revive h = let z = and_parts (not x.rolling) (not b) h in (not_true x.rolling z.0, not_true b z.1)
  may_back b x InsertHit h = let z = and_parts (not x.rolling) b h in (not_true x.rolling z.0, z.1)
  may_back b x DeleteMiss h = not_true x.rolling h
  may_back b x UpdateMiss h = let z = and_parts (not x.rolling) p.table.updates h in (not_true x.rolling z.0, z.1)
  may_back b x ReviveNext h = not_true x.rolling h
  may_back b x InsertHitNext h = not_true x.rolling h

  -- By itself --

  by_grant : (f g : Fact) (a : Ask) → AreBeside f → granted p f a ≡ Some g → AreBeside g
  by_grant f g a s e =
      let z = if_some (may_ask p f.present f.own a && not (is_blocked p f.own f.other a)) _ g e in
      let t = and_parts (may_ask p f.present f.own a) (not (is_blocked p f.own f.other a)) z.0 in
      subst AreBeside z.1 (ask a f.present f.own f.other s (may_back f.present f.own a t.0) (not_true (is_blocked p f.own f.other a) t.1))

  by_undo : (f g : Fact) (b : Bool) (k : KeyUse) → AreBeside f → undone f b k ≡ Some g → AreBeside g
  by_undo f g b k s e =
      let z = if_some (f.own.rolling && is_undone f.own.key b k) _ g e in
      let t = and_parts f.own.rolling (is_undone f.own.key b k) z.0 in
      subst AreBeside z.1 (quiet f.present f.own f.other b _ s (undo f.present f.own b k t.0 (undone_back f.own.key b k t.1)))

  free_back : (x : Hold) → is_free x ≡ true → x ≡ free
  free_back x h =
      let a = and_parts (x.mode == 0) (not (is_read x.key) && (not x.gap && not x.rolling)) h in
      let b = and_parts (not (is_read x.key)) (not x.gap && not x.rolling) a.1 in
      let c = and_parts (not x.gap) (not x.rolling) b.1 in
      ap (λ m. put m x.key x.gap x.rolling) (none x.mode a.0) ∙ ap (λ k. put 0 k x.gap x.rolling) (unread x.key (not_true (is_read x.key) b.0)) ∙ ap (λ g. put 0 Free g x.rolling) (not_true x.gap c.0)
      ∙ ap (λ r. put 0 Free false r) (not_true x.rolling c.1)
    where
      put : ℕ → KeyUse → Bool → Bool → Hold
      put m k g r = record { mode = m; key = k; gap = g; rolling = r }

      none : (n : ℕ) → (n == 0) ≡ true → n ≡ 0
      none n h = grind (arith, nat_tests)

      unread : (k : KeyUse) → is_read k ≡ false → k ≡ Free
      unread Free h = refl
      unread Read h = absurd (cc)
      unread Inserted h = absurd (cc)
      unread Updated h = absurd (cc)
      unread Deleted h = absurd (cc)
      unread Several h = absurd (cc)

  by_new : (f g : Fact) → AreBeside f → with_new p f ≡ Some g → AreBeside g
  by_new f g s e =
      let z = if_some (is_free f.other && not f.own.rolling) _ g e in
      let t = and_parts (is_free f.other) (not f.own.rolling) z.0 in
      subst AreBeside z.1 (new f.present f.own (subst (λ y. Beside p f.present f.own y) (free_back f.other t.0) s) (not_true f.own.rolling t.1))

  by_end : (f g : Fact) → AreBeside f → (if f.own.rolling && is_changed f.own.key then None else Some (record { present = f.present; own = free; other = f.other })) ≡ Some g → AreBeside g
  by_end f g s e =
      let z = if_none (f.own.rolling && is_changed f.own.key) _ g e in
      subst AreBeside z.1 (by (and_false f.own.rolling (is_changed f.own.key) z.0))
    where
      by : (f.own.rolling ≡ false) ⊎ (is_changed f.own.key ≡ false) → Beside p f.present free f.other
      by (inl u) = quiet f.present f.own f.other f.present free s (commit f.present f.own u)
      by (inr u) = quiet f.present f.own f.other f.present free s (leave f.present f.own u)

  by_roll : (f g : Fact) → AreBeside f → (if f.own.rolling then None else Some (record { present = f.present; own = rolled f.own; other = f.other })) ≡ Some g → AreBeside g
  by_roll f g s e = let z = if_none f.own.rolling _ g e in subst AreBeside z.1 (quiet f.present f.own f.other f.present (rolled f.own) s (roll f.present f.own z.0))

  some_same : (x g : Fact) → Some x ≡ Some g → x ≡ g
  some_same x g e = cc

  pub by_way : (f g : Fact) (w : Way) → AreBeside f → moved p f w ≡ Some g → AreBeside g
  by_way f g way.Turn s e = subst AreBeside (some_same _ g e) (turn f.present f.own f.other s)
  by_way f g way.End s e = by_end f g s e
  by_way f g way.Roll s e = by_roll f g s e
  by_way f g way.New s e = by_new f g s e
  by_way f g (way.Ask a) s e = by_grant f g (asking a) s e
  by_way f g (way.Undo b k) s e = by_undo f g b (key_use k) s e

  -- By a third --

  pub by_third : (b : Bool) (x y z : Hold) → Beside p b x y → Beside p b z x → Beside p b z y → alters p b z x y ≡ true → Beside p (not b) x y
  by_third b x y z s su sw h = split z.rolling refl h
    where
      undoing : (k : KeyUse) → z.rolling ≡ true → is_undone z.key (not b) k ≡ true → Beside p (not b) x y
      undoing k r u = third_undoes b x y z (not b) _ s su sw (undo b z (not b) k r (undone_back z.key (not b) k u))

      either : z.rolling ≡ true → (is_undone z.key (not b) Free ≡ true) ⊎ (is_undone z.key (not b) Several ≡ true) → Beside p (not b) x y
      either r (inl u) = undoing Free r u
      either r (inr u) = undoing Several r u

      asks : (c : Bool) → z.rolling ≡ false → Beside p c x y → Beside p c z x → Beside p c z y
          → (not (is_blocked p z x (if c then Delete else Revive)) && not (is_blocked p z y (if c then Delete else Revive))) ≡ true → Beside p (not c) x y
      asks true r t tu tw g =
          let e = and_parts (not (is_blocked p z x Delete)) (not (is_blocked p z y Delete)) g in
          third_asks Delete true x y z t tu tw r (not_true _ e.0) (not_true _ e.1)
      asks false r t tu tw g =
          let e = and_parts (not (is_blocked p z x Revive)) (not (is_blocked p z y Revive)) g in
          third_asks Revive false x y z t tu tw (r, refl) (not_true _ e.0) (not_true _ e.1)

      split : (r : Bool) → z.rolling ≡ r
          → (if r then is_undone z.key (not b) Free || is_undone z.key (not b) Several else not (is_blocked p z x (if b then Delete else Revive)) && not (is_blocked p z y (if b then Delete else Revive))) ≡ true
          → Beside p (not b) x y
      split true r g = either r (or_true (is_undone z.key (not b) Free) (is_undone z.key (not b) Several) g)
      split false r g = asks b r s su sw g

  -- By a purge --

  pub inherited_is : (heir : ℕ → ℕ) (x y : Hold) → p.purges ≡ Inherit heir → inherited p x (left p y) ≡ inherits p heir x y
  inherited_is heir x y is =
      ap (λ n. let h : Hold = record { mode = p.table.convert x.mode n; key = x.key; gap = x.gap || (y.gap || is_read y.key); rolling = x.rolling } in if y.rolling then x else h) (ap (λ z. heir_of z y.mode) is)

  by_purge : (heir : ℕ → ℕ) (f g l : Fact) → p.purges ≡ Inherit heir → AreBeside f → AreBeside l → l.present ≡ false → is_changed l.own.key ≡ false → is_changed l.other.key ≡ false
      → inherited_by p f (record { own = left p l.own; other = left p l.other }) ≡ Some g → AreBeside g
  by_purge heir f g l is s t gone a d e =
      let z = if_some (same f.own.rolling l.own.rolling && same f.other.rolling l.other.rolling) _ g e in
      let r = and_parts (same f.own.rolling l.own.rolling) (same f.other.rolling l.other.rolling) z.0 in
      subst AreBeside z.1
      (subst (λ v. Beside p f.present v (inherited p f.other (left p l.other))) (sym (inherited_is heir f.own l.own is))
      (subst (λ v. Beside p f.present (inherits p heir f.own l.own) v) (sym (inherited_is heir f.other l.other is))
      (purge heir f.present f.own f.other l.own l.other is s (subst (λ b. Beside p b l.own l.other) gone t) a d (same_back _ _ r.0) (same_back _ _ r.1))))

  pub by_heirs : (f g : Fact) (h : Heirs) → IsLeft p h → AreBeside f → inherited_by p f h ≡ Some g → AreBeside g
  by_heirs f g h i s e =
      let l = i.fact in
      let z = heirs_none (l.present || (is_changed l.own.key || is_changed l.other.key)) _ h i.is in
      let a = or_false l.present (is_changed l.own.key || is_changed l.other.key) z.0 in
      let b = or_false (is_changed l.own.key) (is_changed l.other.key) a.1 in
      let q = purges_inherit p.purges i.inherits in
      let r = i.reached in
      by_purge q.0 f g l q.1 s r.beside a.0 b.0 b.1 (subst (λ v. inherited_by p f v ≡ Some g) (sym z.1) e)
    where
      heirs_none : (b : Bool) (x g : Heirs) → (if b then None else Some x) ≡ Some g → (b ≡ false) × (x ≡ g)
      heirs_none true x g e = absurd (cc)
      heirs_none false x g e = (refl, cc)
