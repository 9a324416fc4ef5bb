-- The locks on a ghost as each of some transactions inherits, in any order and number.
use Rattle.std.specs.Prelude.{◌≡◌, ℕ, ◌≤◌, Bool, true, false, ◌||◌, ◌==◌, cond, if◌then◌else◌, List, [], ◌∷◌, Option, Some, None, refl, ◌⊎◌, unwrap_or}
use Rattle.std.specs.FinMap.{find}
use Rattle.std.specs.FinMap.Entries.{same_entries}
use Rattle.std.proofs.Common.{sym, ◌∙◌, ap, subst, inl, inr, ⊎_elim, ◌≢◌, arith, true≢false}
use Rattle.std.proofs.lemmas.Bool.{cases_eq}
use Rattle.kr_model.specs.declared.Name.{Name}
use Rattle.kr_model.specs.declared.Name.TheVariants.{Key}
use Rattle.kr_model.specs.Protocol.{Protocol, IsLawful}
use Rattle.kr_model.specs.Locks.{Locks, IsLocks, HasNoNone, Holder, holder_cmp, own, keep_or_drop, lockers}
use Rattle.kr_model.specs.State.{State, is_rolling}
use Rattle.kr_model.proofs.Actives.{tied, untied}
use Rattle.kr_model.proofs.Keep.{same, own-kept, same_holder, same_itself, IsLocks-keep, AreWithin-keep, HasNoNone-keep}
use Rattle.kr_model.proofs.LockLaws.{holder_total, holder_exact, name_or_not}
use Rattle.kr_model.proofs.MapLaws.{t_of}
use Rattle.kr_model.proofs.Requests.{AreLocks}
use Rattle.kr_model.proofs.RisingNumbers.{has, has-lockers}
use Rattle.kr_ghost.specs.Protocol as protocol
use Rattle.kr_ghost.specs.Protocol.{Purges, Unlocked, Inherit, IsLawfulPurge, heir_of}
use Rattle.kr_ghost.specs.Step.{inherits, all_inherit, locks_purged}
use Rattle.kr_ghost_machine.specs.Heirs.{HasInherited}

-- Where locks are inherited, the heirs' modes are modes, and a purge leaves what the holders of locks inherit.
pub fit_of : (p : Protocol) (x : Purges) → protocol.inherits x ≡ true → IsLawfulPurge p x → IsLawfulPurge p (Inherit (heir_of x))
fit_of p Unlocked h fit = absurd (cc)
fit_of p (Inherit heir) h fit = fit

pub purged_as : (p : Protocol) (x : Purges) (s : State) (k : ℕ) (n : Name) → protocol.inherits x ≡ true → locks_purged p x s k n ≡ all_inherit p (heir_of x) s k n (lockers s.locks)
purged_as p Unlocked s k n h = absurd (cc)
purged_as p (Inherit heir) s k n h = refl

-- Two sets of locks in which each transaction has the same mode on each name are one.
own_found : (g : Option ℕ) (h : Option ℕ) → (g ≡ Some 0 → ⊥) → (h ≡ Some 0 → ⊥) → unwrap_or g 0 ≡ unwrap_or h 0 → g ≡ h
own_found None None some some' e = refl
own_found (Some x) (Some y) some some' e = ap (λ n. Some n) e
own_found None (Some y) some some' e = absurd (some' (ap (λ n. Some n) (sym e)))
own_found (Some x) None some some' e = absurd (some (ap (λ n. Some n) e))

pub same_locks : (h l : Locks) → IsLocks h → HasNoNone h → IsLocks l → HasNoNone l → ((t : ℕ) (n : Name) → own h t n ≡ own l t n) → h ≡ l
same_locks h l rise none rise' none' same_own =
    same_entries holder_cmp holder_total holder_exact h l (t_of _ rise) (t_of _ rise') (λ (q : Holder). own_found (find holder_cmp q h) (find holder_cmp q l) (none q) (none' q) (same_own q.1 q.0))

-- The mode after one lock is set.
pub set_here : (h : Locks) (t : ℕ) (n : Name) (m : ℕ) → own (keep_or_drop h t n m) t n ≡ m
set_here h t n m = own-kept h t t n n m ∙ ap (λ b. cond b m (own h t n)) (same_itself (n, t))

pub set_apart : (h : Locks) (t : ℕ) (n : Name) (m u : ℕ) (x : Name) → ((u ≡ t) × (x ≡ n) → ⊥) → own (keep_or_drop h t n m) u x ≡ own h u x
set_apart h t n m u x out = own-kept h t u n x m ∙ ap (λ b. cond b m (own h u x)) (other (same (x, u) (n, t)) refl)
  where
    second : (x n : Name) (u t : ℕ) → ◌≡◌ {A = Name × ℕ} (x, u) (n, t) → (u ≡ t) × (x ≡ n)
    second x n u t is = (ap (λ (z : Name × ℕ). z.1) is, ap (λ (z : Name × ℕ). z.0) is)

    other : (b : Bool) → same (x, u) (n, t) ≡ b → same (x, u) (n, t) ≡ false
    other true is = absurd (out (second x n u t (same_holder (x, u) (n, t) is)))
    other false is = is

-- What a lock becomes is a mode or none, and one kept so leaves locks.
pub convert_within : (p : Protocol) → IsLawful p → (h q : ℕ) → h ≤ p.count → q ≤ p.count → p.convert h q ≤ p.count
convert_within p laws h q ih iq = ⊎_elim
    (λ e. subst (λ z. p.convert z q ≤ p.count) (sym e) (subst (λ z. z ≤ p.count) (sym (laws.convert-none_held q iq)) iq))
    (λ a. ⊎_elim
    (λ e. subst (λ z. p.convert h z ≤ p.count) (sym e) (subst (λ z. z ≤ p.count) (sym (laws.convert-none_asked h ih)) ih))
    (λ b. let m = laws.convert-modes h q (record { some = omega (arith, a); in_range = ih }) (record { some = omega (arith, b); in_range = iq }) in m.in_range)
    (cases_eq q 0))
    (cases_eq h 0)

pub kept_locks : (p : Protocol) (h : Locks) (t : ℕ) (x : Name) (m : ℕ) → m ≤ p.count → AreLocks p h → AreLocks p (keep_or_drop h t x m)
kept_locks p h t x m le l = record {
  rise = IsLocks-keep h t x m l.rise;
  within = AreWithin-keep p.count h t x m l.within le;
  no_none = HasNoNone-keep h t x m l.no_none;
}

module _ (p : Protocol) (laws : IsLawful p) (heir : ℕ → ℕ) (fit : IsLawfulPurge p (Inherit heir)) (s : State) (locks : AreLocks p s.locks) (k : ℕ) (n : Name) (apart : n ≢ Key k) where
  -- One that hands its lock on, before that on the ghost goes.
  abbrev moved : Locks → ℕ → Locks
  moved h u = if is_rolling s u then h else keep_or_drop h u n (p.convert (own h u n) (heir (own h u (Key k))))

  moved_locks : (b : Bool) (h : Locks) (u m : ℕ) → m ≤ p.count → AreLocks p h → AreLocks p (if b then h else keep_or_drop h u n m)
  moved_locks true h u m le l = l
  moved_locks false h u m le l = kept_locks p h u n m le l

  pub inherits_locks : (h : Locks) (u : ℕ) → AreLocks p h → AreLocks p (inherits p heir s k n u h)
  inherits_locks h u l =
      kept_locks p (moved h u) u (Key k) 0 (omega arith)
      (moved_locks (is_rolling s u) h u (p.convert (own h u n) (heir (own h u (Key k))))
      (convert_within p laws (own h u n) (heir (own h u (Key k))) (l.within u n) (fit.1 (own h u (Key k)) (l.within u (Key k)))) l)

  -- Every other transaction keeps its locks.
  moved_other : (b : Bool) (h : Locks) (v m u : ℕ) (x : Name) → u ≢ v → own (if b then h else keep_or_drop h v n m) u x ≡ own h u x
  moved_other true h v m u x ne = refl
  moved_other false h v m u x ne = set_apart h v n m u x (λ both. ne both.0)

  pub other_stays : (h : Locks) (v u : ℕ) (x : Name) → u ≢ v → own (inherits p heir s k n v h) u x ≡ own h u x
  other_stays h v u x ne =
      set_apart (moved h v) v (Key k) 0 u x (λ both. ne both.0) ∙ moved_other (is_rolling s v) h v (p.convert (own h v n) (heir (own h v (Key k)))) u x ne

  -- The mode of u on the next name once it has inherited.
  abbrev passed : ℕ → ℕ
  passed u = if is_rolling s u then own s.locks u n else p.convert (own s.locks u n) (heir (own s.locks u (Key k)))

  -- How u stands among these: as before, or it has inherited.
  record Before (h : Locks) (u : ℕ) : Type 0 where
    ghost : own h u (Key k) ≡ own s.locks u (Key k)
    next : own h u n ≡ own s.locks u n

  record After (h : Locks) (u : ℕ) : Type 0 where
    ghost : own h u (Key k) ≡ 0
    next : own h u n ≡ passed u

  moved_next : (b : Bool) (h : Locks) (u m : ℕ) → own (if b then h else keep_or_drop h u n m) u n ≡ (if b then own h u n else m)
  moved_next true h u m = refl
  moved_next false h u m = set_here h u n m

  next_of : (h : Locks) (u : ℕ) → own (inherits p heir s k n u h) u n ≡ (if is_rolling s u then own h u n else p.convert (own h u n) (heir (own h u (Key k))))
  next_of h u =
      set_apart (moved h u) u (Key k) 0 u n (λ both. apart both.1) ∙ moved_next (is_rolling s u) h u (p.convert (own h u n) (heir (own h u (Key k))))

  from_before : (h : Locks) (u : ℕ) → Before h u → After (inherits p heir s k n u h) u
  from_before h u w = record {
    ghost = set_here (moved h u) u (Key k) 0;
    next = next_of h u ∙ ap (λ z. if is_rolling s u then z else p.convert z (heir (own h u (Key k)))) w.next
        ∙ ap (λ z. if is_rolling s u then own s.locks u n else p.convert (own s.locks u n) (heir z)) w.ghost;
  }

  passed_within : (u : ℕ) → passed u ≤ p.count
  passed_within u = by (is_rolling s u)
    where
      by : (b : Bool) → (if b then own s.locks u n else p.convert (own s.locks u n) (heir (own s.locks u (Key k)))) ≤ p.count
      by true = locks.within u n
      by false = convert_within p laws (own s.locks u n) (heir (own s.locks u (Key k))) (locks.within u n) (fit.1 (own s.locks u (Key k)) (locks.within u (Key k)))

  from_after : (h : Locks) (u : ℕ) → After h u → After (inherits p heir s k n u h) u
  from_after h u w = record {
    ghost = set_here (moved h u) u (Key k) 0;
    next = next_of h u ∙ ap (λ z. if is_rolling s u then z else p.convert z (heir (own h u (Key k)))) w.next
        ∙ ap (λ z. if is_rolling s u then passed u else p.convert (passed u) (heir z)) w.ghost
        ∙ by (is_rolling s u);
  }
    where
      by : (b : Bool) → (if b then passed u else p.convert (passed u) (heir 0)) ≡ passed u
      by true = refl
      by false = ap (λ z. p.convert (passed u) z) fit.0 ∙ laws.convert-none_asked (passed u) (passed_within u)

  elsewhere : (b : Bool) (h : Locks) (v m u : ℕ) (x : Name) → x ≢ n → own (if b then h else keep_or_drop h v n m) u x ≡ own h u x
  elsewhere true h v m u x nn = refl
  elsewhere false h v m u x nn = set_apart h v n m u x (λ both. nn both.1)

  elsewhere_stays : (h : Locks) (v u : ℕ) (x : Name) → x ≢ Key k → x ≢ n → own (inherits p heir s k n v h) u x ≡ own h u x
  elsewhere_stays h v u x nk nn =
      set_apart (moved h v) v (Key k) 0 u x (λ both. nk both.1) ∙ elsewhere (is_rolling s v) h v (p.convert (own h v n) (heir (own h v (Key k)))) u x nn

  abbrev after_all : List ℕ → Locks
  after_all us = all_inherit p heir s k n us

  -- Who is among them has inherited, and who isn't is as before.
  among_or_not : (us : List ℕ) (u : ℕ) → After (after_all us) u ⊎ ((has us u ≡ false) × Before (after_all us) u)
  among_or_not [] u = inr (refl, record { ghost = refl; next = refl })
  among_or_not (v ∷ us) u = ⊎_elim
      (λ is. inl (subst (λ z. After (inherits p heir s k n z (after_all us)) u) is (⊎_elim (λ a. from_after (after_all us) u a) (λ b. from_before (after_all us) u b.1) (among_or_not us u))))
      (λ ne. ⊎_elim
      (λ a. inl (record { ghost = other_stays (after_all us) v u (Key k) ne ∙ a.ghost; next = other_stays (after_all us) v u n ne ∙ a.next }))
      (λ b. let w = b.1 in inr (
        ap (λ c. c || has us u) (untied u v ne) ∙ b.0,
        record { ghost = other_stays (after_all us) v u (Key k) ne ∙ w.ghost; next = other_stays (after_all us) v u n ne ∙ w.next },
      ))
      (among_or_not us u))
      (cases_eq u v)

  elsewhere_all : (us : List ℕ) (u : ℕ) (x : Name) → x ≢ Key k → x ≢ n → own (after_all us) u x ≡ own s.locks u x
  elsewhere_all [] u x nk nn = refl
  elsewhere_all (v ∷ us) u x nk nn = elsewhere_stays (after_all us) v u x nk nn ∙ elsewhere_all us u x nk nn

  pub all_locks : (us : List ℕ) → AreLocks p (after_all us)
  all_locks [] = locks
  all_locks (u ∷ us) = inherits_locks (after_all us) u (all_locks us)

  -- Nobody but these holds a lock.
  abbrev pub AreAll : List ℕ → Type 0
  AreAll us = (u : ℕ) → has us u ≡ false → (x : Name) → own s.locks u x ≡ 0

  -- So everybody has inherited.
  all_after : (us : List ℕ) → AreAll us → (u : ℕ) → After (after_all us) u
  all_after us all u = ⊎_elim
      (λ a. a)
      (λ b.
      let w = b.1 in
      let none = all u b.0 (Key k) in
      record {
        ghost = w.ghost ∙ none;
        next = w.next ∙ sym (by (is_rolling s u)) ∙ ap (λ z. if is_rolling s u then own s.locks u n else p.convert (own s.locks u n) (heir z)) (sym none);
      })
      (among_or_not us u)
    where
      by : (b : Bool) → (if b then own s.locks u n else p.convert (own s.locks u n) (heir 0)) ≡ own s.locks u n
      by true = refl
      by false = ap (λ z. p.convert (own s.locks u n) z) fit.0 ∙ laws.convert-none_asked (own s.locks u n) (locks.within u n)

  all_own : (us vs : List ℕ) → AreAll us → AreAll vs → (u : ℕ) (x : Name) → own (after_all us) u x ≡ own (after_all vs) u x
  all_own us vs all all' u x =
      let a = all_after us all u in
      let b = all_after vs all' u in
      ⊎_elim
      (λ is. ap (own (after_all us) u) is ∙ a.ghost ∙ sym (ap (own (after_all vs) u) is ∙ b.ghost))
      (λ nk. ⊎_elim
      (λ is. ap (own (after_all us) u) is ∙ a.next ∙ sym (ap (own (after_all vs) u) is ∙ b.next))
      (λ nn. elsewhere_all us u x nk nn ∙ sym (elsewhere_all vs u x nk nn))
      (name_or_not x n))
      (name_or_not x (Key k))

  -- Whichever list has all who hold locks, the locks that they leave are the same.
  same_inherited : (us vs : List ℕ) → AreAll us → AreAll vs → after_all us ≡ after_all vs
  same_inherited us vs all all' =
      let l = all_locks us in
      let m = all_locks vs in
      same_locks (after_all us) (after_all vs) l.rise l.no_none m.rise m.no_none (all_own us vs all all')

  no_lock : AreAll (lockers s.locks)
  no_lock u out x = ⊎_elim (λ is. is) (λ held. absurd (true≢false (sym (has-lockers s.locks u x held) ∙ out))) (cases_eq (own s.locks u x) 0)

  -- So they are those that the holders of locks leave.
  pub inherited_by_lockers : (us : List ℕ) → AreAll us → after_all us ≡ after_all (lockers s.locks)
  inherited_by_lockers us all = same_inherited us (lockers s.locks) all no_lock

  -- Who holds no lock holds none afterwards.
  pub no_more : (us : List ℕ) (u : ℕ) → has us u ≡ false → (x : Name) → own (after_all us) u x ≡ own s.locks u x
  no_more [] u out x = refl
  no_more (v ∷ us) u out x = other_stays (after_all us) v u x (λ is. first (u == v) (has us u) (ap (λ z. u == z) (sym is) ∙ tied u) out) ∙ no_more us u (second (u == v) (has us u) out) x
    where
      first : (a b : Bool) → a ≡ true → (a || b) ≡ false → ⊥
      first true b e h = true≢false h
      first false b e h = true≢false (sym e)

      second : (a b : Bool) → (a || b) ≡ false → b ≡ false
      second true b h = absurd (true≢false h)
      second false b h = h

  -- Locks that each of these has inherited, and nobody else, are those.
  pub as_inherited : (us : List ℕ) (l : Locks) → IsLocks l → HasNoNone l → ((u : ℕ) → has us u ≡ false → (x : Name) → own l u x ≡ own s.locks u x)
      → ((u : ℕ) → has us u ≡ true → HasInherited p heir s.locks l k n (is_rolling s u) u) → l ≡ after_all us
  as_inherited us l rise none others these = let all = all_locks us in same_locks l (after_all us) rise none all.rise all.no_none (λ u x. by u x (has us u) refl)
    where
      by : (u : ℕ) (x : Name) (b : Bool) → has us u ≡ b → own l u x ≡ own (after_all us) u x
      by u x false out = others u out x ∙ sym (no_more us u out x)
      by u x true there =
          let one = these u there in
          let after : After (after_all us) u = ⊎_elim (λ a. a) (λ b. absurd (true≢false (sym there ∙ b.0))) (among_or_not us u) in
          ⊎_elim
          (λ is. ap (own l u) is ∙ one.key ∙ sym (ap (own (after_all us) u) is ∙ after.ghost))
          (λ nk. ⊎_elim
          (λ is. ap (own l u) is ∙ one.next ∙ sym (ap (own (after_all us) u) is ∙ after.next))
          (λ nn. one.others x nk nn ∙ sym (elsewhere_all us u x nk nn))
          (name_or_not x n))
          (name_or_not x (Key k))
