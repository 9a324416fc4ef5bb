-- The lock states of a run: what each transaction has on each name, and what that protects.
use Rattle.std.specs.Prelude.{◌≡◌, ℕ, Bool, true, false, ◌==◌, cond, if◌then◌else◌, List, [], ◌∷◌, Option, Some, None, refl}
use Rattle.std.proofs.Common.{sym, ◌∙◌, ap, inl, inr, true≢false}
use Rattle.kr_model.specs.declared.Name.{Name}
use Rattle.kr_model.specs.declared.Name.TheVariants.{Key, End}
use Rattle.kr_model.specs.Map.{Changes}
use Rattle.kr_model.proofs.Actives.{tied}
use Rattle.kr_model.proofs.Keep.{same, same_holder, same_itself}
use Rattle.kr_theorem.proofs.gaps.Undo.{ChangedIn}
use Rattle.kr_ghost.specs.Protocol.{GhostProtocol}
use Rattle.kr_ghost.specs.declared.cases.Cover.{Cover}
use Rattle.kr_ghost.specs.declared.cases.Cover.TheVariants.{ReadKey, ReadGap, ChangedKey}
use Rattle.kr_ghost.specs.Safe.{KeyUse, Free, Read, Inserted, Updated, Deleted, Several, Hold, is_changed, is_read, Ask, FetchHit, FetchMiss, ScanName, ScanStop, Insert, Delete, Update, Revive, InsertHit, DeleteMiss, UpdateMiss, ReviveNext, InsertHitNext, keeps_out, by_key, and_read, and_changed, key_after, gap_after, after}
use Rattle.kr_ghost.proofs.Names.{or_first}

-- The lock state of each transaction on each name.
abbrev pub Holds : Type 0
Holds = ℕ → Name → Hold

-- The lock states with x for t on n.
abbrev pub with_hold : Holds → ℕ → Name → Hold → Holds
with_hold hold t n x u y = cond (same (y, u) (n, t)) x (hold u y)

pub hold_here : (hold : Holds) (t : ℕ) (n : Name) (x : Hold) → with_hold hold t n x t n ≡ x
hold_here hold t n x = ap (λ b. cond b x (hold t n)) (same_itself (n, t))

pub hold_apart : (hold : Holds) (t : ℕ) (n : Name) (x : Hold) (u : ℕ) (y : Name) → ((u ≡ t) × (y ≡ n) → ⊥) → with_hold hold t n x u y ≡ hold u y
hold_apart hold t n x u y out = ap (λ b. cond b x (hold u y)) (other (same (y, u) (n, t)) refl)
  where
    both : ◌≡◌ {A = Name × ℕ} (y, u) (n, t) → (u ≡ t) × (y ≡ n)
    both is = (ap (λ (z : Name × ℕ). z.1) is, ap (λ (z : Name × ℕ). z.0) is)

    other : (b : Bool) → same (y, u) (n, t) ≡ b → same (y, u) (n, t) ≡ false
    other true is = absurd (out (both (same_holder (y, u) (n, t) is)))
    other false is = is

-- What a lock state protects --

abbrev pub Protects : Cover → Hold → Type 0
Protects ReadKey x = is_read x.key ≡ true
Protects ReadGap x = x.gap ≡ true
Protects ChangedKey x = is_changed x.key ≡ true

-- What was changed counts as read.
pub changed_read : (k : KeyUse) → is_changed k ≡ true → is_read k ≡ true
changed_read Free h = absurd (cc)
changed_read Read h = refl
changed_read Inserted h = refl
changed_read Updated h = refl
changed_read Deleted h = refl
changed_read Several h = refl

-- A changed key is protected as one that was read.
pub weaken : (x : Hold) → Protects ChangedKey x → Protects ReadKey x
weaken x h = changed_read x.key h

-- A request keeps what was protected --

-- A read key counts as read, and a changed one as changed.
pub read_reads : (k : KeyUse) → is_read (and_read k) ≡ true
read_reads Free = refl
read_reads Read = refl
read_reads Inserted = refl
read_reads Updated = refl
read_reads Deleted = refl
read_reads Several = refl

read_keeps : (k : KeyUse) → is_changed k ≡ true → is_changed (and_read k) ≡ true
read_keeps Free h = absurd (cc)
read_keeps Read h = absurd (cc)
read_keeps Inserted h = refl
read_keeps Updated h = refl
read_keeps Deleted h = refl
read_keeps Several h = refl

pub changed_changes : (by k : KeyUse) → is_changed by ≡ true → is_changed (and_changed by k) ≡ true
changed_changes by Free h = h
changed_changes by Read h = h
changed_changes by Inserted h = refl
changed_changes by Updated h = refl
changed_changes by Deleted h = refl
changed_changes by Several h = refl

read_if : (present : Bool) (by k : KeyUse) → is_changed by ≡ true → is_read (if present then and_changed by k else and_read k) ≡ true
read_if true by k h = changed_read (and_changed by k) (changed_changes by k h)
read_if false by k h = read_reads k

changed_if : (present : Bool) (by k : KeyUse) → is_changed by ≡ true → is_changed k ≡ true → is_changed (if present then and_changed by k else and_read k) ≡ true
changed_if true by k h c = changed_changes by k h
changed_if false by k h c = read_keeps k c

key_reads : (present : Bool) (k : KeyUse) (a : Ask) → is_read k ≡ true → is_read (key_after present k a) ≡ true
key_reads present k FetchHit h = read_reads k
key_reads present k FetchMiss h = h
key_reads present k ScanName h = read_reads k
key_reads present k ScanStop h = h
key_reads present k Insert h = h
key_reads present k Delete h = read_if present Deleted k refl
key_reads present k Update h = read_if present Updated k refl
key_reads present k Revive h = changed_read (and_changed Inserted k) (changed_changes Inserted k refl)
key_reads present k InsertHit h = read_reads k
key_reads present k DeleteMiss h = h
key_reads present k UpdateMiss h = h
key_reads present k ReviveNext h = h
key_reads present k InsertHitNext h = h

key_changes : (present : Bool) (k : KeyUse) (a : Ask) → is_changed k ≡ true → is_changed (key_after present k a) ≡ true
key_changes present k FetchHit h = read_keeps k h
key_changes present k FetchMiss h = h
key_changes present k ScanName h = read_keeps k h
key_changes present k ScanStop h = h
key_changes present k Insert h = h
key_changes present k Delete h = changed_if present Deleted k refl h
key_changes present k Update h = changed_if present Updated k refl h
key_changes present k Revive h = changed_changes Inserted k refl
key_changes present k InsertHit h = read_keeps k h
key_changes present k DeleteMiss h = h
key_changes present k UpdateMiss h = h
key_changes present k ReviveNext h = h
key_changes present k InsertHitNext h = h

gap_stays : (gap : Bool) (a : Ask) → gap ≡ true → gap_after gap a ≡ true
gap_stays gap FetchHit h = h
gap_stays gap FetchMiss h = refl
gap_stays gap ScanName h = refl
gap_stays gap ScanStop h = refl
gap_stays gap Insert h = h
gap_stays gap Delete h = h
gap_stays gap Update h = h
gap_stays gap Revive h = h
gap_stays gap InsertHit h = h
gap_stays gap DeleteMiss h = refl
gap_stays gap UpdateMiss h = refl
gap_stays gap ReviveNext h = h
gap_stays gap InsertHitNext h = h

-- So what was protected before a request is protected after it.
pub after_protects : (p : GhostProtocol) (present : Bool) (x : Hold) (a : Ask) (c : Cover) → Protects c x → Protects c (after p present x a)
after_protects p present x a ReadKey h = key_reads present x.key a h
after_protects p present x a ReadGap h = gap_stays x.gap a h
after_protects p present x a ChangedKey h = key_changes present x.key a h

-- Whom it keeps out --

if_true : (present : Bool) (k : KeyUse) → is_changed k ≡ true → (if present then is_read k else is_changed k) ≡ true
if_true true k h = changed_read k h
if_true false k h = h

if_false : (present : Bool) (k : KeyUse) → is_changed k ≡ true → (if present then is_changed k else is_read k) ≡ true
if_false true k h = h
if_false false k h = changed_read k h

-- Whether a request is of the key of its name, and not of the gap below it or of the lock alone.
abbrev pub is_of_key : Ask → Bool
is_of_key FetchHit = true
is_of_key ScanName = true
is_of_key Delete = true
is_of_key Update = true
is_of_key Revive = true
is_of_key InsertHit = true
is_of_key _ = false

-- Who has changed a key keeps out all who read or change it.
pub changed_keeps_out : (present : Bool) (x : Hold) (a : Ask) → is_of_key a ≡ true → Protects ChangedKey x → keeps_out present x a ≡ true
changed_keeps_out present x FetchHit of_key h = or_first (is_changed x.key) false h
changed_keeps_out present x FetchMiss of_key h = absurd (true≢false (sym of_key))
changed_keeps_out present x ScanName of_key h = or_first (is_changed x.key) false h
changed_keeps_out present x ScanStop of_key h = absurd (true≢false (sym of_key))
changed_keeps_out present x Insert of_key h = absurd (true≢false (sym of_key))
changed_keeps_out present x Delete of_key h = or_first (by_key present x.key Delete) false (if_true present x.key h)
changed_keeps_out present x Update of_key h = or_first (by_key present x.key Update) false (if_true present x.key h)
changed_keeps_out present x Revive of_key h = or_first (by_key present x.key Revive) false (if_false present x.key h)
changed_keeps_out present x InsertHit of_key h = or_first (is_changed x.key) false h
changed_keeps_out present x DeleteMiss of_key h = absurd (true≢false (sym of_key))
changed_keeps_out present x UpdateMiss of_key h = absurd (true≢false (sym of_key))
changed_keeps_out present x ReviveNext of_key h = absurd (true≢false (sym of_key))
changed_keeps_out present x InsertHitNext of_key h = absurd (true≢false (sym of_key))

-- Changes of a key --

-- What stood at a key before each of the changes of it, newest first.
abbrev pub olds : Changes → ℕ → List (Option ℕ)
olds [] k = []
olds (c ∷ cs) k = if c.0 == k then c.1 ∷ olds cs k else olds cs k

-- There is one of each changed key.
pub some_olds : (cs : Changes) (k : ℕ) → ChangedIn cs k → (o : Option ℕ) × (os : List (Option ℕ)) × (olds cs k ≡ o ∷ os)
some_olds [] k h = absurd h
some_olds (c ∷ cs) k h = by (c.0 == k) refl h (λ older. some_olds cs k older)
  where
    by : (b : Bool) → (c.0 == k) ≡ b → ChangedIn (c ∷ cs) k → (ChangedIn cs k → (o : Option ℕ) × (os : List (Option ℕ)) × (olds cs k ≡ o ∷ os))
        → (o : Option ℕ) × (os : List (Option ℕ)) × (olds (c ∷ cs) k ≡ o ∷ os)
    by true e h rest = (c.1, olds cs k, ap (λ b. if b then c.1 ∷ olds cs k else olds cs k) e)
    by false e (inl same) rest = absurd (true≢false (sym (ap (λ y. c.0 == y) same ∙ tied c.0) ∙ e))
    by false e (inr older) rest = let z = rest older in (z.0, z.1, ap (λ b. if b then c.1 ∷ olds cs k else olds cs k) e ∙ z.2)

-- The same of a name; the end isn't changed.
abbrev pub olds_at : Changes → Name → List (Option ℕ)
olds_at cs (Key k) = olds cs k
olds_at cs End = []

-- What has been done with a key agrees with its changes left: one that inserted it, one that found it present, or some.
abbrev pub Fits : List (Option ℕ) → KeyUse → Type 0
Fits [] Free = Unit {0}
Fits [] Read = Unit {0}
Fits [] Inserted = ⊥
Fits [] Updated = ⊥
Fits [] Deleted = ⊥
Fits [] Several = ⊥
Fits (o ∷ os) Free = ⊥
Fits (o ∷ os) Read = ⊥
Fits (None ∷ []) Inserted = Unit {0}
Fits (Some v ∷ []) Inserted = ⊥
Fits (o ∷ q ∷ os) Inserted = ⊥
Fits (None ∷ []) Updated = ⊥
Fits (Some v ∷ []) Updated = Unit {0}
Fits (o ∷ q ∷ os) Updated = ⊥
Fits (None ∷ []) Deleted = ⊥
Fits (Some v ∷ []) Deleted = Unit {0}
Fits (o ∷ q ∷ os) Deleted = ⊥
Fits (o ∷ os) Several = Unit {0}

-- Nothing has been done where there are no changes.
pub none_left : (n : Name) → Fits (olds_at [] n) Free
none_left End = tt
none_left (Key k) = tt

-- Without changes left nothing has been changed, and with some something has.
pub fits_none : (k : KeyUse) → Fits [] k → is_changed k ≡ false
fits_none Free f = refl
fits_none Read f = refl
fits_none Inserted f = absurd f
fits_none Updated f = absurd f
fits_none Deleted f = absurd f
fits_none Several f = absurd f

pub fits_some : (o : Option ℕ) (os : List (Option ℕ)) (k : KeyUse) → Fits (o ∷ os) k → is_changed k ≡ true
fits_some o os Free f = absurd f
fits_some o os Read f = absurd f
fits_some o os Inserted f = refl
fits_some o os Updated f = refl
fits_some o os Deleted f = refl
fits_some o os Several f = refl

-- A read agrees with the same changes, and a change with one more.
pub fits_read : (os : List (Option ℕ)) (k : KeyUse) → Fits os k → Fits os (and_read k)
fits_read [] Free f = tt
fits_read (o ∷ os) Free f = absurd f
fits_read os Read f = f
fits_read os Inserted f = f
fits_read os Updated f = f
fits_read os Deleted f = f
fits_read os Several f = f

pub fits_changed : (by : KeyUse) (o : Option ℕ) (os : List (Option ℕ)) (k : KeyUse) → Fits (o ∷ []) by → Fits os k → Fits (o ∷ os) (and_changed by k)
fits_changed by o [] Free g f = g
fits_changed by o (r ∷ os) Free g f = absurd f
fits_changed by o [] Read g f = g
fits_changed by o (r ∷ os) Read g f = absurd f
fits_changed by o os Inserted g f = tt
fits_changed by o os Updated g f = tt
fits_changed by o os Deleted g f = tt
fits_changed by o os Several g f = tt
