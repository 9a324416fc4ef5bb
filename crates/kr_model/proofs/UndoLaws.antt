-- Changes undone.
use Rattle.std.specs.Prelude.{◌≡◌, ℕ, Bool, true, false, ◌==◌, cond, if◌then◌else◌, [], ◌∷◌, ◌++◌, reverse, Option, Some, None, refl, unwrap_or}
use Rattle.std.specs.Ordering.{nat_cmp, eq_by_cmp}
use Rattle.std.specs.FinMap.{find}
use Rattle.std.proofs.lemmas.List.{reverse-append}
use Rattle.std.proofs.Common.{sym, ◌∙◌, ap}
use Rattle.kr_model.specs.Map.{Map, Changes, IsMap, get, restore, restore_all, before_first}
use Rattle.kr_model.proofs.MapLaws.{same_test, get-set, get-without, IsMap-set, IsMap-without}

-- a key that is restored stands as it stood, and every other key is as it was
pub get-restore : (m : Map) (k : ℕ) (b : Option ℕ) (q : ℕ) → get (restore m k b) q ≡ (if k == q then b else get m q)
get-restore m k None q = get-without m k q
get-restore m k (Some v) q = get-set m k v q

-- what the changes noted of k, or else what this one did
abbrev pub or_noted : Option (Option ℕ) → ℕ × Option ℕ → ℕ → Option (Option ℕ)
or_noted (Some old) c k = Some old
or_noted None c k = if c.0 == k then Some c.1 else None

noted_here : (t : Bool) (c : ℕ × Option ℕ) (k : ℕ) → (c.0 == k) ≡ t → find nat_cmp k (c ∷ []) ≡ (if t then Some c.1 else None)
noted_here true c k e = ap (λ b. cond b (Some c.1) None) (same_test k c.0 true e)
noted_here false c k e = ap (λ b. cond b (Some c.1) None) (same_test k c.0 false e)

noted_first : (b : Bool) (old : Option ℕ) (rest after : Option (Option ℕ)) (c : ℕ × Option ℕ) (k : ℕ) → rest ≡ or_noted after c k → cond b (Some old) rest ≡ or_noted (cond b (Some old) after) c k
noted_first true old rest after c k h = refl
noted_first false old rest after c k h = h

noted_last : (cs : Changes) (c : ℕ × Option ℕ) (k : ℕ) → find nat_cmp k (cs ++ c ∷ []) ≡ or_noted (find nat_cmp k cs) c k
noted_last [] c k = noted_here (c.0 == k) c k refl
noted_last (d ∷ ds) c k = noted_first (eq_by_cmp nat_cmp k d.0) d.1 (find nat_cmp k (ds ++ c ∷ [])) (find nat_cmp k ds) c k (noted_last ds c k)

-- a further change of a key doesn't touch what its first change noted
pub before_first-cons : (c : ℕ × Option ℕ) (cs : Changes) (k : ℕ) → before_first (c ∷ cs) k ≡ or_noted (before_first cs k) c k
before_first-cons c cs k = ap (find nat_cmp k) (reverse-append (c ∷ []) cs) ∙ noted_last (reverse cs) c k

here_or_there : (b : Bool) (old o : Option ℕ) → unwrap_or (if b then Some old else None) o ≡ (if b then old else o)
here_or_there true old o = refl
here_or_there false old o = refl

one_more : (older : Option (Option ℕ)) (c : ℕ × Option ℕ) (k : ℕ) (now was : Option ℕ) → now ≡ (if c.0 == k then c.1 else was) → unwrap_or older now ≡ unwrap_or (or_noted older c k) was
one_more (Some v) c k now was h = refl
one_more None c k now was h = h ∙ sym (here_or_there (c.0 == k) c.1 was)

-- when all changes are undone, each key stands as before the first change of it
pub get-restore_all : (m : Map) (changes : Changes) (k : ℕ) → get (restore_all m changes) k ≡ unwrap_or (before_first changes k) (get m k)
get-restore_all m [] k = refl
get-restore_all m (c ∷ cs) k =
    get-restore_all (restore m c.0 c.1) cs k
    ∙ one_more (before_first cs k) c k (get (restore m c.0 c.1) k) (get m k) (get-restore m c.0 c.1 k)
    ∙ ap (λ o. unwrap_or o (get m k)) (sym (before_first-cons c cs k))

-- a map in which a key is restored, or all changes are undone, is a map
pub IsMap-restore : (m : Map) (k : ℕ) (b : Option ℕ) → IsMap m → IsMap (restore m k b)
IsMap-restore m k None h = IsMap-without m k h
IsMap-restore m k (Some v) h = IsMap-set m k v h

pub IsMap-restore_all : (m : Map) (cs : Changes) → IsMap m → IsMap (restore_all m cs)
IsMap-restore_all m [] h = h
IsMap-restore_all m (c ∷ cs) h = IsMap-restore_all (restore m c.0 c.1) cs (IsMap-restore m c.0 c.1 h)
