-- The index as a finite map from keys to values, and what its changes were.
use Rattle.std.specs.Prelude.{ℕ, suc, reverse, not, Bool, true, ◌&&◌, ◌==◌, nat_le, nat_lt, IsTrue, List, [], ◌∷◌, Option, Some, None, filter, if◌then◌else◌}
use Rattle.std.specs.Ordering.{nat_cmp}
use Rattle.std.specs.FinMap.{find, put, is_sorted}
use Rattle.kr_model.specs.declared.Name.{Name}
use Rattle.kr_model.specs.declared.Name.TheVariants.{Key, End}

-- An index, as its pairs of a key and a value.
abbrev pub Map : Type 0
Map = List (ℕ × ℕ)

-- The keys rise, so each has one value.
abbrev pub IsMap : Map → Type 0
IsMap m = IsTrue (is_sorted nat_cmp m)

-- Whether a key is above the one before it, if there is one.
abbrev pub is_above : ℕ → Option ℕ → Bool
is_above k None = true
is_above k (Some before) = nat_lt before k

-- Whether keys rise, each above the one before it.
abbrev pub is_rising : Option ℕ → Map → Bool
is_rising before [] = true
is_rising before (p ∷ ps) = is_above p.0 before && is_rising (Some p.0) ps

-- The value of a key, or nothing where the key is absent.
abbrev pub get : Map → ℕ → Option ℕ
get m k = find nat_cmp k m

-- The index with this value at k.
abbrev pub set : Map → ℕ → ℕ → Map
set m k v = put nat_cmp k v m

-- The index without k.
abbrev pub without : Map → ℕ → Map
without m k = filter (λ e. not (e.0 == k)) m

-- The least present key not below c, or the end.
abbrev pub at : Map → ℕ → Name
at [] c = End
at (e ∷ es) c = if nat_le c e.0 then Key e.0 else at es c

-- The least present key above k, or the end.
abbrev pub after : Map → ℕ → Name
after m k = at m (suc k)

-- The pairs with keys from lo to hi, both included, rising.
abbrev pub pairs_between : Map → ℕ → ℕ → List (ℕ × ℕ)
pairs_between m lo hi = filter (λ e. nat_le lo e.0 && nat_le e.0 hi) m

-- Changes undone --

-- Changes, newest first: each a key, and what stood there before that change.
abbrev pub Changes : Type 0
Changes = List (ℕ × Option ℕ)

-- The index with k as it stood: a value, or nothing.
abbrev pub restore : Map → ℕ → Option ℕ → Map
restore m k None = without m k
restore m k (Some v) = set m k v

-- The index with the changes undone, newest first.
abbrev pub restore_all : Map → Changes → Map
restore_all m [] = m
restore_all m (c ∷ cs) = restore_all (restore m c.0 c.1) cs

-- What stood at k before the first change of it, where k was changed.
abbrev pub before_first : Changes → ℕ → Option (Option ℕ)
before_first changes k = find nat_cmp k (reverse changes)
