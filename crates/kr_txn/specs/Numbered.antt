-- Lists of numbered things, as active transactions and programs so far: the number of each, and what it is to the definitions.
use Rattle.std.specs.Prelude.{◌≡◌, ◌≢◌, ℕ, ◌<◌, ◌≤◌, not, ◌==◌, List, map, filter, length, slice_index_or, IsTrue}
use Rattle.std.specs.Ordering.{nat_cmp}
use Rattle.std.specs.FinMap.{is_sorted}

-- The number of a thing, and its value.
abbrev pub entry : {X V : Type 0} → (X → ℕ) → (X → V) → X → ℕ × V
entry number value x = (number x, value x)

-- The entries of a list, in its order.
abbrev pub entries : {X V : Type 0} → (X → ℕ) → (X → V) → List X → List (ℕ × V)
entries number value xs = map (entry number value) xs

-- The numbers rise, so each stands in the list once.
abbrev pub AreInOrder : {V : Type 0} → List (ℕ × V) → Type 0
AreInOrder es = IsTrue (is_sorted nat_cmp es)

-- The entries without that of t.
abbrev pub without_txn : {V : Type 0} → ℕ → List (ℕ × V) → List (ℕ × V)
without_txn t es = filter (λ e. not (e.0 == t)) es

-- No thing before place i has the number t.
abbrev pub AreOthers : {X : Type 0} → (X → ℕ) → ℕ → List X → ℕ → Type 0
AreOthers {X} number t xs i = (j : ℕ) (d : X) → j < i → number (slice_index_or xs j d) ≢ t

-- Place i is the first at which t stands.
pub record IsPosition {X : Type 0} (number : X → ℕ) (t : ℕ) (xs : List X) (i : ℕ) : Type 0 where
  pub within : i < length xs
  pub others : AreOthers number t xs i
  pub here : (d : X) → number (slice_index_or xs i d) ≡ t

-- The numbers before place i are below t, and the one there is greater.
pub record IsPlace {X : Type 0} (number : X → ℕ) (t : ℕ) (xs : List X) (i : ℕ) : Type 0 where
  pub within : i ≤ length xs
  pub below : (j : ℕ) (d : X) → j < i → number (slice_index_or xs j d) < t
  pub above : (d : X) → i < length xs → t < number (slice_index_or xs i d)
