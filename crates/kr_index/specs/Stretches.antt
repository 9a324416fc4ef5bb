-- Stretches of keys: each goes from its first key up to the first key of the next one.
use Rattle.std.specs.Prelude.{◌≡◌, ℕ, ◌+◌, ◌<◌, ◌≤◌, List, length, slice_index_or, None, IsTrue}
use Rattle.kr_model.specs.Map.{Map, get}
use Rattle.kr_index.specs.declared.stretches.Stretch.{Stretch}

-- key q is in the stretch at place i
pub record IsIn (ss : List Stretch) (q i : ℕ) : Type 0 where
  pub in_range : i < length ss
  pub not_before : (d : Stretch) → (slice_index_or ss i d).from ≤ q
  pub before_next : (d : Stretch) → i + 1 < length ss → q < (slice_index_or ss (i + 1) d).from

-- each stretch begins above the one before it
pub record IsRising (ss : List Stretch) : Type 0 where
  pub rises : (i j : ℕ) (d : Stretch) → i < j → j < length ss → (slice_index_or ss i d).from < (slice_index_or ss j d).from

-- no key in the stretch at place i has a value
pub record IsBare (ss : List Stretch) (m : Map) (i : ℕ) : Type 0 where
  pub absent : (q : ℕ) → IsIn ss q i → get m q ≡ None

-- no key in a stretch that is marked as bare has a value
pub record AreMarked (ss : List Stretch) (m : Map) : Type 0 where
  pub bare : (i : ℕ) (d : Stretch) → i < length ss → IsTrue (slice_index_or ss i d).is_bare → IsBare ss m i
