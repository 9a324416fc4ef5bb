-- An index's entries: each key that is present or pinned, with its value and the count of its pins.
use Rattle.std.specs.Prelude.{◌≡◌, ℕ, ◌<◌, ◌≤◌, List, [], ◌∷◌, length, slice_index_or, Option, Some, None, IsTrue}
use Rattle.std.specs.Ordering.{nat_cmp}
use Rattle.std.specs.FinMap.{find, is_sorted}
use Rattle.kr_model.specs.declared.Name.{Name}
use Rattle.kr_model.specs.declared.Name.TheVariants.{Key, End}
use Rattle.kr_model.specs.Map.{Map}
use Rattle.kr_index.specs.declared.slots.Slot.{Slot}

-- the entries of an index, by key
abbrev pub Entries : Type 0
Entries = List (ℕ × Slot)

-- the pairs with the key's pair before them, if the key has a value
abbrev pub with_value : ℕ → Option ℕ → Map → Map
with_value k None m = m
with_value k (Some v) m = (k, v) ∷ m

-- the pairs of the keys that have a value
abbrev pub pairs_of : Entries → Map
pairs_of [] = []
pairs_of (e ∷ es) = with_value e.0 e.1.value (pairs_of es)

-- the value in a slot, and none where there is no slot
abbrev pub value_in : Option Slot → Option ℕ
value_in None = None
value_in (Some s) = s.value

-- the pins in a slot, and 0 where there is no slot
abbrev pub pins_in : Option Slot → ℕ
pins_in None = 0
pins_in (Some s) = s.pins

-- the pins of a key
abbrev pub pins_of : Entries → ℕ → ℕ
pins_of es k = pins_in (find nat_cmp k es)

-- the entries of pairs without pins
abbrev pub unpinned : Map → Entries
unpinned [] = []
unpinned (p ∷ ps) = (p.0, record { value = Some p.1; pins = 0 }) ∷ unpinned ps

-- the first key of pairs, and `End` where there is none
abbrev pub least : Map → Name
least [] = End
least (p ∷ ps) = Key p.0

-- each key is above the one before it
abbrev pub IsInOrder : Entries → Type 0
IsInOrder es = IsTrue (is_sorted nat_cmp es)

-- the entry at place i has the key
pub record IsAt (es : Entries) (key i : ℕ) : Type 0 where
  pub in_range : i < length es
  pub has_key : (d : ℕ × Slot) → (slice_index_or es i d).0 ≡ key

-- the key has no entry and would go at place i: smaller keys are before it, and greater keys from it on
pub record IsGapFor (es : Entries) (key i : ℕ) : Type 0 where
  pub in_range : i ≤ length es
  pub smaller_before : (j : ℕ) (d : ℕ × Slot) → j < i → (slice_index_or es j d).0 < key
  pub greater_after : (j : ℕ) (d : ℕ × Slot) → i ≤ j → j < length es → key < (slice_index_or es j d).0
