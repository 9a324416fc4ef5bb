-- The entries of an index with ghosts: each name that is a key, with its slot.
use Rattle.std.specs.Prelude.{ℕ, ◌+◌, ◌-◌, Bool, false, nat_le, if◌then◌else◌, List, [], ◌∷◌, Option, Some, None, is_none, IsTrue}
use Rattle.std.specs.Ordering.{nat_cmp}
use Rattle.std.specs.FinMap.{find, put, is_sorted}
use Rattle.kr_model.specs.declared.Name.{Name}
use Rattle.kr_model.specs.declared.Name.TheVariants.{Key, End}
use Rattle.kr_model.specs.Map.{Map}
use Rattle.kr_ghost_index.specs.Index.{GhostIndex}
use Rattle.kr_ghost_index.specs.declared.slots.Slot.{Slot}

-- the entries of an index, by key
abbrev pub Entries : Type 0
Entries = List (ℕ × Slot)

-- each key is above the one before it
abbrev pub IsInOrder : Entries → Type 0
IsInOrder es = IsTrue (is_sorted nat_cmp es)

-- What the entries say --

-- the pairs with the key's pair before them, if the key has a value
abbrev pub with_value : ℕ → Option ℕ → Map → Map
with_value k None m = m
with_value k (Some v) m = (k, v) ∷ m

-- the pairs of the keys that have a value
abbrev pub map_of : Entries → Map
map_of [] = []
map_of (e ∷ es) = with_value e.0 e.1.value (map_of es)

-- the ghosts with the key before them, if it has no value
abbrev pub with_ghost : ℕ → Option ℕ → List ℕ → List ℕ
with_ghost k None gs = k ∷ gs
with_ghost k (Some v) gs = gs

-- the keys that have none
abbrev pub ghosts_of : Entries → List ℕ
ghosts_of [] = []
ghosts_of (e ∷ es) = with_ghost e.0 e.1.value (ghosts_of es)

-- each key with its changes that are left
abbrev pub counts_of : Entries → List (ℕ × ℕ)
counts_of [] = []
counts_of (e ∷ es) = (e.0, e.1.changes) ∷ counts_of es

-- an index of these entries
abbrev pub seen : Entries → GhostIndex
seen es = record { map = map_of es; ghosts = ghosts_of es; counts = counts_of es }

-- What a slot says --

-- the value in a slot, and none where there is no slot
abbrev pub value_in : Option Slot → Option ℕ
value_in None = None
value_in (Some s) = s.value

-- whether there is a slot, and no value in it
abbrev pub is_ghost_in : Option Slot → Bool
is_ghost_in None = false
is_ghost_in (Some s) = is_none s.value

-- the changes that a slot counts, and 0 where there is no slot
abbrev pub changes_in : Option Slot → ℕ
changes_in None = 0
changes_in (Some s) = s.changes

-- the changes of a key that are left
abbrev pub changes_of : Entries → ℕ → ℕ
changes_of es k = changes_in (find nat_cmp k es)

-- the first entry whose key is not below c
abbrev pub first_from : Entries → ℕ → Option (ℕ × Slot)
first_from [] c = None
first_from (e ∷ es) c = if nat_le c e.0 then Some e else first_from es c

-- the name of an entry, and the end where there is none
abbrev pub name_of : Option (ℕ × Slot) → Name
name_of None = End
name_of (Some e) = Key e.0

-- What calls make of the entries --

-- the entries of pairs, each present and with no change
abbrev pub unchanged : Map → Entries
unchanged [] = []
unchanged (p ∷ ps) = (p.0, record { value = Some p.1; changes = 0 }) ∷ unchanged ps

-- the entries after one more change of k, which gives it this value or takes its value away
abbrev pub changed : Entries → ℕ → Option ℕ → Entries
changed es k value = put nat_cmp k (record { value = value; changes = changes_of es k + 1 }) es

-- the entries after one change of k less, with this value at k or none
abbrev pub undone : Entries → ℕ → Option ℕ → Entries
undone es k value = put nat_cmp k (record { value = value; changes = changes_of es k - 1 }) es
