-- Values of JSON documents, and their parts.
use Rattle.std.specs.Prelude.{ℕ, List, Option, Some, None, option_and_then, option_map, unwrap_or}
use Rattle.serde_json.specs.Data.{Data, number, unsigned, Items, no_items, Members, no_members}
use Rattle.serde_json.specs.Find.{get, at, as_number, as_str, as_array, as_object, as_u64}
use Rattle.serde_json.specs.Events.{items_len}

-- A whole number.
abbrev pub whole : ℕ → Data
whole n = number (unsigned n)

-- How many elements an array has.
abbrev pub length_of : Data → Option ℕ
length_of d = option_map items_len (as_array d)

-- The whole number at an index of an array.
abbrev pub number_at : ℕ → Data → Option ℕ
number_at i d = option_and_then as_u64 (option_and_then as_number (at i d))

-- The text at an index of an array.
abbrev pub word_at : ℕ → Data → Option (List ℕ)
word_at i d = option_and_then as_str (at i d)

-- Two numbers, where both are there.
abbrev pub both : Option ℕ → Option ℕ → Option (ℕ × ℕ)
both (Some a) (Some b) = Some (a, b)
both _ _ = None

-- The whole number that a member is.
abbrev pub number_in : List ℕ → Data → Option ℕ
number_in name d = option_and_then as_u64 (option_and_then as_number (get name d))

-- The elements of the array that a member is.
abbrev pub list_in : List ℕ → Data → Option Items
list_in name d = option_and_then as_array (get name d)

-- The elements of the array that a member is, and none where it is no array.
abbrev pub items_in : List ℕ → Data → Items
items_in name d = unwrap_or (list_in name d) no_items

-- The members of an object, and none where the value is no object.
abbrev pub members_in : Data → Members
members_in d = unwrap_or (as_object d) no_members
