-- What stands at a name in a document. Each of these gives something for every document, faulty ones too.
use Rattle.std.specs.Prelude.{ℕ, ℤ, ◌+◌, codes, List, [], ◌∷◌, ◌++◌, Option, Some, None, unwrap_or, option_and_then}
use Rattle.toml.specs.Data.{Data, Items, no_items, item, Members, no_members, get, as_str, as_integer, as_array, as_table}

-- The whole number at a name, if one stands there.
abbrev pub integer_in : List ℕ → Data → Option ℤ
integer_in name d = option_and_then as_integer (get name d)

-- The array at a name, if one stands there.
abbrev pub list_in : List ℕ → Data → Option Items
list_in name d = option_and_then as_array (get name d)

-- The table at a name, if one stands there.
abbrev pub table_in : List ℕ → Data → Option Members
table_in name d = option_and_then as_table (get name d)

-- The text at a name, if one stands there.
abbrev pub text_in : List ℕ → Data → Option (List ℕ)
text_in name d = option_and_then as_str (get name d)

-- The elements of the array at a name, and none where no array stands there.
abbrev pub items_in : List ℕ → Data → Items
items_in name d = unwrap_or (list_in name d) no_items

-- What stands at a name, and an empty table where nothing does.
abbrev pub data_in : List ℕ → Data → Data
data_in name d = unwrap_or (get name d) (Data.table no_members)

-- What stands at a name within what stands at another.
abbrev pub pair_in : Data → List ℕ → List ℕ → Option Data
pair_in d h q = option_and_then (get q) (get h d)

-- The members of a table, and none of what is no table.
abbrev pub members_of : Data → Members
members_of d = unwrap_or (as_table d) no_members

-- The elements of an array, and none of what is no array.
abbrev pub items_within : Data → Items
items_within d = unwrap_or (as_array d) no_items

-- How many elements there are.
abbrev pub items_len : Items → ℕ
items_len no_items = 0
items_len (item d ds) = items_len ds + 1

-- A list of x, or of nothing.
abbrev pub with_some : {A : Type 0} → Option A → List A
with_some None = []
with_some (Some x) = x ∷ []

-- The texts among the elements, in order.
abbrev pub names_of : Items → List (List ℕ)
names_of no_items = []
names_of (item d ds) = with_some (as_str d) ++ names_of ds

-- The names of the modes of a document.
abbrev pub modes_in : Data → List (List ℕ)
modes_in d = names_of (items_in (codes "modes") d)
