-- What is known of the places of one row.
use Rattle.std.specs.Prelude.{ℕ, ◌≡◌, ◌<◌, ◌≤◌, List, length, Option, Some, None, slice_index_or, slice_get}
use Rattle.kr_records.specs.declared.known.Known.{Known}
use Rattle.kr_records.specs.declared.name.Entry.{Entry}

abbrev pub name_of : Known Entry → ℕ
name_of n = n.cell

abbrev pub what_of : Known Entry → Option Entry
what_of n = n.known

-- what both know of this place is the same
abbrev pub AgreeAt : List (Option Entry) → List (Option Entry) → ℕ → Type 0
AgreeAt xs ys place = (x y : Entry) → slice_index_or xs place None ≡ Some x → slice_index_or ys place None ≡ Some y → x ≡ y

-- what is known of the first places is these entries
abbrev pub KnowsAll : List (Option Entry) → List Entry → Type 0
KnowsAll w view = (k : ℕ) → k < length view → slice_index_or w k None ≡ slice_get view k

-- nothing is known from this place on
abbrev pub KnowsNoneFrom : List (Option Entry) → ℕ → Type 0
KnowsNoneFrom w place = (k : ℕ) → place ≤ k → slice_index_or w k None ≡ None
