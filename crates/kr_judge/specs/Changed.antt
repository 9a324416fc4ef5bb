-- The opening map with the keys that programs changed, and answers compared with those of operations run whole on it.
use Rattle.std.specs.Prelude.{ℕ, List, Option, Some, None, if◌then◌else◌}
use Rattle.std.specs.BTreeMap.{BTreeMap}
use Rattle.kr_model.specs.declared.Reply.{Reply}
use Rattle.kr_model.specs.Map.{Map, restore_all}
use Rattle.kr_model.specs.Difference.{same_reply}

-- The opening map with these changes: each a key, and the value that it has now, or nothing where it is absent now.
abbrev pub changed_map : Map → List (ℕ × Option ℕ) → Map
changed_map opening changes = restore_all opening changes

-- The map that a tree has, or else this one.
abbrev pub in_tree_or : Map → Option (BTreeMap ℕ ℕ) → Map
in_tree_or m None = m
in_tree_or m (Some tree) = tree.entries

-- An operation's own answer, where the one given isn't the same.
abbrev pub own_unless_same : Reply → Reply → Option Reply
own_unless_same given own = if same_reply given own then None else Some own
