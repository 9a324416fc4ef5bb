-- The state of an index with ghosts: beside the present keys there are names without a value, which carry locks and end gaps.
use Rattle.std.specs.Prelude.{ℕ, not, Bool, true, false, ◌==◌, List, [], ◌∷◌, Option, Some, None, filter}
use Rattle.std.specs.List.{list_any}
use Rattle.kr_model.specs.declared.Name.{Name}
use Rattle.kr_model.specs.Map.{Map, Changes, get, set, at}
use Rattle.kr_model.specs.Locks.{add_once}
use Rattle.kr_model.specs.State.{State, start}

-- The state between two steps; a scan in progress has the range that is left to it, and the pairs that it has read.
pub record GhostState : Type 0 where
  pub state : State
  -- the ghosts, rising: deleted keys that haven't been purged
  pub ghosts : List ℕ

-- At the start there are no ghosts.
abbrev pub opened : Map → GhostState
opened m = record { state = start m; ghosts = [] }

-- Whether k is among the ghosts.
abbrev pub among : List ℕ → ℕ → Bool
among ghosts k = list_any (λ g. g == k) ghosts

-- The keys that are names, those present and the ghosts, as a map; the value of a ghost in it means nothing.
abbrev pub named : Map → List ℕ → Map
named m [] = m
named m (g ∷ ghosts) = set (named m ghosts) g 0

-- The least name not below k: a present key, a ghost, or the end.
abbrev pub name_from : GhostState → ℕ → Name
name_from s k = at (named s.state.map s.ghosts) k

-- How a key stands: it is present, a ghost, or no name.
pub data Stand : Type 0 where
  Present : Stand
  Ghost : Stand
  Absent : Stand

-- The same, by the value that stands at the key, and by whether it is a ghost.
abbrev pub stand_by : Option ℕ → Bool → Stand
stand_by (Some v) g = Present
stand_by None true = Ghost
stand_by None false = Absent

-- The same of k in the state.
abbrev pub stand : GhostState → ℕ → Stand
stand s k = stand_by (get s.state.map k) (among s.ghosts k)

-- Whether a key that stands so is a ghost.
abbrev pub is_ghost : Stand → Bool
is_ghost Present = false
is_ghost Ghost = true
is_ghost Absent = false

-- The ghosts once the key k, which is a name, has this value or none: with a value it is present, and without one it is a ghost.
abbrev pub ghosts_with : List ℕ → ℕ → Option ℕ → List ℕ
ghosts_with ghosts k (Some v) = filter (λ g. not (g == k)) ghosts
ghosts_with ghosts k None = add_once k ghosts

-- The ghosts with the changes undone, newest first: a key that was inserted is a ghost then.
abbrev pub ghosts_restored : List ℕ → Changes → List ℕ
ghosts_restored ghosts [] = ghosts
ghosts_restored ghosts (c ∷ cs) = ghosts_restored (ghosts_with ghosts c.0 c.1) cs
