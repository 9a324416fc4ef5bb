-- How near two words are.
use Rattle.std.specs.Prelude.{ℕ, List, if◌then◌else◌, length, nat_eq, nat_lt}
use Rattle.std.specs.Str.{chars}
use Rattle.strsim.specs.Edits.{levenshtein_row}

-- The least number of characters that are put in, left out or changed to make one word of the other.
abbrev pub distance : List ℕ → List ℕ → ℕ
distance word name = levenshtein_row nat_eq (chars word) (chars name) (length (chars name))

-- A name that is near to a word is so far from it at most: two, and less for a short word.
abbrev pub near_distance : List ℕ → ℕ
near_distance word = if nat_lt (length word) 2 then 0 else (if nat_lt (length word) 4 then 1 else 2)
