-- The names of the modes of the tables with ghosts; those of `range_ghost` are range-key locking's.
use Rattle.std.specs.Prelude.{ℕ, List, [], ◌∷◌, codes}

-- The modes of locks on records and on gaps, in order; the part for the gap comes first.
abbrev pub record_gap_names : List (List ℕ)
record_gap_names =
    codes "N-S" ∷ codes "N-X"
    ∷ codes "G-N" ∷ codes "G-S" ∷ codes "G-X"
    ∷ codes "I-N" ∷ codes "I-S" ∷ codes "I-X"
    ∷ codes "GI-N" ∷ codes "GI-S" ∷ codes "GI-X" ∷ []

-- The modes of locks on keys and next keys, in order.
abbrev pub next_key_ghost_names : List (List ℕ)
next_key_ghost_names = codes "KS" ∷ codes "NS" ∷ codes "NW" ∷ codes "KW" ∷ codes "KX" ∷ []
