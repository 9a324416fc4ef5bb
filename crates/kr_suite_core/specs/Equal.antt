-- Whether two changes are the same.
use Rattle.std.specs.Prelude.{ℕ, ◌==◌, ◌&&◌, Bool, true, false, Option, Some, None}
use Rattle.kr_change.specs.declared.change.Change.{Change}
use Rattle.kr_change.specs.declared.change.Change.TheVariants.{Request, GhostRequest, Convert, Heir, Compatible}
use Rattle.kr_change.specs.Changes.{is_same_place}
use Rattle.kr_change.specs.GhostChanges.{is_same_ghost_place}
use Rattle.kr_change.specs.Every.{is_same_request}

abbrev pub is_same_own : Option ℕ → Option ℕ → Bool
is_same_own None None = true
is_same_own (Some m) (Some n) = m == n
is_same_own _ _ = false

abbrev pub is_same_bool : Bool → Bool → Bool
is_same_bool true true = true
is_same_bool false false = true
is_same_bool _ _ = false

-- whether two changes are the same
abbrev pub is_equal : Change → Change → Bool
is_equal (Request r s o a) (Request t u n b) = is_same_place r s t u && (is_same_own o n && is_same_request a b)
is_equal (GhostRequest r s a) (GhostRequest t u b) = is_same_ghost_place r s t u && is_same_request a b
is_equal (Convert h q m) (Convert i r n) = (h == i) && ((q == r) && (m == n))
is_equal (Heir h m) (Heir i n) = (h == i) && (m == n)
is_equal (Compatible q h b) (Compatible r i c) = (q == r) && ((h == i) && is_same_bool b c)
is_equal _ _ = false
