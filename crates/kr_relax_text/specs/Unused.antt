-- Entries of a table that no schedule comes to, as a text.
use Rattle.std.specs.Prelude.{ℕ, ◌==◌, Bool, true, false, List, [], ◌++◌, Option, Some, None, codes, flat_map, length, if◌then◌else◌}
use Rattle.std.specs.Option.{option_map_or}
use Rattle.kr_model.specs.declared.Row.TheVariants.{Insert, Delete}
use Rattle.kr_model.specs.declared.Side.TheVariants.{Current, Next}
use Rattle.kr_model.specs.Protocol.{Protocol}
use Rattle.kr_model.specs.Covers.{modes}
use Rattle.kr_model.specs.ModeNames.{name_of}
use Rattle.kr_change.specs.Changes.{is_same_place}
use Rattle.kr_change.specs.ChangeNames.{place_words}
use Rattle.kr_relax_core.specs.declared.unused.Entry.{Entry}
use Rattle.kr_relax_core.specs.declared.unused.Entry.TheVariants as entry
use Rattle.kr_relax_text.specs.declared.unused.Group.{Group}
use Rattle.kr_relax_text.specs.declared.unused.Group.TheVariants.{Pairs, Conversions, Requests}

-- The mode by which an entry is in a group, if it is in it.
abbrev pub mode_in : Group → Entry → Option ℕ
mode_in (Pairs of) (entry.Pair requested held) = if of == requested then Some held else None
mode_in (Conversions of) (entry.Conversion held requested) = if of == held then Some requested else None
mode_in (Requests of at) (entry.Request row side own_next) = if is_same_place of at row side then Some own_next else None
mode_in _ _ = None

-- Its name, behind a space.
unfoldable pub entry_word : List (List ℕ) → Group → Entry → List ℕ
entry_word names g e = option_map_or (λ m. codes " " ++ name_of names m) (mode_in g e) []

-- The modes of the entries that are in a group.
abbrev pub members_words : List (List ℕ) → Group → List Entry → List ℕ
members_words names g entries = flat_map (entry_word names g) entries

-- What comes before them, and behind them.
unfoldable pub head_words : Protocol → List (List ℕ) → Group → List ℕ
head_words p names (Pairs requested) = name_of names requested ++ codes " beside"
head_words p names (Conversions held) = name_of names held ++ codes " held,"
head_words p names (Requests row side) = place_words p names row side None ++ codes " own"

abbrev pub foot_words : Group → List ℕ
foot_words (Conversions held) = codes " asked"
foot_words _ = []

-- The entries of a group on a line, if there are any.
unfoldable pub group_line : Protocol → List (List ℕ) → List Entry → Group → List ℕ
group_line p names entries g =
    if length (members_words names g entries) == 0 then []
    else codes "unused: " ++ (head_words p names g ++ (members_words names g entries ++ (foot_words g ++ codes "\n")))

-- Pairs by the requested mode, or conversions by the held one.
abbrev pub group_of : Bool → ℕ → Group
group_of true m = Pairs m
group_of false m = Conversions m

abbrev pub by_mode_words : Protocol → List (List ℕ) → List Entry → Bool → List ℕ
by_mode_words p names entries are_pairs = flat_map (λ m. group_line p names entries (group_of are_pairs m)) (modes p)

-- What inserts and deletes request.
unfoldable pub places_words : Protocol → List (List ℕ) → List Entry → List ℕ
places_words p names entries =
    group_line p names entries (Requests Insert Current) ++ (group_line p names entries (Requests Insert Next)
    ++ (group_line p names entries (Requests Delete Current) ++ group_line p names entries (Requests Delete Next)))

-- Entries of p, each group on a line.
unfoldable pub unused_words : Protocol → List (List ℕ) → List Entry → List ℕ
unused_words p names entries = by_mode_words p names entries true ++ (by_mode_words p names entries false ++ places_words p names entries)
