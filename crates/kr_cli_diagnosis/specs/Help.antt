-- What is printed of a fault.
use Rattle.std.specs.Prelude.{ℕ, List, [], ◌∷◌, ◌++◌, ◌≡◌, ◌≤◌, ◌⊎◌, codes, length, slice_range}
use Rattle.std.specs.Fmt.{decimal}
use Rattle.std.specs.Str.{IsUtf8}
use Rattle.kr_cli_diagnosis.specs.declared.place.Place.{Place}
use Rattle.kr_cli_diagnosis.specs.Lines.{line, lines}
use Rattle.kr_cli_diagnosis.specs.Place.{IsLineEnd, IsLineStart, IsPlace}

-- What is said of a file.
abbrev pub of_file : List ℕ → List ℕ → List ℕ
of_file word what = word ++ (codes ": " ++ what)

-- What is said of a place in a file.
abbrev pub of_place : List ℕ → Place → List ℕ → List ℕ
of_place word place what = word ++ (codes ":" ++ (decimal place.line ++ (codes ":" ++ (decimal place.column ++ (codes ": " ++ what)))))

-- The line of a place, as it is quoted.
abbrev pub quote_of : Place → List ℕ → List ℕ
quote_of place quoted = codes "  " ++ (decimal place.line ++ (codes " | " ++ quoted))

-- Lines that name no place: the file, what is said of it, and what may help.
abbrev pub IsOfFile : List ℕ → List ℕ → Type 0
IsOfFile word text = (what : List ℕ) × ((hints : List (List ℕ)) × (text ≡ lines (of_file word what ∷ hints)))

-- Two texts show a part of the line that holds the offset, before the offset and from there. Each has the bytes there, where
-- those are a text.
abbrev pub Quotes : List ℕ → ℕ → List ℕ → List ℕ → Type 0
Quotes bytes offset before after =
    (first : ℕ) × ((last : ℕ) × ((from : ℕ) × ((to : ℕ) × (IsLineStart bytes offset first × (IsLineEnd bytes offset last
    × ((first ≤ from) × ((from ≤ offset) × ((offset ≤ to) × ((to ≤ last)
    × ((IsUtf8 (slice_range bytes from offset) → before ≡ slice_range bytes from offset)
    × (IsUtf8 (slice_range bytes offset to) → after ≡ slice_range bytes offset to)))))))))))

-- The lines that tell this of an offset: the file, the line and the column with what is said, the line quoted, and one with a
-- caret.
abbrev pub IsPlaced : List ℕ → List ℕ → List ℕ → List (List ℕ) → Type 0
IsPlaced word bytes what told =
    (offset : ℕ) × ((offset ≤ length bytes) × ((place : Place) × (IsPlace bytes offset place
    × ((before : List ℕ) × ((after : List ℕ) × (Quotes bytes offset before after
    × ((caret : List ℕ) × (told ≡ of_place word place what ∷ quote_of place (before ++ after) ∷ caret ∷ []))))))))

-- Lines that name the place of an offset, and what may help.
abbrev pub IsOfPlace : List ℕ → List ℕ → List ℕ → Type 0
IsOfPlace word bytes text =
    (what : List ℕ) × ((told : List (List ℕ)) × ((hints : List (List ℕ)) × (IsPlaced word bytes what told × (text ≡ lines (told ++ hints)))))

-- The lines that tell this of an offset are written behind others.
abbrev pub PutsPlace : List ℕ → List ℕ → List ℕ → List ℕ → List ℕ → Type 0
PutsPlace word bytes what before after =
    (told : List (List ℕ)) × (IsPlaced word bytes what told × (after ≡ before ++ lines told))

-- The lines that tell this of a file or of an offset are written behind others.
abbrev pub PutsHead : List ℕ → List ℕ → List ℕ → List ℕ → List ℕ → Type 0
PutsHead word bytes what before after = (after ≡ before ++ line (of_file word what)) ⊎ PutsPlace word bytes what before after

-- What is printed of a fault of the bytes that the word names.
abbrev pub IsHelp : List ℕ → List ℕ → List ℕ → Type 0
IsHelp word bytes text = (text ≡ []) ⊎ (IsOfFile word text ⊎ IsOfPlace word bytes text)

-- What is printed of three things that may be wrong with the bytes that the word names.
abbrev pub AreThreeHelps : List ℕ → List ℕ → List ℕ → Type 0
AreThreeHelps word bytes text =
    (first : List ℕ) × (IsHelp word bytes first × ((second : List ℕ) × (IsHelp word bytes second
    × ((third : List ℕ) × (IsHelp word bytes third × (text ≡ first ++ (second ++ third)))))))
