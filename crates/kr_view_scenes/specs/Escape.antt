-- How a text stands in a page, and how it reads there, character by character.
use Rattle.std.specs.Prelude.{ℕ, List, [], ◌∷◌, ◌++◌, Bool, ◌||◌, ◌==◌, Option, Some, None, option_map, if◌then◌else◌, codes, flat_map}
use Rattle.std.specs.Str.{bytes_eq}

-- A byte of a text as it stands in a page: `<`, `>`, `&` and both quotes are entities.
abbrev pub escaped_byte : ℕ → List ℕ
escaped_byte b =
    if b == 60 then codes "&lt;"
    else if b == 62 then codes "&gt;"
    else if b == 38 then codes "&amp;"
    else if b == 34 then codes "&quot;"
    else if b == 39 then codes "&#39;"
    else b ∷ []

-- A text as it stands in a page.
abbrev pub escaped : List ℕ → List ℕ
escaped text = flat_map escaped_byte text

-- Whether a character never stands in a text as it is: `<`, `>` and both quotes. `&` begins an entity.
abbrev pub is_mark : ℕ → Bool
is_mark c = (c == 60) || ((c == 62) || ((c == 34) || (c == 39)))

-- The character that an entity stands for, by what is between its `&` and its `;`.
abbrev pub character_of : List ℕ → Option ℕ
character_of name =
    if bytes_eq name (codes "lt") then Some 60
    else if bytes_eq name (codes "gt") then Some 62
    else if bytes_eq name (codes "amp") then Some 38
    else if bytes_eq name (codes "quot") then Some 34
    else if bytes_eq name (codes "#39") then Some 39
    else None

-- A character, if there is one, before a text, if there is one.
abbrev pub before_text : Option ℕ → Option (List ℕ) → Option (List ℕ)
before_text None text = None
before_text (Some c) text = option_map (λ t. c ∷ t) text

-- What the characters of a page read as, inside an entity of which these have come, or outside of any. They read as nothing
-- where there is a mark, an entity that isn't one, or one that has no end.
abbrev pub read : Option (List ℕ) → List ℕ → Option (List ℕ)
read None [] = Some []
read (Some name) [] = None
read None (c ∷ cs) = if c == 38 then read (Some []) cs else if is_mark c then None else option_map (λ t. c ∷ t) (read None cs)
read (Some name) (c ∷ cs) = if c == 59 then before_text (character_of name) (read None cs) else read (Some (name ++ c ∷ [])) cs

-- What the characters of a text of a page read as.
abbrev pub unescaped : List ℕ → Option (List ℕ)
unescaped page = read None page
