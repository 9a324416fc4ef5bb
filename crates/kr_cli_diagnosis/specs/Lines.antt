-- Texts on lines.
use Rattle.std.specs.Prelude.{ℕ, List, Bool, [], ◌∷◌, ◌++◌, ◌&&◌, ◌||◌, ◌==◌, false, codes, encode_utf8, if◌then◌else◌, nat_le}
use Rattle.std.specs.Char.{is_control}
use Rattle.std.specs.Fmt.{digits}
use Rattle.std.specs.List.{flat_map}
use Rattle.std.specs.Str.{chars}

-- Whether a character is one from the first to the last.
abbrev pub is_from : ℕ → ℕ → ℕ → Bool
is_from first last c = nat_le first c && nat_le c last

-- Whether a character hides, or turns what stands behind it.
abbrev pub is_hidden : ℕ → Bool
is_hidden c = is_from 0x200b 0x200f c || is_from 0x2028 0x202e c || is_from 0x2060 0x2069 c || (c == 0xfeff)

-- How a character stands in a line: a control or hidden character as its number in hexadecimal digits, as `\u{a}`.
abbrev pub shown : ℕ → List ℕ
shown c = if is_control c || is_hidden c then codes "\\u{" ++ (digits 16 false c ++ codes "}") else encode_utf8 c

-- How a text stands in a line.
abbrev pub on_one_line : List ℕ → List ℕ
on_one_line text = flat_map shown (chars text)

-- A line with its line feed.
abbrev pub line : List ℕ → List ℕ
line text = on_one_line text ++ (10 ∷ [])

-- Lines, one below the other.
abbrev pub lines : List (List ℕ) → List ℕ
lines texts = flat_map line texts
