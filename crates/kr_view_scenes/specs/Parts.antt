-- What a page is made of: marks, numbers and escaped texts.
use Rattle.std.specs.Prelude.{◌≡◌, ℕ, List, decimal, flat_map}
use Rattle.kr_view_scenes.specs.declared.part.Part.{Part}
use Rattle.kr_view_scenes.specs.declared.part.Part.TheVariants as part
use Rattle.kr_view_scenes.specs.Escape.{escaped}
use Rattle.kr_view_scenes.specs.Marks.{mark_bytes}

-- A part as it stands in a page: a number in decimal digits, and a text escaped.
abbrev pub part_bytes : Part → List ℕ
part_bytes (part.Mark m) = mark_bytes m
part_bytes (part.Number n) = decimal n
part_bytes (part.Text t) = escaped t.now

-- The parts, one behind the other.
abbrev pub parts_bytes : List Part → List ℕ
parts_bytes parts = flat_map part_bytes parts

-- These bytes are made of parts alone. So no text and no number in them has a mark of HTML: `<`, `>`, a quote, or `&` but in an entity.
abbrev pub IsMadeOfParts : List ℕ → Type 0
IsMadeOfParts bytes = ∥ ((parts : List Part) × (bytes ≡ parts_bytes parts)) ∥₁
