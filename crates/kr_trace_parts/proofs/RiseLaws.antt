-- The keys of an opening that is read rise.
use Rattle.std.specs.Prelude.{◌≡◌, ℕ, List, Ok}
use Rattle.kr_trace_lines.specs.Lines.{TraceLine, head, step, order}
use Rattle.kr_trace_lines.specs.Reading.{reading_line, RisesIn as RisesWhereRead}
use Rattle.kr_trace_lines.proofs.RiseLaws as lines
use Rattle.kr_trace_parts.specs.Reading.{RisesIn}

rises : (l : TraceLine) → RisesWhereRead l → RisesIn l
rises (head opening tests) h = h
rises (step e o) h = tt
rises (order ts) h = tt

-- The keys of the opening of a head that is read rise.
pub reading_rises : (bytes : List ℕ) (l : TraceLine) → reading_line bytes ≡ Ok l → RisesIn l
reading_rises bytes l is = rises l (lines.reading_rises bytes l is)
