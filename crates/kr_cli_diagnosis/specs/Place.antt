-- Places in a text.
use Rattle.std.specs.Prelude.{ℕ, List, Bool, ◌≡◌, ◌≢◌, ◌+◌, ◌-◌, ◌<◌, ◌≤◌, ◌==◌, ◌||◌, count_by, length, nat_lt, slice_index, slice_range, take}
use Rattle.kr_cli_diagnosis.specs.declared.place.Place.{Place}

-- Whether a byte is a line feed.
abbrev pub is_feed : ℕ → Bool
is_feed b = b == 10

-- Whether a character begins with this byte. In UTF-8 all other bytes of characters are 128 to 191.
abbrev pub begins_character : ℕ → Bool
begins_character b = nat_lt b 128 || nat_lt 191 b

-- The line that holds the offset begins there: at the start of the text or behind a line feed, and no line feed stands from
-- there to the offset.
pub record IsLineStart (text : List ℕ) (offset start : ℕ) : Type 0 where
  pub within : start ≤ offset
  pub one_line : (k : ℕ) → start ≤ k → k < offset → slice_index text k ≢ 10
  pub after_feed : 0 < start → slice_index text (start - 1) ≡ 10

-- The line that holds the offset ends there: at the end of the text or before a line feed, and no line feed stands from the
-- offset to there.
pub record IsLineEnd (text : List ℕ) (offset end : ℕ) : Type 0 where
  pub behind : offset ≤ end
  pub within : end ≤ length text
  pub one_line : (k : ℕ) → offset ≤ k → k < end → slice_index text k ≢ 10
  pub before_feed : end < length text → slice_index text end ≡ 10

-- The place of an offset. Its line is one more than the line feeds before it, and its column is one more than the characters
-- between the start of its line and it.
pub record IsPlace (text : List ℕ) (offset : ℕ) (place : Place) : Type 0 where
  pub line : place.line ≡ 1 + count_by is_feed (take offset text)
  pub column : (start : ℕ) × (IsLineStart text offset start × (place.column ≡ 1 + count_by begins_character (slice_range text start offset)))
