-- The lines that a reader gives, each without its line feed.
use Rattle.std.specs.Prelude.{◌≡◌, ◌≢◌, ◌<◌, ℕ, Bool, true, false, ◌==◌, ◌||◌, ◌&&◌, List, [], ◌∷◌, ◌++◌, Option, Some, None, if◌then◌else◌, length, refl, slice_get}

-- A byte before the lines of the bytes behind it.
abbrev pub byte_before : ℕ → List (List ℕ) → List (List ℕ)
byte_before b [] = (b ∷ []) ∷ []
byte_before b (line ∷ lines) = (b ∷ line) ∷ lines

-- The lines of a text: each ends before a line feed, and the last where the text ends, unless it is empty.
abbrev pub lines_of : List ℕ → List (List ℕ)
lines_of [] = []
lines_of (b ∷ bs) = if b == 10 then [] ∷ lines_of bs else byte_before b (lines_of bs)

-- A reader may give these bytes: those that it has left, where these are known, and none where it has come to its end.
abbrev pub MayBe : Bool → Option (List ℕ) → List ℕ → Type 0
MayBe true known bytes = bytes ≡ []
MayBe false None bytes = Unit {0}
MayBe false (Some left) bytes = bytes ≡ left

-- These bytes are left: those that were read ahead, and what the reader may give.
abbrev pub IsLeft : Bool → Option (List ℕ) → List ℕ → List ℕ → Type 0
IsLeft ended known ahead bytes = (rest : List ℕ) × (MayBe ended known rest × (bytes ≡ ahead ++ rest))

-- These lines may be given: those of the bytes that are left.
abbrev pub MayGive : Bool → Option (List ℕ) → List ℕ → List (List ℕ) → Type 0
MayGive ended known ahead lines = (bytes : List ℕ) × (IsLeft ended known ahead bytes × (lines ≡ lines_of bytes))

-- Some lines may be given.
pub some_given : (ended : Bool) (known : Option (List ℕ)) (ahead : List ℕ) → (lines : List (List ℕ)) × MayGive ended known ahead lines
some_given true known ahead = (lines_of (ahead ++ []), (ahead ++ [], (([], (refl, refl)), refl)))
some_given false None ahead = (lines_of (ahead ++ []), (ahead ++ [], (([], (tt, refl)), refl)))
some_given false (Some left) ahead = (lines_of (ahead ++ left), (ahead ++ left, ((left, (refl, refl)), refl)))

-- The first bytes have no line feed.
abbrev pub HasNoLineFeed : ℕ → List ℕ → Type 0
HasNoLineFeed n bytes = (i : ℕ) → i < n → slice_get bytes i ≢ Some 10

-- There is a line feed at a place.
abbrev pub HasLineFeedAt : ℕ → List ℕ → Type 0
HasLineFeedAt i bytes = slice_get bytes i ≡ Some 10

-- The first of the lines is longer than a line may be.
abbrev pub BeginTooLong : List (List ℕ) → Type 0
BeginTooLong [] = ⊥
BeginTooLong (line ∷ lines) = 16777216 < length line

-- Whether a byte is a blank.
abbrev pub is_blank_byte : ℕ → Bool
is_blank_byte b = b == 32 || (b == 9 || b == 13)

-- Whether a line is one of blanks.
abbrev pub is_blank : List ℕ → Bool
is_blank [] = true
is_blank (b ∷ bs) = is_blank_byte b && is_blank bs
