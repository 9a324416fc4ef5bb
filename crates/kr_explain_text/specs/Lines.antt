-- How a text is written in lines.
use Rattle.std.specs.Prelude.{◌≡◌, ◌⊎◌, ◌++◌, [], ◌∷◌, ℕ, List, Bool, true, false, replicate}

-- So many blanks.
abbrev pub blanks : ℕ → List ℕ
blanks n = replicate n 32

-- The lines of a text: some of its blanks give way to a line feed and so many blanks, and all else is as it is.
abbrev pub AreLines : ℕ → List ℕ → List ℕ → Type 0
AreLines hang [] lines = lines ≡ []
AreLines hang (c ∷ text) lines =
    (rest : List ℕ) × (AreLines hang text rest × ((lines ≡ c ∷ rest) ⊎ ((c ≡ 32) × (lines ≡ 10 ∷ (blanks hang ++ rest)))))

-- A paragraph of a text: behind a line feed, the lines of the text, the first behind so many blanks, and the others behind so many.
pub record IsParagraph (indent hang : ℕ) (text paragraph : List ℕ) : Type 0 where
  pub lines : List ℕ
  pub are_lines : AreLines hang text lines
  pub written : paragraph ≡ 10 ∷ (blanks indent ++ lines)

-- What comes before a word in lines: nothing before the first, and before another a blank, or a line feed and so many blanks.
abbrev pub IsGap : ℕ → Bool → List ℕ → Type 0
IsGap hang true gap = gap ≡ []
IsGap hang false gap = (gap ≡ 32 ∷ []) ⊎ (gap ≡ 10 ∷ blanks hang)

-- A text was written behind what was there: one of which this holds.
abbrev pub Adds : (List ℕ → Type 0) → List ℕ → List ℕ → Type 0
Adds Is old new = (text : List ℕ) × (Is text × (new ≡ old ++ text))
