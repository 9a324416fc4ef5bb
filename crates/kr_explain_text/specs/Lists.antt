-- Lists of words.
use Rattle.std.specs.Prelude.{ℕ, List, [], ◌∷◌, ◌++◌, Bool, true, false, codes, map}
use Rattle.kr_model.specs.ModeNames.{name_of}

-- Texts behind the first of a list: a comma before each, and a word before the last in place of the comma.
abbrev pub others_listed : List ℕ → List (List ℕ) → List ℕ
others_listed last [] = []
others_listed last (x ∷ []) = codes " " ++ (last ++ (codes " " ++ x))
others_listed last (x ∷ y ∷ xs) = codes ", " ++ (x ++ others_listed last (y ∷ xs))

-- Texts with commas between, and before the last a word in place of the comma.
abbrev pub listed : List ℕ → List (List ℕ) → List ℕ
listed last [] = []
listed last (x ∷ xs) = x ++ others_listed last xs

-- The name of a mode, in quotes or not.
abbrev pub mode_word : List (List ℕ) → Bool → ℕ → List ℕ
mode_word names true m = codes "\"" ++ (name_of names m ++ codes "\"")
mode_word names false m = name_of names m

-- The names of modes, as a choice.
unfoldable pub modes_listed : List (List ℕ) → Bool → List ℕ → List ℕ
modes_listed names quoted modes = listed (codes "or") (map (mode_word names quoted) modes)

-- An item of a list, with what comes before it.
abbrev pub item_words : Bool → Bool → List ℕ → List ℕ
item_words true is_last x = x
item_words false true x = codes " or " ++ x
item_words false false x = codes ", " ++ x
