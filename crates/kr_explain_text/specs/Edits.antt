-- The fixes of a cause, as edits of the table's file.
use Rattle.std.specs.Prelude.{◌≡◌, ℕ, List, [], ◌∷◌, ◌++◌, Bool, true, false, ◌&&◌, Option, Some, None, MatchOption, MatchBool, if◌then◌else◌, codes, slice_get, length, ◌==◌, filter}
use Rattle.std.specs.Int.{bit_at}
use Rattle.std.specs.List.{filter_map}
use Rattle.kr_model.specs.declared.Side.{Side}
use Rattle.kr_model.specs.declared.Span.{Span}
use Rattle.kr_model.specs.Covers.{count_up}
use Rattle.kr_model.specs.ModeNames.{name_of}
use Rattle.kr_change.specs.declared.change.Change.{Change}
use Rattle.kr_change.specs.declared.change.Change.TheVariants.{Request, GhostRequest, Convert, Heir, Compatible}
use Rattle.kr_explain_causes.specs.declared.mend.Mend.{Mend}
use Rattle.kr_change.specs.ChangeNames.{ghost_row_word}
use Rattle.kr_change.specs.Changes.{mode_of}
use Rattle.kr_change.specs.Edits.{pair_edit}
use Rattle.kr_explain_text.specs.Lines.{IsParagraph}
use Rattle.kr_explain_text.specs.Lists.{modes_listed}
use Rattle.kr_model.specs.Words.{row_word, side_word, span_word}

-- The modes of the changes, in their order.
abbrev pub modes_of : List Change → List ℕ
modes_of changes = filter_map mode_of changes

-- An edit of what a row of this word requests at a side: in one of these modes, for this long.
unfoldable pub request_words : List (List ℕ) → List ℕ → Side → List ℕ → Span → List ℕ
request_words names row s modes held = codes "in [rules." ++ (row ++ (codes "], " ++ (side_word s ++ (codes ": request " ++ (modes_listed names false modes ++ (codes " for " ++ (span_word held ++ codes " duration")))))))

-- The modes of a set, which has bit m for the mode m, rising: of 15 at most.
unfoldable pub modes_in : ℕ → List ℕ
modes_in set = filter (λ m. bit_at set m == 1) (count_up 0 16)

-- An edit of a conversion: a held and a requested mode make one of these modes.
unfoldable pub convert_words : List (List ℕ) → ℕ → ℕ → List ℕ → List ℕ
convert_words names held requested modes = codes "in [convert], " ++ (name_of names held ++ (codes ": " ++ (name_of names requested ++ (codes " = " ++ modes_listed names true modes))))

-- An edit of what is inherited by who has one of the modes of a set on a ghost that is purged: one of these modes.
unfoldable pub heir_words : List (List ℕ) → ℕ → List ℕ → List ℕ
heir_words names held modes = codes "in [purge]: inherit " ++ (modes_listed names false modes ++ (codes " where the mode on the ghost is " ++ modes_listed names false (modes_in held)))

-- An edit by which a row of this word requests nothing at a side.
unfoldable pub nothing_words : List ℕ → Side → List ℕ
nothing_words row s = codes "in [rules." ++ (row ++ (codes "], " ++ (side_word s ++ codes ": request nothing")))

-- An edit to one of these modes, of the entry that a change is of. Behind a request it may say for which own modes that is.
abbrev pub IsEdit : List (List ℕ) → Change → List ℕ → List ℕ → Type 0
IsEdit names (Request r s own_next (Some (mode, held))) modes text = (owns : List ℕ) × (text ≡ request_words names (row_word r) s modes held ++ owns)
IsEdit names (Request r s own_next None) modes text = text ≡ nothing_words (row_word r) s
IsEdit names (GhostRequest r s (Some (mode, held))) modes text = text ≡ request_words names (ghost_row_word r) s modes held
IsEdit names (GhostRequest r s None) modes text = text ≡ nothing_words (ghost_row_word r) s
IsEdit names (Convert held requested mode) modes text = text ≡ convert_words names held requested modes
IsEdit names (Heir held mode) modes text = text ≡ heir_words names held modes
IsEdit names (Compatible requested held is_compatible) modes text = text ≡ pair_edit names requested held is_compatible

-- The words of a fix: how it begins, the edit, and what holds then.
abbrev pub fix_words : List ℕ → List ℕ → List ℕ → List ℕ
fix_words head edit after = head ++ (codes ": " ++ (edit ++ (codes ". " ++ after)))

-- The words of a wish for an edit, where no fix is needed.
abbrev pub wish_words : List ℕ → List ℕ → List ℕ
wish_words aim edit = codes "No fix is needed. " ++ (aim ++ (codes ": " ++ (edit ++ codes ".")))

-- A fix, which is one of these changes: how it begins, the edit, and what holds then.
pub record IsFixOf (names : List (List ℕ)) (head after : List ℕ) (first : Change) (changes : List Change) (text : List ℕ) : Type 0 where
  pub edit : List ℕ
  pub is_edit : IsEdit names first (modes_of changes) edit
  pub paragraph : IsParagraph 3 3 (fix_words head edit after) text

-- A fix, where there are changes.
abbrev pub IsFix : List (List ℕ) → List ℕ → List ℕ → List Change → List ℕ → Type 0
IsFix names head after changes text = MatchOption (slice_get changes 0) (text ≡ []) (λ first. IsFixOf names head after first changes text)

-- How a fix begins: the first one so, and any other as a choice.
abbrev pub head_of : Bool → List ℕ
head_of is_first = if is_first then codes "Fix" else codes "Or"

-- Whether there are no changes.
abbrev pub is_without : List Change → Bool
is_without changes = length changes == 0

-- The fixes of a cause that isn't harmless: with some the table is accepted, with others safe, and with others the cause's cases hold. Behind them may be a remark where there are none.
pub record AreFixes (names : List (List ℕ)) (accepted safe mended : List Change) (text : List ℕ) : Type 0 where
  pub first : List ℕ
  pub second : List ℕ
  pub third : List ℕ
  pub remark : List ℕ
  pub are_accepted : IsFix names (codes "Fix") (codes "The table is then accepted.") accepted first
  pub are_safe : IsFix names (head_of (is_without accepted)) (codes "The table is then safe.") safe second
  pub are_mended : IsFix names (head_of (is_without accepted && is_without safe)) (codes "The cases of this cause then hold.") mended third
  pub written : text ≡ first ++ (second ++ (third ++ remark))

-- Of a harmless cause that needs no fix, an edit for who wants one all the same, where there are changes.
pub record IsWishOf (names : List (List ℕ)) (aim : List ℕ) (first : Change) (changes : List Change) (text : List ℕ) : Type 0 where
  pub edit : List ℕ
  pub is_edit : IsEdit names first (modes_of changes) edit
  pub paragraph : IsParagraph 3 3 (wish_words aim edit) text

abbrev pub IsWish : List (List ℕ) → List ℕ → List Change → List ℕ → Type 0
IsWish names aim changes text = MatchOption (slice_get changes 0) (IsParagraph 3 3 (codes "No fix is needed.") text) (λ first. IsWishOf names aim first changes text)

-- What is wished for where a cause is harmless: that the table is accepted, or else safe, or else that the cause's cases hold.
abbrev pub IsWished : List (List ℕ) → Mend → List ℕ → Type 0
IsWished names mend text =
    MatchBool (is_without mend.accepted.items)
    (MatchBool (is_without mend.safe.items) (IsWish names (codes "To have its cases hold") mend.mended.items text) (IsWish names (codes "To have the table safe") mend.safe.items text))
    (IsWish names (codes "To have the table accepted") mend.accepted.items text)

-- What is written of the changes that mend a cause, harmless or not.
abbrev pub AreChanges : List (List ℕ) → Bool → Mend → List ℕ → Type 0
AreChanges names true mend text = IsWished names mend text
AreChanges names false mend text = AreFixes names mend.accepted.items mend.safe.items mend.mended.items text

-- The same where changes were tried; else it is a remark. All of it is behind an empty line.
abbrev pub IsMending : List (List ℕ) → Bool → Option Mend → List ℕ → Type 0
IsMending names is_harmless None text = (remark : List ℕ) × (text ≡ 10 ∷ remark)
IsMending names is_harmless (Some mend) text = (changes : List ℕ) × (AreChanges names is_harmless mend changes × (text ≡ 10 ∷ changes))
