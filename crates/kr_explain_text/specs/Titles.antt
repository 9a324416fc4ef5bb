-- The title of a cause.
use Rattle.std.specs.Prelude.{◌≡◌, ℕ, List, [], ◌∷◌, ◌++◌, ◌==◌, Bool, Option, Some, None, if◌then◌else◌, codes, decimal, count_by, length}
use Rattle.std.specs.List.{filter_map}
use Rattle.kr_model.specs.declared.FailedCase.{FailedCase}
use Rattle.kr_model.specs.declared.Row.{Row}
use Rattle.kr_model.specs.declared.Rule.{Rule}
use Rattle.kr_model.specs.declared.Rule.TheVariants as rule
use Rattle.kr_model.specs.declared.Side.{Side}
use Rattle.kr_model.specs.declared.Span.{Span}
use Rattle.kr_model.specs.declared.Span.TheVariants as span
use Rattle.kr_model.specs.ModeNames.{name_of}
use Rattle.kr_model.specs.Protocol.{Protocol}
use Rattle.kr_explain_causes.specs.declared.blame.Blame.{Blame}
use Rattle.kr_explain_causes.specs.declared.blame.Blame.TheVariants as blame
use Rattle.kr_explain_causes.specs.declared.cause.Cause.{Cause}
use Rattle.kr_explain_text.specs.Lines.{IsParagraph}
use Rattle.kr_model.specs.Words.{row_word, rule_code, rule_number}
use Rattle.kr_protocol.specs.Asking.{asked_at, converted_at}
use Rattle.kr_explain_text.specs.Words.{side_words}

-- Texts, each behind a comma and a blank.
abbrev pub behind_commas : List (List ℕ) → List ℕ
behind_commas [] = []
behind_commas (x ∷ xs) = codes ", " ++ (x ++ behind_commas xs)

-- Texts with commas between.
abbrev pub with_commas : List (List ℕ) → List ℕ
with_commas [] = []
with_commas (x ∷ xs) = x ++ behind_commas xs

-- The groups of cases, in their order.
abbrev pub all_groups : List Rule
all_groups = rule.Conversion ∷ rule.FetchHit ∷ rule.FetchMiss ∷ rule.ScanKey ∷ rule.ScanStop ∷ rule.Insert ∷ rule.Split ∷ rule.Delete ∷ rule.Update ∷ []

-- How many of the cases are of a group.
abbrev pub count_of : List FailedCase → Rule → ℕ
count_of cases r = count_by (λ f. rule_number f.case == rule_number r) cases

-- A group, and how many of the cases are of it; nothing where none is.
abbrev pub group_of : List FailedCase → Rule → Option (List ℕ)
group_of cases r = if count_of cases r == 0 then None else Some (rule_code r ++ (codes ": " ++ decimal (count_of cases r)))

-- A group with this code of so many cases, behind a comma unless it is the first; nothing where there are none.
abbrev pub counted_words : Bool → List ℕ → ℕ → List ℕ
counted_words is_first code n = if n == 0 then [] else if is_first then code ++ (codes ": " ++ decimal n) else codes ", " ++ (code ++ (codes ": " ++ decimal n))

-- The same of a group.
abbrev pub group_behind : Bool → Rule → ℕ → List ℕ
group_behind is_first r n = counted_words is_first (rule_code r) n

-- One case, or many.
abbrev pub cases_word : ℕ → List ℕ
cases_word n = if n == 1 then codes " case" else codes " cases"

-- How many of the cases are of each group, in the order of the groups.
unfoldable pub counts_of : List FailedCase → List ℕ
counts_of cases = with_commas (filter_map (group_of cases) all_groups)

-- The same, with the word for so many cases.
unfoldable pub groups_of : List FailedCase → List ℕ
groups_of cases = counts_of cases ++ cases_word (length cases)

-- A request that conflicts with no lock.
abbrev pub place_words : List (List ℕ) → Row → Side → Option (ℕ × Span) → List ℕ
place_words names r s None = codes "`" ++ (row_word r ++ (codes "` requests no lock on " ++ (side_words s ++ codes ".")))
place_words names r s (Some (mode, held)) = codes "`" ++ (row_word r ++ (codes "` requests " ++ (name_of names mode ++ (codes " on " ++ (side_words s ++ codes ", which conflicts with no mode.")))))

-- A request that is too weak, or whose lock is released too early.
abbrev pub request_words : List (List ℕ) → Row → Side → Option (ℕ × Span) → List ℕ
request_words names r s None = codes "`" ++ (row_word r ++ (codes "` requests no lock on " ++ (side_words s ++ codes ".")))
request_words names r s (Some (mode, span.Instant)) = codes "`" ++ (row_word r ++ (codes "` releases its lock on " ++ (side_words s ++ codes " too early.")))
request_words names r s (Some (mode, span.Commit)) = codes "`" ++ (row_word r ++ (codes "` requests too weak a lock on " ++ (side_words s ++ (codes ": " ++ (name_of names mode ++ codes ".")))))

-- What is to blame, in words.
abbrev pub blame_words : Protocol → List (List ℕ) → Blame → List ℕ
blame_words p names (blame.Place r s) = place_words names r s (asked_at p r s 0)
blame_words p names (blame.Request r s asked) = request_words names r s asked
blame_words p names (blame.Conversion held requested) = name_of names held ++ (codes " held and " ++ (name_of names requested ++ (codes " requested convert to " ++ (name_of names (converted_at p held requested) ++ codes ", a weaker mode."))))
blame_words p names (blame.Pair requested held) = codes "Requested " ++ (name_of names requested ++ (codes " is compatible with held " ++ (name_of names held ++ codes ".")))

-- The title of the cause of a number: the number and a point, what is to blame, and how many of its cases are of each group.
abbrev pub title_words : Protocol → List (List ℕ) → ℕ → Cause → List ℕ
title_words p names n cause = decimal n ++ (codes ". " ++ (blame_words p names cause.blame ++ (codes " [" ++ (groups_of cause.cases.items ++ codes "]"))))

-- The title as it is written, behind an empty line.
pub record IsTitle (p : Protocol) (names : List (List ℕ)) (n : ℕ) (cause : Cause) (text : List ℕ) : Type 0 where
  pub paragraph : List ℕ
  pub is_paragraph : IsParagraph 0 3 (title_words p names n cause) paragraph
  pub written : text ≡ 10 ∷ paragraph
