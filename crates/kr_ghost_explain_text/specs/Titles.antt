-- The title of a cause of a table with ghosts.
use Rattle.std.specs.Prelude.{ℕ, List, [], ◌∷◌, ◌++◌, ◌==◌, ◌&&◌, Bool, true, Option, Some, None, if◌then◌else◌, codes, decimal, count_by, length}
use Rattle.kr_model.specs.declared.Span.{Span}
use Rattle.kr_model.specs.declared.Span.TheVariants as span
use Rattle.kr_model.specs.ModeNames.{name_of}
use Rattle.kr_ghost.specs.declared.cases.Rule.{Rule}
use Rattle.kr_ghost.specs.declared.cases.Rule.TheVariants as rule
use Rattle.kr_ghost.specs.declared.cases.FailedCase.{FailedCase}
use Rattle.kr_ghost.specs.Words.{access_words, rule_code}
use Rattle.kr_ghost_explain.specs.declared.blame.GhostBlame.{GhostBlame}
use Rattle.kr_ghost_explain.specs.declared.blame.GhostBlame.TheVariants as blame
use Rattle.kr_ghost_explain.specs.declared.causes.GhostCause.{GhostCause}
use Rattle.kr_explain_text.specs.Titles.{cases_word, counted_words}
use Rattle.kr_ghost_explain_text.specs.Words.{access_side, rule_number, row_words, side_words}

-- The groups of cases, in their order.
abbrev pub all_groups : List Rule
all_groups = rule.Conversion ∷ rule.FetchHit ∷ rule.FetchMiss ∷ rule.ScanName ∷ rule.ScanStop ∷ rule.Insert ∷ rule.Split ∷ rule.Delete ∷ rule.Update ∷ rule.Revive ∷ rule.Heir
    ∷ rule.InsertHit ∷ rule.DeleteMiss ∷ rule.UpdateMiss ∷ []

-- How many of the cases are of a group.
abbrev pub count_of : List FailedCase → Rule → ℕ
count_of cases r = count_by (λ f. rule_number f.case == rule_number r) cases

-- A group of so many cases, behind a comma unless it is the first; nothing where there are none.
abbrev pub group_words : Bool → Rule → ℕ → List ℕ
group_words is_first r n = counted_words is_first (rule_code r) n

-- How many of the cases are of each of these groups, in their order, the first with no comma where none came before.
abbrev pub counts_from : Bool → List Rule → List FailedCase → List ℕ
counts_from is_first [] cases = []
counts_from is_first (r ∷ rs) cases = group_words is_first r (count_of cases r) ++ counts_from (is_first && (count_of cases r == 0)) rs cases

-- How many of the cases are of each group, in the order of the groups, with the word for so many cases.
unfoldable pub groups_of : List FailedCase → List ℕ
groups_of cases = counts_from true all_groups cases ++ cases_word (length cases)

-- What a row requests that is too weak, released too early, or nothing.
abbrev pub request_words : List (List ℕ) → Rule → Option (ℕ × Span) → List ℕ
request_words names r None = codes "`" ++ (row_words r ++ (codes "` requests no lock on " ++ (side_words r ++ codes ".")))
request_words names r (Some (mode, span.Instant)) = codes "`" ++ (row_words r ++ (codes "` releases its lock on " ++ (side_words r ++ codes " too early.")))
request_words names r (Some (mode, span.Commit)) = codes "`" ++ (row_words r ++ (codes "` requests too weak a lock on " ++ (side_words r ++ (codes ": " ++ (name_of names mode ++ codes ".")))))

-- What is to blame, in words.
abbrev pub blame_words : List (List ℕ) → GhostBlame → List ℕ
blame_words names (blame.Void a) = codes "`" ++ ((access_words a).0 ++ (codes "` requests no lock on " ++ (access_side a ++ codes ".")))
blame_words names (blame.Request r asked) = request_words names r asked
blame_words names (blame.NewKey m) = if m == 0 then codes "`insert` keeps no lock on its new key." else codes "`insert` requests too weak a lock on its new key: " ++ (name_of names m ++ codes ".")
blame_words names (blame.Heir m) = if m == 0 then codes "A purge leaves no lock on the next name for one on its ghost." else codes "A purge leaves too weak a lock on the next name: " ++ (name_of names m ++ codes ".")
blame_words names (blame.Conversion held requested made) = name_of names held ++ (codes " held and " ++ (name_of names requested ++ (codes " requested convert to " ++ (name_of names made ++ codes ", a weaker mode."))))
blame_words names (blame.Pair requested held) = codes "Requested " ++ (name_of names requested ++ (codes " is compatible with held " ++ (name_of names held ++ codes ".")))

-- The title of the cause of a number: the number and a point, what is to blame, and how many of its cases are of each group.
abbrev pub title_words : List (List ℕ) → ℕ → GhostCause → List ℕ
title_words names n c = decimal n ++ (codes ". " ++ (blame_words names c.blame ++ (codes " [" ++ (groups_of c.cases.items ++ codes "]"))))
