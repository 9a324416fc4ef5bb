-- The text of a suite, and what it says of the changes that no script tells apart.
use Rattle.std.specs.Prelude.{ℕ, List, [], ◌∷◌, ◌++◌, ◌+◌, ◌-◌, ◌^◌, Bool, false, not, Option, Some, None, codes, decimal, flat_map, length, map, min, if◌then◌else◌}
use Rattle.kr_model.specs.Protocol.{Protocol}
use Rattle.kr_kinds.specs.Kinds.{IndexProtocol, leaves_ghosts, table_of}
use Rattle.kr_decide.specs.declared.survey.Survey.{Survey}
use Rattle.kr_decide.specs.Survey.{is_asked, is_tested}
use Rattle.kr_change.specs.declared.change.Change.{Change}
use Rattle.kr_change.specs.declared.change.Change.TheVariants.{Request, GhostRequest, Convert, Heir, Compatible}
use Rattle.kr_change.specs.GhostEvery.{index_changes_of}
use Rattle.kr_apart.specs.Apart.{replies_under}
use Rattle.kr_suite_core.specs.declared.classes.Suite.{Suite}
use Rattle.kr_suite_core.specs.declared.tested.Tested.{Tested}
use Rattle.kr_suite_text.specs.declared.habits.Habit.{Habit}
use Rattle.kr_suite_text.specs.declared.left.Verdict.{Verdict}
use Rattle.kr_suite_text.specs.declared.left.Verdict.TheVariants.{Alike, Left}
use Rattle.kr_change.specs.ChangeNames.{change_words}
use Rattle.kr_suite_text.specs.Habits.{all_habits, habit_steps, habit_words, is_tried, opening}
use Rattle.kr_suite_text.specs.Parts.{part_text}

-- The suite --

-- A part that tells changes of p apart, which it names.
abbrev pub tested_text : Protocol → List (List ℕ) → Tested → List ℕ
tested_text p names t = part_text t.opening.items (map (change_words p names) t.tells.items) t.events.items t.replies.items

-- The script of a habit, run under p; no purge comes between its steps.
abbrev pub habit_text : IndexProtocol → Habit → List ℕ
habit_text p h = part_text opening (habit_words h ∷ []) (habit_steps h) (replies_under p opening (habit_steps h))

-- The same, where the script is tried.
abbrev pub tried_text : IndexProtocol → Habit → List ℕ
tried_text p h = if is_tried h (table_of p).updates (leaves_ghosts p) then habit_text p h else []

-- Parts that tell changes apart.
abbrev pub all_tested : Protocol → List (List ℕ) → List Tested → List ℕ
all_tested p names parts = flat_map (tested_text p names) parts

-- The scripts of habits that are tried.
abbrev pub all_tried : IndexProtocol → List ℕ
all_tried p = flat_map (tried_text p) all_habits

-- The parts that tell changes apart, and then the scripts of habits.
abbrev pub suite_text : IndexProtocol → List (List ℕ) → Suite → List ℕ
suite_text p names s = all_tested (table_of p) names s.parts.items ++ all_tried p

-- What is left --

-- No schedule comes to the entry: no request is tested for these two modes, or none who holds the one requests the other. Of requests and heirs the survey says nothing.
abbrev pub is_unsurveyed : Survey → Change → Bool
is_unsurveyed s (Compatible requested held is_compatible) = not (is_tested s requested held)
is_unsurveyed s (Convert held requested mode) = not (is_asked s held requested)
is_unsurveyed s (Request row side own_next request) = false
is_unsurveyed s (GhostRequest row side request) = false
is_unsurveyed s (Heir held mode) = false

-- The same by a survey, if there is one.
abbrev pub is_unreached : Option Survey → Change → Bool
is_unreached (Some s) c = is_unsurveyed s c
is_unreached None c = false

-- Why the replies of each schedule are the same with a change.
abbrev pub why_words : Option Survey → Change → List ℕ
why_words s c = if is_unreached s c then codes ". No schedule comes to it." else codes ". No reply differs."

-- What is said of a change before its name.
abbrev pub verdict_word : Verdict → List ℕ
verdict_word Alike = codes "alike"
verdict_word Left = codes "left"

-- And behind it.
abbrev pub verdict_end : Option Survey → Verdict → Change → List ℕ
verdict_end s Alike c = why_words s c
verdict_end s Left c = []

-- A change that no part tells apart, on a line.
abbrev pub change_line : Protocol → List (List ℕ) → Option Survey → Verdict → Change → List ℕ
change_line p names s v c = verdict_word v ++ (codes ": " ++ (change_words p names c ++ (verdict_end s v c ++ codes "\n")))

-- Changes, each on a line.
abbrev pub change_lines : Protocol → List (List ℕ) → Option Survey → Verdict → List Change → List ℕ
change_lines p names s v changes = flat_map (change_line p names s v) changes

-- How many steps parts have, on from n; at most the greatest number of 64 bits.
abbrev pub steps_from : ℕ → List Tested → ℕ
steps_from n [] = n
steps_from n (t ∷ ts) = steps_from (min (n + length t.events.items) (2 ^ 64 - 1)) ts

-- How many changes parts tell apart: all that are neither alike nor left.
abbrev pub told_count : IndexProtocol → Suite → ℕ
told_count p s = length (index_changes_of p) - length s.alike.items - length s.left.items

-- How many entries with another value there are, and how many of them the parts tell apart.
abbrev pub told_words : IndexProtocol → Suite → List ℕ
told_words p s = decimal (length (index_changes_of p)) ++ (codes " entries with another value: " ++ (decimal (told_count p s) ++ codes " told apart by "))

-- How many parts there are, and how many steps they have.
abbrev pub parts_words : Suite → List ℕ
parts_words s = decimal (length s.parts.items) ++ (codes " parts of " ++ (decimal (steps_from 0 s.parts.items) ++ codes " steps, "))

-- How many changes are alike, and how many are left.
abbrev pub rest_words : Suite → List ℕ
rest_words s = decimal (length s.alike.items) ++ (codes " alike, " ++ (decimal (length s.left.items) ++ codes " left\n"))

-- How many changes there are of each kind.
abbrev pub counts_words : IndexProtocol → Suite → List ℕ
counts_words p s = told_words p s ++ (parts_words s ++ rest_words s)

-- The changes that are alike, each with why, those that are left, and how many there are of each kind.
abbrev pub left_text : IndexProtocol → List (List ℕ) → Suite → Option Survey → List ℕ
left_text p names s survey = change_lines (table_of p) names survey Alike s.alike.items ++ (change_lines (table_of p) names survey Left s.left.items ++ counts_words p s)
