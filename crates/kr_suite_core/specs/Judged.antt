-- Changes of which it is known whether they are alike, and what becomes of them.
use Rattle.std.specs.Prelude.{Bool, IsTrue, List, Option, Some, None, map, if◌then◌else◌}
use Rattle.std.specs.List.{list_any}
use Rattle.kr_kinds.specs.Kinds.{IndexProtocol}
use Rattle.kr_change.specs.declared.change.Change.{Change}
use Rattle.kr_change.specs.GhostChanges.{changed_index}
use Rattle.kr_suite_core.specs.Alike.{AlikeIndexes}
use Rattle.kr_suite_core.specs.Equal.{is_equal}
use Rattle.kr_suite_core.specs.declared.judged.Judged.{Judged}
use Rattle.kr_suite_core.specs.declared.tested.Tested.{Tested}

-- What is said to be alike is.
abbrev pub IsJudged : IndexProtocol → Judged → Type 0
IsJudged p j = IsTrue j.is_alike → AlikeIndexes p (changed_index p j.change)

-- The changes.
abbrev pub changes_in : List Judged → List Change
changes_in js = map (λ j. j.change) js

-- The change, if it is alike.
abbrev pub alike_of : Judged → Option Change
alike_of j = if j.is_alike then Some j.change else None

-- The change, if it isn't.
abbrev pub other_of : Judged → Option Change
other_of j = if j.is_alike then None else Some j.change

-- Whether a part names the change.
abbrev pub is_named : Tested → Change → Bool
is_named t c = list_any (is_equal c) t.tells.items

-- Whether some part does.
abbrev pub is_told : List Tested → Change → Bool
is_told parts c = list_any (λ t. is_named t c) parts

-- The change, if it isn't alike and no part names it.
abbrev pub left_of : List Tested → Judged → Option Change
left_of parts j = if j.is_alike then None else if is_told parts j.change then None else Some j.change
