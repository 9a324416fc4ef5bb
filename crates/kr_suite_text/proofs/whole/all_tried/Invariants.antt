-- the scripts so far are written
use Rattle.std.proofs.Common.{◌≡◌, flat_map, take, string_bytes}
use Rattle.kr_suite_text.specs.Habits.{all_habits}
use Rattle.kr_suite_text.specs.Whole.{tried_text}
use Rattle.kr_suite_text.proofs.whole.all_tried.Given as goal

abbrev pub invariant-loop-habit : goal.invariant-loop-habit
invariant-loop-habit g l = string_bytes l.out ≡ flat_map (tried_text (g.P.IndexProtocol.index l.protocol)) (take l.habit-index all_habits)
