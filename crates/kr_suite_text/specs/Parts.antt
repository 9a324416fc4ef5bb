-- A part of a suite, as lines of a trace.
use Rattle.std.specs.Prelude.{ℕ, List, [], ◌∷◌, ◌++◌, codes, map, if◌then◌else◌}
use Rattle.serde_json.specs.Data.{array, string}
use Rattle.serde_json.specs.View.{items_of}
use Rattle.serde_json.specs.Written.{compact_text}
use Rattle.kr_model.specs.declared.Event.{Event}
use Rattle.kr_model.specs.declared.Reply.{Reply}
use Rattle.kr_model.specs.Map.{Map}
use Rattle.kr_model.specs.Run.{is_granted}
use Rattle.kr_script.specs.Pairs.{pairs_data}
use Rattle.kr_script.specs.Replies.{reply_data}
use Rattle.kr_script.specs.Steps.{step_of}

-- The head of a part: the index with which it begins, and what it tests.
abbrev pub head_text : Map → List (List ℕ) → List ℕ
head_text opening tests =
    codes "{\"format\":1,\"opening\":" ++ (compact_text (pairs_data opening) ++ (codes ",\"tests\":" ++ (compact_text (array (items_of (map string tests))) ++ codes "}\n")))

-- A step with its reply.
abbrev pub line_text : Event → Reply → List ℕ
line_text e r = codes "[" ++ (compact_text (step_of e) ++ (codes "," ++ (compact_text (reply_data r) ++ codes "]\n")))

-- Steps with their replies, up to the first that isn't granted.
abbrev pub lines_text : List Event → List Reply → List ℕ
lines_text (e ∷ es) (r ∷ rs) = line_text e r ++ (if is_granted r then lines_text es rs else [])
lines_text _ _ = []

-- A part: its head, and its steps with their replies.
abbrev pub part_text : Map → List (List ℕ) → List Event → List Reply → List ℕ
part_text opening tests events replies = head_text opening tests ++ lines_text events replies
