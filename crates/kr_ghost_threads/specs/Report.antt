-- The report of a run with ghosts in several threads: the value that it is, and its text.
use Rattle.std.specs.Prelude.{ℕ, List, [], codes, map}
use Rattle.serde_json.specs.Data.{Data, array, object, item, no_items, member, no_members}
use Rattle.serde_json.specs.View.{items_of}
use Rattle.serde_json.specs.Written.{compact_text}
use Rattle.kr_model.specs.Map.{Map}
use Rattle.kr_judge.specs.declared.verdict.Verdict.{Verdict}
use Rattle.kr_script.specs.Json.{whole}
use Rattle.kr_script.specs.Pairs.{pairs_data}
use Rattle.kr_script.specs.Replies.{after_word, numbers_data}
use Rattle.kr_script.specs.Steps.{step_of}
use Rattle.kr_report.specs.Report.{verdict_data}
use Rattle.kr_report.specs.ThreadsReport.{faults_data}
use Rattle.kr_script.specs.declared.not_done.StepFault.{StepFault}
use Rattle.kr_ghost.specs.declared.moves.Move.{Move}
use Rattle.kr_ghost.specs.declared.moves.Move.TheVariants.{Attempt, Purge}
use Rattle.kr_ghost_report.specs.RunReport.{answer_data}
use Rattle.kr_ghost_threads.specs.declared.made.Made.{Made}

-- A move as scripts write it.
abbrev pub move_data : Move → Data
move_data (Attempt e) = step_of e
move_data (Purge k) = after_word (codes "purge") (item (whole k) no_items)

-- A move that was made, and the answer to it.
abbrev pub made_data : Made → Data
made_data m = array (item (move_data m.next) (item (answer_data m.answer) no_items))

-- The moves that were made, in their order.
abbrev pub history_data : List Made → Data
history_data history = array (items_of (map made_data history))

-- A run with ghosts in several threads: the steps that weren't done, the ghosts at its end, the moves that were made, the index and the unfinished transactions at its end, and the verdict on it.
abbrev pub ghost_threads_data : List StepFault → List ℕ → List Made → Map → List ℕ → Verdict → Data
ghost_threads_data faults ghosts history index unfinished v =
    object (member (codes "faults") (faults_data faults)
    (member (codes "ghosts") (numbers_data ghosts)
    (member (codes "history") (history_data history)
    (member (codes "index") (pairs_data index)
    (member (codes "unfinished") (numbers_data unfinished)
    (member (codes "verdict") (verdict_data v) no_members))))))

-- The text of that report.
abbrev pub ghost_threads_text : List StepFault → List ℕ → List Made → Map → List ℕ → Verdict → List ℕ
ghost_threads_text faults ghosts history index unfinished v = compact_text (ghost_threads_data faults ghosts history index unfinished v)
