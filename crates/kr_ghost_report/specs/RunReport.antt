-- The report of a run with ghosts: the value that it is, and its text.
use Rattle.std.specs.Prelude.{List, ℕ, true, false, codes, map}
use Rattle.serde_json.specs.Data.{Data, array, object, no_items, member, no_members}
use Rattle.serde_json.specs.View.{items_of}
use Rattle.serde_json.specs.Written.{compact_text}
use Rattle.kr_model.specs.Locks.{Locks}
use Rattle.kr_model.specs.Map.{Map}
use Rattle.kr_judge.specs.declared.verdict.Verdict.{Verdict}
use Rattle.kr_script.specs.Pairs.{pairs_data}
use Rattle.kr_script.specs.Replies.{after_word, numbers_data, reply_data}
use Rattle.kr_report.specs.Report.{locks_data, verdict_data}
use Rattle.kr_ghost_run.specs.declared.ran.Answer.{Answer}
use Rattle.kr_ghost_run.specs.declared.ran.Answer.TheVariants.{Step, Purge}

-- The answer to a move: the reply to a step; or that a ghost was purged, or that nothing was.
abbrev pub answer_data : Answer → Data
answer_data (Step r) = reply_data r
answer_data (Purge true) = after_word (codes "purged") no_items
answer_data (Purge false) = after_word (codes "kept") no_items

-- Answers, in their order.
abbrev pub answers_data : List Answer → Data
answers_data answers = array (items_of (map answer_data answers))

-- A run, where the modes have these names: the ghosts, the index and the locks at its end, the answers to its moves, the transactions that are unfinished, and the verdict on it.
abbrev pub ghost_run_data : List (List ℕ) → List ℕ → Map → Locks → List Answer → List ℕ → Verdict → Data
ghost_run_data names ghosts index locks answers unfinished v =
    object (member (codes "ghosts") (numbers_data ghosts)
    (member (codes "index") (pairs_data index)
    (member (codes "locks") (locks_data names locks)
    (member (codes "replies") (answers_data answers)
    (member (codes "unfinished") (numbers_data unfinished)
    (member (codes "verdict") (verdict_data v) no_members))))))

-- The text of a run's report.
abbrev pub ghost_run_text : List (List ℕ) → List ℕ → Map → Locks → List Answer → List ℕ → Verdict → List ℕ
ghost_run_text names ghosts index locks answers unfinished v = compact_text (ghost_run_data names ghosts index locks answers unfinished v)
