-- The report of a run in several threads: the value that it is, and its text.
use Rattle.std.specs.Prelude.{ℕ, List, codes, map}
use Rattle.serde_json.specs.Data.{Data, array, object, item, no_items, member, no_members}
use Rattle.serde_json.specs.View.{items_of}
use Rattle.serde_json.specs.Written.{compact_text}
use Rattle.kr_model.specs.Map.{Map}
use Rattle.kr_judge.specs.declared.verdict.Verdict.{Verdict}
use Rattle.kr_script.specs.declared.not_done.WhyNotDone.{WhyNotDone}
use Rattle.kr_script.specs.declared.not_done.WhyNotDone.TheVariants.{Deadlock, Refused}
use Rattle.kr_script.specs.declared.not_done.StepFault.{StepFault}
use Rattle.kr_report.specs.declared.threaded.Answered.{Answered}
use Rattle.kr_script.specs.Json.{whole}
use Rattle.kr_script.specs.Steps.{step_of}
use Rattle.kr_script.specs.Pairs.{pairs_data}
use Rattle.kr_report.specs.Report.{after_word, numbers_data, reply_data, verdict_data}

-- A step that was done, as scripts write it, and its reply.
abbrev pub answered_data : Answered → Data
answered_data a = array (item (step_of a.event) (item (reply_data a.reply) no_items))

-- The steps that were done, in their order.
abbrev pub history_data : List Answered → Data
history_data done = array (items_of (map answered_data done))

-- Why a step wasn't done: the transactions of a deadlock, in their order, or the reply that refused it.
abbrev pub cause_data : WhyNotDone → Data
cause_data (Deadlock txns) = after_word (codes "deadlock") (item (numbers_data txns) no_items)
cause_data (Refused reply) = reply_data reply

-- A step that wasn't done: whose, its number, and why.
abbrev pub fault_data : StepFault → Data
fault_data f = array (item (whole f.txn) (item (whole f.step) (item (cause_data f.cause) no_items)))

-- The steps that weren't done, in their order.
abbrev pub faults_data : List StepFault → Data
faults_data fs = array (items_of (map fault_data fs))

-- A run in several threads: the steps that weren't done, those that were, the index and the unfinished transactions at its end, and the verdict on it.
abbrev pub threads_data : List StepFault → List Answered → Map → List ℕ → Verdict → Data
threads_data faults history index unfinished v =
    object (member (codes "faults") (faults_data faults)
    (member (codes "history") (history_data history)
    (member (codes "index") (pairs_data index)
    (member (codes "unfinished") (numbers_data unfinished)
    (member (codes "verdict") (verdict_data v) no_members)))))

-- The text of that report.
abbrev pub threads_text : List StepFault → List Answered → Map → List ℕ → Verdict → List ℕ
threads_text faults history index unfinished v = compact_text (threads_data faults history index unfinished v)
