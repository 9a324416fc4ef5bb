-- The reports of a run and of a verdict: the value that each is, and its text.
use Rattle.std.specs.Prelude.{ℕ, List, codes, map}
use Rattle.serde_json.specs.Data.{Data, string, array, object, item, no_items, member, no_members}
use Rattle.serde_json.specs.View.{items_of}
use Rattle.serde_json.specs.Written.{compact_text}
use Rattle.kr_model.specs.declared.Reply.{Reply}
use Rattle.kr_model.specs.Map.{Map}
use Rattle.kr_model.specs.Locks.{Lock, Locks, name_locked, holder_of, mode_held}
use Rattle.kr_model.specs.ModeNames.{name_of}
use Rattle.kr_judge.specs.declared.verdict.Verdict.{Verdict}
use Rattle.kr_judge.specs.declared.verdict.Verdict.TheVariants as verdict
use Rattle.kr_script.specs.Json.{whole}
use Rattle.kr_script.specs.Pairs.{pairs_data}
pub use Rattle.kr_script.specs.Replies.{after_word, numbers_data, refusal_name, reply_data, name_data}

-- Replies, in their order.
abbrev pub replies_data : List Reply → Data
replies_data rs = array (items_of (map reply_data rs))

-- A lock: its name, its holder, and the name of its mode.
abbrev pub lock_data : List (List ℕ) → Lock → Data
lock_data names l = array (item (name_data (name_locked l)) (item (whole (holder_of l)) (item (string (name_of names (mode_held l))) no_items)))

-- Locks, in their order.
abbrev pub locks_data : List (List ℕ) → Locks → Data
locks_data names ls = array (items_of (map (lock_data names) ls))

-- A verdict: that the programs are serializable, or the first answer that isn't: whose, the number of the operation, the answer given and the serial one.
abbrev pub verdict_data : Verdict → Data
verdict_data verdict.Serial = after_word (codes "serial") no_items
verdict_data (verdict.NotSerial t operation given serial) =
    after_word (codes "not-serial") (item (whole t) (item (whole operation) (item (reply_data given) (item (reply_data serial) no_items))))

-- A run, where the modes have these names: the index and the locks at its end, the replies, the transactions that are unfinished, and the verdict on it.
abbrev pub run_data : List (List ℕ) → Map → Locks → List Reply → List ℕ → Verdict → Data
run_data names index locks replies unfinished v =
    object (member (codes "index") (pairs_data index)
    (member (codes "locks") (locks_data names locks)
    (member (codes "replies") (replies_data replies)
    (member (codes "unfinished") (numbers_data unfinished)
    (member (codes "verdict") (verdict_data v) no_members)))))

-- The text of a run's report.
abbrev pub run_text : List (List ℕ) → Map → Locks → List Reply → List ℕ → Verdict → List ℕ
run_text names index locks replies unfinished v = compact_text (run_data names index locks replies unfinished v)

-- A verdict on the script of this name.
abbrev pub named_verdict_data : List ℕ → Verdict → Data
named_verdict_data script v = object (member (codes "script") (string script) (member (codes "verdict") (verdict_data v) no_members))

-- The text of a verdict's report.
abbrev pub verdict_text : List ℕ → Verdict → List ℕ
verdict_text script v = compact_text (named_verdict_data script v)
