-- What a reply is in a report: a word, and behind it what the reply says; and the parts that reports share.
use Rattle.std.specs.Prelude.{ℕ, List, codes, map}
use Rattle.serde_json.specs.Data.{Data, Items, string, array, item, no_items}
use Rattle.serde_json.specs.View.{items_of}
use Rattle.kr_model.specs.declared.Name.{Name}
use Rattle.kr_model.specs.declared.Name.TheVariants.{Key, End}
use Rattle.kr_model.specs.declared.Refusal.{Refusal}
use Rattle.kr_model.specs.declared.Refusal.TheVariants as refusal
use Rattle.kr_model.specs.declared.Reply.{Reply}
use Rattle.kr_model.specs.declared.Reply.TheVariants as reply
use Rattle.kr_model.specs.Difference.{refusal_number}
use Rattle.kr_script.specs.Json.{whole}
use Rattle.kr_script.specs.Pairs.{pairs_data}

-- An array that begins with a word.
abbrev pub after_word : List ℕ → Items → Data
after_word word rest = array (item (string word) rest)

-- Whole numbers, in their order.
abbrev pub numbers_data : List ℕ → Data
numbers_data ns = array (items_of (map whole ns))

-- The name of a refusal.
abbrev pub refusal_name : Refusal → List ℕ
refusal_name refusal.Ended = codes "Ended"
refusal_name refusal.Busy = codes "Busy"
refusal_name refusal.NoScan = codes "NoScan"
refusal_name refusal.BadRange = codes "BadRange"
refusal_name refusal.Full = codes "Full"
refusal_name refusal.Memory = codes "Memory"
refusal_name refusal.NoUpdate = codes "NoUpdate"
refusal_name refusal.RollingBack = codes "RollingBack"
refusal_name refusal.NothingLeft = codes "NothingLeft"

-- A reply: a word, and behind it what the reply tells.
abbrev pub reply_data : Reply → Data
reply_data (reply.Found v) = after_word (codes "found") (item (whole v) no_items)
reply_data reply.None = after_word (codes "none") no_items
reply_data (reply.Going k) = after_word (codes "going") (item (whole k) no_items)
reply_data (reply.Rows rows) = after_word (codes "rows") (item (pairs_data rows) no_items)
reply_data reply.Done = after_word (codes "done") no_items
reply_data reply.Duplicate = after_word (codes "duplicate") no_items
reply_data (reply.Deleted v) = after_word (codes "deleted") (item (whole v) no_items)
reply_data reply.Absent = after_word (codes "absent") no_items
reply_data (reply.Updated v) = after_word (codes "updated") (item (whole v) no_items)
reply_data reply.Committed = after_word (codes "committed") no_items
reply_data reply.Aborted = after_word (codes "aborted") no_items
reply_data (reply.Undone n) = after_word (codes "undone") (item (whole n) no_items)
reply_data (reply.Blocked txns) = after_word (codes "blocked") (item (numbers_data txns) no_items)
reply_data (reply.Refused r) = after_word (codes "refused") (item (whole (refusal_number r)) (item (string (refusal_name r)) no_items))

-- A lock name: the key, or a word for the name past all keys.
abbrev pub name_data : Name → Data
name_data (Key k) = whole k
name_data End = string (codes "End")
