-- Operations and replies in words, as a page has them.
use Rattle.std.specs.Prelude.{ℕ, List, [], ◌∷◌, ◌++◌, ◌-◌, codes, decimal, drop, flat_map, length, map, nat_eq, nat_lt, if◌then◌else◌}
use Rattle.kr_model.specs.declared.Op.{Op}
use Rattle.kr_model.specs.declared.Op.TheVariants as op
use Rattle.kr_model.specs.declared.Refusal.{Refusal}
use Rattle.kr_model.specs.declared.Refusal.TheVariants as refusal
use Rattle.kr_model.specs.declared.Reply.{Reply}
use Rattle.kr_model.specs.declared.Reply.TheVariants as reply
use Rattle.kr_view_scenes.specs.declared.words.TheConstants.{PAIRS_SHOWN}

-- What an operation does.
abbrev pub op_words : Op → List ℕ
op_words (op.Fetch k) = codes "fetch " ++ decimal k
op_words (op.Scan lo hi) = codes "scan " ++ decimal lo ++ codes " to " ++ decimal hi
op_words op.Go = codes "go on with the scan"
op_words (op.Insert k v) = codes "insert " ++ decimal k ++ codes " with " ++ decimal v
op_words (op.Delete k) = codes "delete " ++ decimal k
op_words (op.Update k v) = codes "update " ++ decimal k ++ codes " to " ++ decimal v
op_words op.Commit = codes "commit"
op_words op.Abort = codes "abort"
op_words op.Back = codes "take the newest change back"

-- Words in a row, with a comma between them.
abbrev pub commas : List (List ℕ) → List ℕ
commas [] = []
commas (w ∷ ws) = w ++ flat_map (λ v. codes ", " ++ v) ws

-- A key and its value.
abbrev pub pair_words : ℕ × ℕ → List ℕ
pair_words e = decimal e.0 ++ codes "=" ++ decimal e.1

-- Pairs behind so many that aren't shown.
abbrev pub shown_pairs : ℕ → List (ℕ × ℕ) → List ℕ
shown_pairs hidden pairs =
    (if nat_lt 0 hidden then decimal hidden ++ codes " more, and then " else []) ++ commas (map pair_words (drop hidden pairs))

-- Pairs of keys and values: all, or the last `PAIRS_SHOWN` and how many come before them.
abbrev pub pairs_words : List (ℕ × ℕ) → List ℕ
pairs_words pairs = if nat_eq (length pairs) 0 then codes "nothing" else shown_pairs (length pairs - PAIRS_SHOWN) pairs

-- Why a step was refused.
abbrev pub reason_words : Refusal → List ℕ
reason_words refusal.Ended = codes "the transaction has ended"
reason_words refusal.Busy = codes "a scan is in progress"
reason_words refusal.NoScan = codes "no scan is in progress"
reason_words refusal.BadRange = codes "the range is upside down"
reason_words refusal.Full = codes "64 transactions are active"
reason_words refusal.Memory = codes "out of memory"
reason_words refusal.NoUpdate = codes "the table offers no updates"
reason_words refusal.RollingBack = codes "the transaction rolls back"
reason_words refusal.NothingLeft = codes "no change is left"

-- What a reply says.
abbrev pub reply_words : Reply → List ℕ
reply_words (reply.Found v) = codes "found " ++ decimal v
reply_words reply.None = codes "none there"
reply_words (reply.Going k) = codes "read " ++ decimal k ++ codes ", goes on"
reply_words (reply.Rows rows) = codes "rows: " ++ pairs_words rows
reply_words reply.Done = codes "done"
reply_words reply.Duplicate = codes "there already"
reply_words (reply.Deleted v) = codes "deleted, was " ++ decimal v
reply_words reply.Absent = codes "not there"
reply_words (reply.Updated v) = codes "updated, was " ++ decimal v
reply_words reply.Committed = codes "committed"
reply_words reply.Aborted = codes "aborted"
reply_words (reply.Undone left) = codes "taken back, " ++ decimal left ++ codes " left"
reply_words (reply.Blocked us) = codes "blocked by " ++ commas (map decimal us)
reply_words (reply.Refused r) = codes "refused: " ++ reason_words r

-- The word for the kind of a reply: blocked, refused, the end of the transaction, or granted.
abbrev pub kind_word : Reply → List ℕ
kind_word (reply.Blocked us) = codes "blocked"
kind_word (reply.Refused r) = codes "refused"
kind_word reply.Committed = codes "committed"
kind_word reply.Aborted = codes "aborted"
kind_word _ = codes "granted"
