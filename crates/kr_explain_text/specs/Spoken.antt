-- Operations, answers and locks in words.
use Rattle.std.specs.Prelude.{ℕ, List, [], ◌∷◌, ◌++◌, ◌==◌, Bool, true, false, Option, Some, None, codes, decimal, flat_map, length, if◌then◌else◌}
use Rattle.kr_model.specs.declared.Name.{Name}
use Rattle.kr_model.specs.declared.Name.TheVariants as name
use Rattle.kr_model.specs.declared.Op.{Op}
use Rattle.kr_model.specs.declared.Op.TheVariants as op
use Rattle.kr_model.specs.declared.Reply.{Reply}
use Rattle.kr_model.specs.declared.Reply.TheVariants as reply
use Rattle.kr_model.specs.Locks.{Lock, Locks, name_locked, holder_of, mode_held}
use Rattle.kr_model.specs.ModeNames.{name_of}

-- An operation, by its word and its numbers.
abbrev pub op_words : Op → List ℕ
op_words (op.Fetch k) = codes "fetch " ++ decimal k
op_words (op.Scan lo hi) = codes "scan " ++ (decimal lo ++ (codes " " ++ decimal hi))
op_words op.Go = codes "go"
op_words (op.Insert k v) = codes "insert " ++ (decimal k ++ (codes " " ++ decimal v))
op_words (op.Delete k) = codes "delete " ++ decimal k
op_words (op.Update k v) = codes "update " ++ (decimal k ++ (codes " " ++ decimal v))
op_words op.Commit = codes "commit"
op_words op.Abort = codes "abort"
op_words op.Back = codes "back"

-- A row of a scan: its key and its value.
abbrev pub row_words : ℕ × ℕ → List ℕ
row_words e = codes " " ++ (decimal e.0 ++ (codes ":" ++ decimal e.1))

-- The rows of a scan.
abbrev pub rows_words : List (ℕ × ℕ) → List ℕ
rows_words rows = if length rows == 0 then codes "rows (none)" else codes "rows" ++ flat_map row_words rows

-- An answer, by its word and its numbers.
abbrev pub reply_words : Reply → List ℕ
reply_words (reply.Found v) = codes "found " ++ decimal v
reply_words reply.None = codes "none"
reply_words (reply.Going k) = codes "going " ++ decimal k
reply_words (reply.Rows rows) = rows_words rows
reply_words reply.Done = codes "done"
reply_words reply.Duplicate = codes "duplicate"
reply_words (reply.Deleted v) = codes "deleted " ++ decimal v
reply_words reply.Absent = codes "absent"
reply_words (reply.Updated v) = codes "updated " ++ decimal v
reply_words reply.Committed = codes "committed"
reply_words reply.Aborted = codes "aborted"
reply_words (reply.Undone left) = codes "undone " ++ decimal left
reply_words (reply.Blocked us) = codes "blocked"
reply_words (reply.Refused r) = codes "refused"

-- A key and its value, and such a pair behind a comma.
abbrev pub pair_words : ℕ × ℕ → List ℕ
pair_words e = decimal e.0 ++ (codes ":" ++ decimal e.1)

abbrev pub pair_behind : ℕ × ℕ → List ℕ
pair_behind e = codes ", " ++ pair_words e

-- Pairs of a key and its value, with commas between.
abbrev pub pairs_words : List (ℕ × ℕ) → List ℕ
pairs_words [] = []
pairs_words (e ∷ es) = pair_words e ++ flat_map pair_behind es

-- A transaction behind a comma.
abbrev pub txn_behind : ℕ → List ℕ
txn_behind t = codes ", T" ++ decimal t

-- Transactions in an order, with commas between.
abbrev pub txns_words : List ℕ → List ℕ
txns_words [] = []
txns_words (t ∷ ts) = codes "T" ++ (decimal t ++ flat_map txn_behind ts)

-- A lock name: the key, or the end.
abbrev pub name_words : Name → List ℕ
name_words (name.Key k) = decimal k
name_words name.End = codes "End"

-- Whether two names are one.
abbrev pub is_same : Name → Name → Bool
is_same (name.Key k) (name.Key l) = k == l
is_same name.End name.End = true
is_same _ _ = false

-- Who holds a lock, and in which mode.
abbrev pub holder_words : List (List ℕ) → Lock → List ℕ
holder_words names l = codes "T" ++ (decimal (holder_of l) ++ (codes " " ++ name_of names (mode_held l)))

-- What comes before a holder: the name of the lock, and nothing but a comma where the lock before is on that name too.
abbrev pub lead_words : Option Name → Name → List ℕ
lead_words None n = name_words n ++ codes ": "
lead_words (Some before) n = if is_same before n then codes ", " else codes "; " ++ (name_words n ++ codes ": ")

-- Locks, where the one before is on this name.
abbrev pub locks_behind : List (List ℕ) → Option Name → Locks → List ℕ
locks_behind names before [] = []
locks_behind names before (l ∷ ls) = lead_words before (name_locked l) ++ (holder_words names l ++ locks_behind names (Some (name_locked l)) ls)

-- Who holds what: name after name, each with its holders.
abbrev pub locks_words : List (List ℕ) → Locks → List ℕ
locks_words names locks = locks_behind names None locks
