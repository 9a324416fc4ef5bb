-- What a reply in a trace is: the value that it reads as, and the value that it is written as.
use Rattle.std.specs.Prelude.{ℕ, ◌^◌, ◌==◌, ◌&&◌, codes, decimal, Bool, true, false, List, [], ◌∷◌, ◌++◌, nat_lt, bytes_eq, if◌then◌else◌, Option, Some, None, option_map, option_and_then}
use Rattle.serde_json.specs.Data.{Data, Items, no_items, item}
use Rattle.serde_json.specs.Find.{at, as_number, as_array, as_u64}
use Rattle.kr_model.specs.declared.Op.{Op}
use Rattle.kr_model.specs.declared.Op.TheVariants.{Fetch, Scan, Go, Insert, Delete, Update, Commit, Abort, Back}
use Rattle.kr_script.specs.Json.{whole, length_of, number_at, word_at}
use Rattle.kr_script.specs.Faults.{pair_of}
use Rattle.kr_script.specs.Pairs.{pairs_data}
use Rattle.kr_script.specs.Replies.{after_word, numbers_data}
use Rattle.kr_trace_lines.specs.declared.observed.Observed.{Observed}
use Rattle.kr_trace_lines.specs.declared.observed.Observed.TheVariants as observed

-- From value to reply --

-- What each element reads as, where each of them reads.
abbrev pub each_of : {A : Type 0} → (Data → Option A) → Items → Option (List A)
each_of read no_items = Some []
each_of read (item d ds) = option_and_then (λ x. option_map (λ xs. x ∷ xs) (each_of read ds)) (read d)

-- The number of a transaction, which has 32 bits.
abbrev pub txn_of : Data → Option ℕ
txn_of d = option_and_then (λ n. if nat_lt n (2 ^ 32) then Some n else None) (option_and_then as_u64 (as_number d))

-- The word of a reply with nothing behind it.
abbrev pub bare : ℕ → Observed → Option Observed
bare len o = if len == 1 then Some o else None

-- The number behind the word, where nothing else is.
abbrev pub number_behind : ℕ → Data → Option ℕ
number_behind len d = if len == 2 then number_at 1 d else None

-- The number behind the word, which may be left out.
abbrev pub number_if_told : ℕ → Data → Option (Option ℕ)
number_if_told len d = if len == 1 then Some None else option_map (λ n. Some n) (number_behind len d)

-- The elements of the array behind the word, where nothing else is.
abbrev pub list_behind : ℕ → Data → Option Items
list_behind len d = if len == 2 then option_and_then as_array (at 1 d) else None

-- The pairs behind the word.
abbrev pub rows_behind : ℕ → Data → Option (List (ℕ × ℕ))
rows_behind len d = option_and_then (each_of pair_of) (list_behind len d)

-- The transactions behind the word, which may be left out.
abbrev pub txns_if_told : ℕ → Data → Option (List ℕ)
txns_if_told len d = if len == 1 then Some [] else option_and_then (each_of txn_of) (list_behind len d)

-- The reply to a fetch with this word and so many elements: a line for each form. The other operations likewise.
abbrev pub fetch_reply : List ℕ → ℕ → Data → Option Observed
fetch_reply word len d =
    if bytes_eq word (codes "found") then option_map observed.Found (number_behind len d)
    else if bytes_eq word (codes "none") then bare len observed.None
    else None

abbrev pub scan_reply : List ℕ → ℕ → Data → Option Observed
scan_reply word len d =
    if bytes_eq word (codes "going") then option_map observed.Going (number_behind len d)
    else if bytes_eq word (codes "rows") then option_map observed.Rows (rows_behind len d)
    else None

abbrev pub insert_reply : List ℕ → ℕ → Option Observed
insert_reply word len =
    if bytes_eq word (codes "done") then bare len observed.Done
    else if bytes_eq word (codes "duplicate") then bare len observed.Duplicate
    else None

abbrev pub delete_reply : List ℕ → ℕ → Data → Option Observed
delete_reply word len d =
    if bytes_eq word (codes "deleted") then option_map observed.Deleted (number_if_told len d)
    else if bytes_eq word (codes "absent") then bare len observed.Absent
    else None

abbrev pub update_reply : List ℕ → ℕ → Data → Option Observed
update_reply word len d =
    if bytes_eq word (codes "updated") then option_map observed.Updated (number_if_told len d)
    else if bytes_eq word (codes "absent") then bare len observed.Absent
    else None

abbrev pub commit_reply : List ℕ → ℕ → Option Observed
commit_reply word len = if bytes_eq word (codes "committed") then bare len observed.Committed else None

abbrev pub back_reply : List ℕ → ℕ → Data → Option Observed
back_reply word len d = if bytes_eq word (codes "undone") then option_map observed.Undone (number_if_told len d) else None

-- The reply of a step that did its operation.
abbrev pub answer_of : Op → List ℕ → ℕ → Data → Option Observed
answer_of (Fetch k) word len d = fetch_reply word len d
answer_of (Scan lo hi) word len d = scan_reply word len d
answer_of Go word len d = scan_reply word len d
answer_of (Insert k v) word len d = insert_reply word len
answer_of (Delete k) word len d = delete_reply word len d
answer_of (Update k v) word len d = update_reply word len d
answer_of Commit word len d = commit_reply word len
answer_of Abort word len d = None
answer_of Back word len d = back_reply word len d

-- Whether the operation requests locks, so that its step may be blocked.
abbrev pub may_block : Op → Bool
may_block (Fetch k) = true
may_block (Scan lo hi) = true
may_block Go = true
may_block (Insert k v) = true
may_block (Delete k) = true
may_block (Update k v) = true
may_block Commit = false
may_block Abort = false
may_block Back = false

-- The reply with this word and so many elements. Each step may end its transaction.
abbrev pub reply_with : Op → List ℕ → ℕ → Data → Option Observed
reply_with op word len d =
    if bytes_eq word (codes "aborted") then bare len observed.Aborted
    else if bytes_eq word (codes "blocked") && may_block op then option_map observed.Blocked (txns_if_told len d)
    else answer_of op word len d

-- The reply that a value is, where a step of this operation can have it.
abbrev pub reply_in : Op → Data → Option Observed
reply_in op d = option_and_then (λ len. option_and_then (λ word. reply_with op word len d) (word_at 0 d)) (length_of d)

-- From reply to value --

-- A word, with a number behind it where one is told.
abbrev pub word_and_number : List ℕ → Option ℕ → Data
word_and_number word None = after_word word no_items
word_and_number word (Some n) = after_word word (item (whole n) no_items)

-- What stands behind the word there.
abbrev pub told_text : Option ℕ → List ℕ
told_text None = 93 ∷ []
told_text (Some n) = 44 ∷ (decimal n ++ 93 ∷ [])

-- The word of a blocked step, with those behind it that the engine names.
abbrev pub blocked_data : List ℕ → Data
blocked_data [] = after_word (codes "blocked") no_items
blocked_data (t ∷ ts) = after_word (codes "blocked") (item (numbers_data (t ∷ ts)) no_items)

-- A reply as an engine writes it.
abbrev pub observed_data : Observed → Data
observed_data (observed.Found v) = after_word (codes "found") (item (whole v) no_items)
observed_data observed.None = after_word (codes "none") no_items
observed_data (observed.Going k) = after_word (codes "going") (item (whole k) no_items)
observed_data (observed.Rows rows) = after_word (codes "rows") (item (pairs_data rows) no_items)
observed_data observed.Done = after_word (codes "done") no_items
observed_data observed.Duplicate = after_word (codes "duplicate") no_items
observed_data (observed.Deleted v) = word_and_number (codes "deleted") v
observed_data observed.Absent = after_word (codes "absent") no_items
observed_data (observed.Updated v) = word_and_number (codes "updated") v
observed_data (observed.Undone n) = word_and_number (codes "undone") n
observed_data observed.Committed = after_word (codes "committed") no_items
observed_data observed.Aborted = after_word (codes "aborted") no_items
observed_data (observed.Blocked txns) = blocked_data txns
