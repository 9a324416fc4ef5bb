-- How a line differs from what a table answers, in a sentence.
use Rattle.std.specs.Prelude.{ℕ, List, [], ◌∷◌, ◌++◌, ◌==◌, codes, decimal, flat_map, if◌then◌else◌}
use Rattle.kr_model.specs.declared.Refusal.{Refusal}
use Rattle.kr_model.specs.declared.Refusal.TheVariants as refusal
use Rattle.kr_model.specs.ModeNames.{name_of}
use Rattle.kr_explain_text.specs.Spoken.{name_words, reply_words, txns_words}
use Rattle.kr_trace_lines.specs.declared.deviation.Conflict.{Conflict}
use Rattle.kr_trace_lines.specs.declared.deviation.DeviationKind.{DeviationKind}
use Rattle.kr_trace_lines.specs.declared.deviation.DeviationKind.TheVariants as kind
use Rattle.kr_trace_text.specs.declared.steps.LoggedStep.{LoggedStep}
use Rattle.kr_trace_text.specs.Answered.{answered_words}

-- The converted mode in which a request is tested, if it isn't the mode that is requested.
abbrev pub converted_words : List (List ℕ) → Conflict → List ℕ
converted_words names c = if c.tested == c.asked then [] else codes ", tested in the converted mode " ++ name_of names c.tested

-- What the step requests on a name where a lock is in the way.
abbrev pub requested_words : List (List ℕ) → Conflict → List ℕ
requested_words names c = codes "\n   It requests " ++ (name_of names c.asked ++ (codes " on " ++ (name_words c.name ++ converted_words names c)))

-- The line since which the lock in the way is held in its mode.
abbrev pub since_words : Conflict → List ℕ
since_words c = codes " since line " ++ decimal c.since

-- Who holds the lock in the way, in which mode, and since which line.
abbrev pub held_words : List (List ℕ) → Conflict → List ℕ
held_words names c = codes ", where T" ++ (decimal c.holder ++ (codes " has held " ++ (name_of names c.held ++ since_words c)))

-- Which modes aren't compatible.
abbrev pub against_words : List (List ℕ) → Conflict → List ℕ
against_words names c = name_of names c.tested ++ (codes " is not compatible with " ++ (name_of names c.held ++ codes "."))

-- A lock in the way, on a line of its own: the request with which it conflicts, its holder and its mode.
unfoldable pub conflict_words : List (List ℕ) → Conflict → List ℕ
conflict_words names c = requested_words names c ++ (held_words names c ++ (codes ": " ++ against_words names c))

-- The locks in the way.
unfoldable pub conflicts_words : List (List ℕ) → List Conflict → List ℕ
conflicts_words names cs = flat_map (conflict_words names) cs

-- Whom the table names as blockers.
abbrev pub blockers_words : List ℕ → List ℕ
blockers_words [] = codes "The table has no blockers."
blockers_words (t ∷ ts) = codes "The table's blockers: " ++ (txns_words (t ∷ ts) ++ codes ".")

-- Which of the named blockers aren't in the way, and whom the table names.
abbrev pub misnamed_words : List ℕ → List ℕ → List ℕ
misnamed_words misnamed blockers =
    codes ", and no conflicting lock or wait of " ++ (txns_words misnamed ++ (codes " explains that. " ++ blockers_words blockers))

-- Why a transaction may not take a step.
abbrev pub reason_words : Refusal → List ℕ
reason_words refusal.Ended = codes "it has ended"
reason_words refusal.Busy = codes "its scan is in progress"
reason_words refusal.NoScan = codes "it has no scan in progress"
reason_words refusal.BadRange = codes "the lower end of the range is above the upper end"
reason_words refusal.Full = codes "64 transactions are active"
reason_words refusal.Memory = codes "memory ran out"
reason_words refusal.NoUpdate = codes "the table offers no updates"
reason_words refusal.RollingBack = codes "it rolls back"
reason_words refusal.NothingLeft = codes "it has no change left"

-- How a step of t differs from what the table answers.
abbrev pub kind_words : List (List ℕ) → ℕ → DeviationKind → List ℕ
kind_words names t (kind.Granted blockers conflicts) = codes ", and the table blocks it." ++ conflicts_words names conflicts
kind_words names t (kind.Blocked r) = codes ", and the table grants it with the answer " ++ (reply_words r ++ codes ".")
kind_words names t (kind.Blockers misnamed blockers) = misnamed_words misnamed blockers
kind_words names t (kind.Answer r) = codes ", and the table's answer is " ++ (reply_words r ++ codes ".")
kind_words names t (kind.Refused r) = codes ", and T" ++ (decimal t ++ (codes " may not take this step: " ++ (reason_words r ++ codes ".")))

-- What the engine answered to a step, and how it differs from what the table answers.
unfoldable pub deviation_words : List (List ℕ) → LoggedStep → DeviationKind → List ℕ
deviation_words names s kind = answered_words s ++ kind_words names s.event.txn kind
