-- The last step of a script, beside the steps of the other transactions.
use Rattle.std.specs.Prelude.{ℕ, ◌-◌, ◌==◌, List, [], ◌++◌, codes, decimal, flat_map, length, slice_get, if◌then◌else◌}
use Rattle.std.specs.Option.{option_map_or}
use Rattle.kr_model.specs.declared.Event.{Event}
use Rattle.kr_explain_text.specs.Spoken.{op_words}

-- A step: its transaction, and what it does.
unfoldable pub step_words : Event → List ℕ
step_words e = codes "T" ++ (decimal e.txn ++ (codes "'s " ++ op_words e.op))

-- A step of a transaction other than t.
unfoldable pub beside_word : ℕ → Event → List ℕ
beside_word t e = if e.txn == t then [] else codes " beside " ++ step_words e

-- The steps of others than t, in their order.
abbrev pub others_words : ℕ → List Event → List ℕ
others_words t events = flat_map (beside_word t) events

-- The last step, beside those of the other transactions.
abbrev pub last_words : List Event → List ℕ
last_words events = option_map_or (λ e. step_words e ++ others_words e.txn events) (slice_get events (length events - 1)) []
