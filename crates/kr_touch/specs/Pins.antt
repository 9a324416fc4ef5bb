-- How many pins the changes of transactions need.
use Rattle.std.specs.Prelude.{ℕ, ◌==◌, List, Option, Some, None, if◌then◌else◌}
use Rattle.std.specs.List.{count_by, sum_by}
use Rattle.kr_model.specs.Map.{Changes}
use Rattle.kr_model.specs.State.{Active}
use Rattle.kr_model.specs.declared.Op.{Op}
use Rattle.kr_model.specs.declared.Op.TheVariants as op
use Rattle.kr_model.specs.declared.Row.{Row}
use Rattle.kr_model.specs.declared.Row.TheVariants as row

-- How many of the changes are of q.
abbrev pub changes_of : Changes → ℕ → ℕ
changes_of cs q = count_by (λ c. q == c.0) cs

-- How many changes of q the transactions have.
abbrev pub all_changes_of : List (ℕ × Active) → ℕ → ℕ
all_changes_of es q = sum_by (λ e. changes_of e.1.changes q) es

-- The key that an operation changes, by the row of its attempt: an insert of an absent key changes it, and a delete or an update of a present one.
abbrev pub changed_key : Op → Row → Option ℕ
changed_key (op.Insert k v) row.Insert = Some k
changed_key (op.Delete k) row.Delete = Some k
changed_key (op.Update k v) row.Update = Some k
changed_key _ _ = None

-- One pin of this key, where there is one.
abbrev pub one_pin : Option ℕ → ℕ → ℕ
one_pin None q = 0
one_pin (Some k) q = if q == k then 1 else 0

-- The pins that an operation takes before it is done: one of the key that it changes.
abbrev pub taken_pins : Op → Row → ℕ → ℕ
taken_pins o r q = one_pin (changed_key o r) q
