-- The names that each transaction was given locks on.
use Rattle.std.specs.Prelude.{◌≡◌, ◌≢◌, ℕ, List, [], Option, Some, None, true, Vec, nat_eq}
use Rattle.std.specs.Global.{Global}
use Rattle.std.specs.List.{list_any}
use Rattle.std.specs.Ordering.{eq_by_cmp}
use Rattle.std.specs.HashMap.{HashMap, get}
use Rattle.std.specs.FinMap.{find}
use Rattle.kr_model.specs.declared.Name.{Name}
use Rattle.kr_model.specs.Locks.{Locks, name_cmp, holder_cmp}

-- the names of a list, and none where there is no list
abbrev pub names_in : Option (Vec Name Global) → List Name
names_in None = []
names_in (Some v) = v.items

-- the names of a transaction
abbrev pub noted : {S : Type 0} → HashMap ℕ (Vec Name Global) S → ℕ → List Name
noted held t = names_in (get nat_eq held t)

-- name n is among those of transaction t
abbrev pub IsNoted : {S : Type 0} → HashMap ℕ (Vec Name Global) S → ℕ → Name → Type 0
IsNoted held t n = list_any (λ x. eq_by_cmp name_cmp n x) (noted held t) ≡ true

-- each lock has its name among those of its transaction
abbrev pub AreNoted : {S : Type 0} → HashMap ℕ (Vec Name Global) S → Locks → Type 0
AreNoted held h = (n : Name) (t : ℕ) → find holder_cmp (n, t) h ≢ None → IsNoted held t n
