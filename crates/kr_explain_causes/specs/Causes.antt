-- Failed cases that are shared out to causes.
use Rattle.std.specs.Prelude.{◌≡◌, ◌⊎◌, ℕ, ◌<◌, List, [], ◌∷◌, All, length, map}
use Rattle.std.specs.List.{flat_map}
use Rattle.std.specs.List.Sorted.{IsPermutation}
use Rattle.std.specs.List.Sorted.{IsPermutation}
use Rattle.kr_model.specs.declared.FailedCase.{FailedCase}
use Rattle.kr_model.specs.declared.Origin.{Origin}
use Rattle.kr_model.specs.declared.Origin.TheVariants as origin
use Rattle.kr_model.specs.declared.Rule.{Rule}
use Rattle.kr_model.specs.declared.Rule.TheVariants as rule
use Rattle.kr_explain_causes.specs.declared.cause.Cause.{Cause}
use Rattle.kr_explain_causes.specs.declared.cause.Suspect.{Suspect}

-- The own mode on the next name with which the lock of a case of this rule was taken, and 0 where its row doesn't go by it.
abbrev pub own_next_in : Rule → Origin → ℕ
own_next_in r (origin.Insert n o) = n
own_next_in rule.Delete (origin.Own o) = o
own_next_in r x = 0

-- The same of a failed case.
abbrev pub own_next : FailedCase → ℕ
own_next f = own_next_in f.case f.from

-- The elements of the first list are some of the second's, in the same order.
abbrev pub IsSublist : {A : Type 0} → List A → List A → Type 0
IsSublist [] ys = Unit {0}
IsSublist (x ∷ xs) [] = ⊥
IsSublist (x ∷ xs) (y ∷ ys) = ((x ≡ y) × IsSublist xs ys) ⊎ IsSublist (x ∷ xs) ys

-- The cases of all causes, one cause after another.
abbrev pub all_cases : List Cause → List FailedCase
all_cases causes = flat_map (λ c. c.cases.items) causes

-- The causes share out the failed cases: each of them is in exactly one cause, as often as it was given.
pub record ShareOut (causes : List Cause) (failed : List FailedCase) : Type 0 where
  -- the cases of all causes are the failed ones, in another order
  pub all : IsPermutation failed (all_cases causes)
  -- no cause is empty
  pub some : All (λ c. 0 < length c.cases.items) causes

-- The cases of those that have no cause yet.
abbrev pub cases_of : List Suspect → List FailedCase
cases_of suspects = map (λ s. s.case) suspects
