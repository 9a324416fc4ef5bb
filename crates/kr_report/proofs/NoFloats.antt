-- No report of a check has a float.
use Rattle.std.proofs.Common.{◌≡◌, ℕ, List, [], ◌∷◌, map, false, refl}
use Rattle.serde_json.specs.Data.{Data}
use Rattle.serde_json.specs.Written.{has_float, items_have_float}
use Rattle.serde_json.specs.View.{items_of}
use Rattle.kr_model.specs.declared.Origin.{Origin}
use Rattle.kr_model.specs.declared.Origin.TheVariants as origin
use Rattle.kr_model.specs.declared.FailedCase.{FailedCase}
use Rattle.kr_model.specs.Protocol.{Protocol}
use Rattle.kr_ghost.specs.declared.cases.FailedCase as with_ghosts
use Rattle.kr_ghost.specs.Protocol.{GhostProtocol}
use Rattle.kr_report.specs.CheckReport.{from_data, failed_data, check_data}
use Rattle.kr_report.specs.GhostCheckReport as ghost

-- a list of values that have none has none
no_float_in : {A : Type 0} (f : A → Data) → ((a : A) → has_float (f a) ≡ false) → (xs : List A) → items_have_float (items_of (map f xs)) ≡ false
no_float_in f h [] = refl
no_float_in f h (x ∷ xs) = rw (h x, no_float_in f h xs)

no_float_in_from : (names : List (List ℕ)) (o : Origin) → has_float (from_data names o) ≡ false
no_float_in_from names (origin.Own own) = refl
no_float_in_from names (origin.Conversion held asked) = refl
no_float_in_from names (origin.Insert own_next own) = refl

no_float_in_failed : (names : List (List ℕ)) (f : FailedCase) → has_float (failed_data names f) ≡ false
no_float_in_failed names f = rw (no_float_in_from names f.from)

-- no value of a check is a float
pub no_float_in_check : (p : Protocol) (names : List (List ℕ)) (failed : List FailedCase) → has_float (check_data p names failed) ≡ false
no_float_in_check p names [] = refl
no_float_in_check p names (f ∷ fs) = rw (no_float_in (failed_data names) (no_float_in_failed names) (f ∷ fs))

no_float_in_ghost_failed : (names : List (List ℕ)) (f : with_ghosts.FailedCase) → has_float (ghost.failed_data names f) ≡ false
no_float_in_ghost_failed names f = rw (no_float_in_from names f.from)

-- nor is one of a check with ghosts
pub no_float_in_ghost_check : (p : GhostProtocol) (names : List (List ℕ)) (failed : List with_ghosts.FailedCase) → has_float (ghost.check_data p names failed) ≡ false
no_float_in_ghost_check p names [] = refl
no_float_in_ghost_check p names (f ∷ fs) = rw (no_float_in (ghost.failed_data names) (no_float_in_ghost_failed names) (f ∷ fs))
