-- A document with no faults has rising keys and few elements.
use Rattle.std.proofs.Common.{◌≡◌, ℕ, ◌+◌, ◌≤◌, List, [], ◌++◌, length, Bool, true, false, nat_lt, Option, Some, None, refl, arith, option_map}
use Rattle.std.proofs.lemmas.Bool.Decides.{nat_tests}
use Rattle.serde_json.specs.Data.{Items, no_items, item}
use Rattle.serde_json.specs.Events.{items_len}
use Rattle.kr_model.specs.Map.{IsMap, is_above, is_rising}
use Rattle.kr_script.specs.Steps.{event_of}
use Rattle.kr_model.specs.Firsts.{unless}
use Rattle.kr_model.proofs.RisingKeys.{sorted_rising}
use Rattle.kr_script.specs.Faults.{Fault, opening, pair_of, pair_faults, opening_faults}
use Rattle.kr_script.specs.Reading.{with_some, pairs_of, events_of}
use Rattle.kr_script.specs.Moves.{move_of}
use Rattle.kr_script.specs.GhostReading.{moves_of}

-- no fault before the rest, and none in it
none_left : (b : Bool) (f : Fault) (fs : List Fault) → unless b f ++ fs ≡ [] → (b ≡ true) × (fs ≡ [])
none_left true f fs h = (refl, h)
none_left false f fs h = cc

rising_step : (i : ℕ) (before : Option ℕ) (p : Option (ℕ × ℕ)) (ds : Items)
    → ((next : Option ℕ) → opening_faults (i + 1) next ds ≡ [] → is_rising next (pairs_of ds) ≡ true)
    → pair_faults i before p ++ opening_faults (i + 1) (option_map (λ q. q.0) p) ds ≡ [] → is_rising before (with_some p (pairs_of ds)) ≡ true
rising_step i before None ds more h = cc
rising_step i before (Some p) ds more h =
    let n = none_left (is_above p.0 before) (opening i) (opening_faults (i + 1) (Some p.0) ds) h in
    rw (n.0, more (Some p.0) n.1)

rising_from : (i : ℕ) (before : Option ℕ) (ds : Items) → opening_faults i before ds ≡ [] → is_rising before (pairs_of ds) ≡ true
rising_from i before no_items h = refl
rising_from i before (item d ds) h = rising_step i before (pair_of d) ds (λ next. rising_from (i + 1) next ds) h

-- the pairs of an opening with no faults are an index
pub rising : (ds : Items) → opening_faults 0 None ds ≡ [] → IsMap (pairs_of ds)
rising ds h = sorted_rising None (pairs_of ds) (rising_from 0 None ds h)

length-with_some : {A : Type 0} (x : Option A) (xs : List A) → length (with_some x xs) ≤ length xs + 1
length-with_some None xs = omega arith
length-with_some (Some x) xs = omega arith

-- there are no more pairs than elements
pub length-pairs_of : (ds : Items) → length (pairs_of ds) ≤ items_len ds
length-pairs_of no_items = omega arith
length-pairs_of (item d ds) =
    let more = length-pairs_of ds in
    let here = length-with_some (pair_of d) (pairs_of ds) in
    omega arith

-- there are no more events than elements
pub length-events_of : (two : Bool) (ds : Items) → length (events_of two ds) ≤ items_len ds
length-events_of two no_items = omega arith
length-events_of two (item d ds) =
    let more = length-events_of two ds in
    let here = length-with_some (event_of two d) (events_of two ds) in
    omega arith

-- there are no more moves than elements
pub length-moves_of : (n : ℕ) (ds : Items) → length (moves_of n ds) ≤ items_len ds
length-moves_of n no_items = omega arith
length-moves_of n (item d ds) =
    let more = length-moves_of n ds in
    let here = length-with_some (move_of n d) (moves_of n ds) in
    omega arith

-- where no fault tells of too many, there are at most 100,000
pub few : (n : ℕ) (f : Fault) → unless (nat_lt n 100001) f ≡ [] → n ≤ 100000
few n f h = few_by (nat_lt n 100001) n f refl h
  where
    few_by : (b : Bool) (n : ℕ) (f : Fault) → nat_lt n 100001 ≡ b → unless b f ≡ [] → n ≤ 100000
    few_by true n f e h = grind (arith, nat_tests)
    few_by false n f e h = cc
