-- Committed programs with the answers that were observed, and what it is for them to be serializable in commit order as far as they were given.
use Rattle.std.specs.Prelude.{◌≡◌, ℕ, suc, ◌+◌, IsTrue, false, List, [], ◌∷◌, ◌++◌, Option, Some, None, if◌then◌else◌, length}
use Rattle.std.specs.List.{flat_map}
use Rattle.kr_model.specs.declared.Op.{Op}
use Rattle.kr_model.specs.declared.Reply.{Reply}
use Rattle.kr_model.specs.Map.{Map}
use Rattle.kr_model.specs.Serial.{whole}
use Rattle.kr_trace_lines.specs.declared.observed.Observed.{Observed}
use Rattle.kr_trace_lines.specs.Fits.{fits}
use Rattle.kr_trace_follow.specs.declared.judge.Difference.{Difference}

-- An operation with the answer that was observed.
abbrev pub Given : Type 0
Given = Op × Observed

-- Each answer is, as far as it was given, that of the operation run whole on the map that the operations before it left.
abbrev pub AreAnsweredWhereGiven : Map → List Given → Type 0
AreAnsweredWhereGiven m [] = Unit {0}
AreAnsweredWhereGiven m ((o, a) ∷ rest) = IsTrue (fits (whole m o).0 a) × AreAnsweredWhereGiven (whole m o).1 rest

-- The map that the operations leave, run whole.
abbrev pub map_after : Map → List Given → Map
map_after m [] = m
map_after m ((o, a) ∷ rest) = map_after (whole m o).1 rest

-- Programs in commit order are serializable in it from the map m, as far as their answers were given.
abbrev pub AreSerialWhereGiven : Map → List (List Given) → Type 0
AreSerialWhereGiven m ps = AreAnsweredWhereGiven m (flat_map (λ p. p) ps)

-- The difference of an operation with this number and this answer in the serial run, if the answer isn't what was given.
abbrev pub difference_at : ℕ → Reply → Observed → Option Difference
difference_at n r a = if fits r a then None else Some (record { operation = n; serial = r })

-- The first difference, or else the later one.
abbrev pub or_later : Option Difference → Option Difference → Option Difference
or_later (Some d) later = Some d
or_later None later = later

-- The first answer that differs, of the operations of a program numbered from n that run from m.
abbrev pub difference_in : Map → ℕ → List Given → Option Difference
difference_in m n [] = None
difference_in m n ((o, a) ∷ rest) = or_later (difference_at n (whole m o).0 a) (difference_in (whole m o).1 (suc n) rest)

-- The judge finds no difference in any of the programs, judged one after another from the map m.
abbrev pub NoneDiffers : Map → List (List Given) → Type 0
NoneDiffers m [] = Unit {0}
NoneDiffers m (p ∷ ps) = (difference_in m 1 p ≡ None) × NoneDiffers (map_after m p) ps

-- What a first difference is, said by itself: the answer of the operation isn't that of the operation run whole, as far as it was given, and each answer before it is.
pub record IsFirstDifference (m : Map) (os : List Given) (d : Difference) : Type 0 where
  -- the operations before it, the operation, its answer, and what comes after
  pub before : List Given
  pub op : Op
  pub answer : Observed
  pub rest : List Given
  pub place : os ≡ before ++ (op, answer) ∷ rest
  pub numbered : d.operation ≡ length before + 1
  pub answered : AreAnsweredWhereGiven m before
  pub whole_answer : d.serial ≡ (whole (map_after m before) op).0
  pub differs : fits d.serial answer ≡ false
