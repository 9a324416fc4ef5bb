-- Causes that no schedule goes wrong by.
use Rattle.std.specs.Prelude.{slice_index_or, ◌≡◌, ◌<◌, ◌⊎◌, ℕ, true, false, List, All, Contains}
use Rattle.std.specs.List.{Any}
use Rattle.kr_model.specs.declared.Cover.{Cover}
use Rattle.kr_model.specs.declared.FailedCase.{FailedCase}
use Rattle.kr_model.specs.Protocol.{Protocol}
use Rattle.kr_decide.specs.Survey.{IsHeld, HasHole, is_held, has_hole}
use Rattle.kr_decide.specs.declared.survey.Survey.{Survey}
use Rattle.kr_explain_core.specs.declared.harmless.Harmless.{Harmless}
use Rattle.kr_explain_core.specs.declared.harmless.Harmless.TheVariants.{NeverHeld, NeverLetIn}

-- A case is of this cover.
abbrev pub IsOfCover : Cover → FailedCase → Type 0
IsOfCover c f = f.cover ≡ c

-- A case is of this cover and mode.
abbrev pub IsOf : Cover → ℕ → FailedCase → Type 0
IsOf c m f = (f.cover ≡ c) × (f.mode ≡ m)

-- A hole of this cover and mode belongs to the cause that has these of the failed cases: one of them is of both; or no failed case is, and one of them is of the cover.
abbrev pub BelongsTo : List FailedCase → List FailedCase → Cover → ℕ → Type 0
BelongsTo failed cases c m = Any (IsOf c m) cases ⊎ ((Any (IsOf c m) failed → ⊥) × Any (IsOfCover c) cases)

-- The cause of p that has these of the failed cases is harmless: no hole that schedules lead to belongs to it.
abbrev pub IsHarmless : Protocol → List FailedCase → List FailedCase → Type 0
IsHarmless p failed cases = (c : Cover) (m : ℕ) → m < 16 → HasHole p c m → BelongsTo failed cases c m → ⊥

-- Why a cause of these cases is harmless: no transaction can hold the mode of any of them with its cover to protect, or one can hold that of this one.
abbrev pub IsReason : Protocol → List FailedCase → Harmless → Type 0
IsReason p cases NeverHeld = All (λ f. IsHeld p f.cover f.mode → ⊥) cases
IsReason p cases (NeverLetIn held) = Contains cases held × IsHeld p held.cover held.mode

-- The survey says that there is a hole of this cover and mode, and it belongs to the cause.
abbrev pub HoleBelongs : Survey → List FailedCase → List FailedCase → Cover → ℕ → Type 0
HoleBelongs s failed cases c m = (has_hole s c m ≡ true) × BelongsTo failed cases c m

-- The same, by what a survey says: of one cover and the modes below n, of all covers and modes, and why.
abbrev pub IsClearBelow : Survey → List FailedCase → List FailedCase → Cover → ℕ → Type 0
IsClearBelow s failed cases c n = (m : ℕ) → m < n → has_hole s c m ≡ true → BelongsTo failed cases c m → ⊥

abbrev pub IsClear : Survey → List FailedCase → List FailedCase → Type 0
IsClear s failed cases = (c : Cover) → IsClearBelow s failed cases c 16

-- None of the first n cases has a mode that can be held with its cover to protect.
abbrev pub IsNeverHeldBelow : Survey → List FailedCase → ℕ → Type 0
IsNeverHeldBelow s cases n = (k : ℕ) (d : FailedCase) → k < n → is_held s (slice_index_or cases k d).cover (slice_index_or cases k d).mode ≡ false

abbrev pub IsReasonBy : Survey → List FailedCase → Harmless → Type 0
IsReasonBy s cases NeverHeld = All (λ f. is_held s f.cover f.mode ≡ false) cases
IsReasonBy s cases (NeverLetIn held) = Contains cases held × (is_held s held.cover held.mode ≡ true)
