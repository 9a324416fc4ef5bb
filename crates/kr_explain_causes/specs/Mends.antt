-- Changes that mend failed cases.
use Rattle.std.specs.Prelude.{◌≡◌, ◌≢◌, ◌≤◌, ◌⊎◌, [], ◌∷◌, ◌++◌, List, true, All, length}
use Rattle.std.specs.List.{Any}
use Rattle.kr_model.specs.declared.FailedCase.{FailedCase}
use Rattle.kr_model.specs.Protocol.{Protocol}
use Rattle.kr_model.specs.Covers.{failed_cases, IsCovered}
use Rattle.kr_model.specs.Safe.{IsSafe}
use Rattle.kr_explain_causes.specs.declared.blame.Blame.{Blame}
use Rattle.kr_explain_causes.specs.declared.blame.Blame.TheVariants.{Place, Request, Conversion, Pair}
use Rattle.kr_change.specs.declared.change.Change.{Change}
use Rattle.kr_change.specs.declared.change.Change.TheVariants as change
use Rattle.kr_explain_causes.specs.declared.mend.Mend.{Mend}
use Rattle.kr_explain_causes.specs.declared.mend.Verdict.{Verdict}
use Rattle.kr_explain_causes.specs.declared.mend.Verdict.TheVariants.{Accepted, Safe, Mended, Neither}
use Rattle.kr_change.specs.Changes.{changed, is_change, with_mode}

-- Two failures are of one case: whatever its mode is, and the place that is left open.
pub record IsSameCase (f g : FailedCase) : Type 0 where
  pub case : f.case ≡ g.case
  pub cover : f.cover ≡ g.cover
  pub from : f.from ≡ g.from

-- A failure is of one of the cases.
pub record IsAmong (f : FailedCase) (cases : List FailedCase) : Type 0 where
  pub some : Any (IsSameCase f) cases

-- Of the cases that fail after a change, none is among those that it has to mend, and each had failed before.
pub record AreMended (cases failed after : List FailedCase) : Type 0 where
  pub mended : All (λ f. IsAmong f cases → ⊥) after
  pub no_other : All (λ f. IsAmong f failed) after

-- The change is one of p's, and with it the table is accepted.
pub record Accepts (p : Protocol) (c : Change) : Type 0 where
  pub change : is_change p c ≡ true
  pub covered : IsCovered (changed p c)

-- The change is one of p's, and with it the table isn't accepted, but safe.
pub record MakesSafe (p : Protocol) (c : Change) : Type 0 where
  pub change : is_change p c ≡ true
  pub refused : failed_cases (changed p c) ≢ []
  pub safe : IsSafe (changed p c)

-- The change is one of p's, and with it the table isn't accepted, but the cases hold, and no case fails that held.
pub record Mends (p : Protocol) (cases failed : List FailedCase) (c : Change) : Type 0 where
  pub change : is_change p c ≡ true
  pub refused : failed_cases (changed p c) ≢ []
  pub mended : AreMended cases failed (failed_cases (changed p c))

-- The change is of the entry that is to blame.
abbrev pub IsOf : Blame → Change → Type 0
IsOf (Place row side) (change.Request r s own_next request) = (r ≡ row) × (s ≡ side)
IsOf (Request row side asked) (change.Request r s own_next request) = (r ≡ row) × (s ≡ side)
IsOf (Conversion held requested) (change.Convert h q mode) = (h ≡ held) × (q ≡ requested)
IsOf (Pair requested held) (change.Compatible q h is_compatible) = (q ≡ requested) × (h ≡ held)
IsOf _ _ = ⊥

-- Two changes differ in their mode alone.
abbrev pub AreAlike : Change → Change → Type 0
AreAlike c d = with_mode 0 c ≡ with_mode 0 d

-- A change was put behind the others of its verdict.
abbrev pub IsPut : Change → Verdict → Mend → Mend → Type 0
IsPut c Accepted old new = (new.accepted.items ≡ old.accepted.items ++ c ∷ []) × ((new.safe.items ≡ old.safe.items) × (new.mended.items ≡ old.mended.items))
IsPut c Safe old new = (new.accepted.items ≡ old.accepted.items) × ((new.safe.items ≡ old.safe.items ++ c ∷ []) × (new.mended.items ≡ old.mended.items))
IsPut c Mended old new = (new.accepted.items ≡ old.accepted.items) × ((new.safe.items ≡ old.safe.items) × (new.mended.items ≡ old.mended.items ++ c ∷ []))
IsPut c Neither old new = (new.accepted.items ≡ old.accepted.items) × ((new.safe.items ≡ old.safe.items) × (new.mended.items ≡ old.mended.items))

-- All changes that are named.
abbrev pub changes_of : Mend → List Change
changes_of m = m.accepted.items ++ (m.safe.items ++ m.mended.items)

-- What is said of the changes that are told: one thing of those with which the table is accepted, one of those with which it is safe, and one of the others.
pub record AreTold (A S M : Change → Type 0) (m : Mend) : Type 0 where
  pub accepted : All A m.accepted.items
  pub safe : All S m.safe.items
  pub mended : All M m.mended.items

-- The changes that are named are of one entry.
pub record AreOfEntry (Is : Change → Type 0) (m : Mend) : Type 0 where
  -- those that only mend are named where there are no others
  pub last : (m.mended.items ≡ []) ⊎ ((m.accepted.items ≡ []) × (m.safe.items ≡ []))
  -- each is of the entry, and any two of them differ in their mode alone
  pub of_entry : All Is (changes_of m)
  pub alike : All (λ c. All (AreAlike c) (changes_of m)) (changes_of m)
  -- there are at most 15
  pub few : length (changes_of m) ≤ 15

-- The same of one change by its verdict.
abbrev pub TellsBy : (Change → Type 0) → (Change → Type 0) → (Change → Type 0) → Change → Verdict → Type 0
TellsBy A S M c Accepted = A c
TellsBy A S M c Safe = S c
TellsBy A S M c Mended = M c
TellsBy A S M c Neither = Unit {0}

-- The changes that are told mend.
abbrev pub AreMends : Protocol → List FailedCase → List FailedCase → Mend → Type 0
AreMends p cases failed m = AreTold (Accepts p) (MakesSafe p) (Mends p cases failed) m

-- The changes that are named are of one entry, which is to blame.
abbrev pub AreOfOneEntry : Blame → Mend → Type 0
AreOfOneEntry blame m = AreOfEntry (IsOf blame) m

-- What is said of a change.
abbrev pub Tells : Protocol → List FailedCase → List FailedCase → Change → Verdict → Type 0
Tells p cases failed c v = TellsBy (Accepts p) (MakesSafe p) (Mends p cases failed) c v

-- What is said of the table p that a change made.
abbrev pub IsVerdict : Protocol → List FailedCase → List FailedCase → Verdict → Type 0
IsVerdict p cases failed Accepted = IsCovered p
IsVerdict p cases failed Safe = (failed_cases p ≢ []) × IsSafe p
IsVerdict p cases failed Mended = (failed_cases p ≢ []) × AreMended cases failed (failed_cases p)
IsVerdict p cases failed Neither = Unit {0}
