-- The causes of failed cases, and the reasons by which they are found.
use Rattle.std.specs.Prelude.{◌≡◌, ◌⊎◌, ℕ, ◌<◌, List, All, length, slice_index_or, Some}
use Rattle.std.specs.List.{Any}
use Rattle.std.specs.Option.{IfSome}
use Rattle.kr_model.specs.declared.FailedCase.{FailedCase}
use Rattle.kr_model.specs.Protocol.{Protocol}
use Rattle.kr_explain_causes.specs.declared.blame.Blame.{Blame}
use Rattle.kr_explain_causes.specs.declared.cause.Cause.{Cause}
use Rattle.kr_explain_causes.specs.declared.cause.Suspect.{Suspect}
use Rattle.kr_explain_causes.specs.declared.reasons.Reasons.{Reasons}
use Rattle.kr_explain_causes.specs.Blames.{IsBlamed}
use Rattle.kr_explain_causes.specs.Causes.{IsSublist}

-- A cause of p, of which these cases fail.
pub record IsCause (p : Protocol) (failed : List FailedCase) (c : Cause) : Type 0 where
  -- what is to blame is a reason of each of its cases
  pub blamed : All (IsBlamed p c.blame) c.cases.items
  -- its cases stand in the order in which they were given
  pub in_order : IsSublist c.cases.items failed

-- Reasons --

-- A blame is one of the reasons.
abbrev pub Names : Reasons → Blame → Type 0
Names r b = (r.first ≡ b) ⊎ Any (λ o. o ≡ Some b) r.others

-- The reasons are those of a failed case of p.
pub record AreReasons (p : Protocol) (f : FailedCase) (r : Reasons) : Type 0 where
  pub first : IsBlamed p r.first f
  pub others : All (λ o. IfSome o (λ b. IsBlamed p b f)) r.others

-- A suspect has the reasons of its case.
abbrev pub IsSuspect : Protocol → Suspect → Type 0
IsSuspect p s = AreReasons p s.case s.reasons

-- The suspect of this number names the blame.
pub record IsNamedBy (suspects : List Suspect) (b : Blame) (number : ℕ) : Type 0 where
  pub within : number < length suspects
  pub names : (d : Suspect) → Names (slice_index_or suspects number d).reasons b

-- Some suspect of this case names the blame.
abbrev pub IsNamedFor : List Suspect → Blame → FailedCase → Type 0
IsNamedFor suspects b f = Any (λ s. (s.case ≡ f) × Names s.reasons b) suspects
