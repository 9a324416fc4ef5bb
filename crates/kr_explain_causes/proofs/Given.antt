-- What is said of a changed table is said of the change.
use Rattle.std.proofs.Common.{◌≡◌, true, subst}
use Rattle.kr_model.specs.declared.FailedCase.{FailedCase}
use Rattle.kr_model.specs.Protocol.{Protocol}
use Rattle.std.specs.Prelude.{List}
use Rattle.kr_change.specs.declared.change.Change.{Change}
use Rattle.kr_change.specs.Changes.{changed, is_change}
use Rattle.kr_explain_causes.specs.declared.mend.Verdict.{Verdict}
use Rattle.kr_explain_causes.specs.declared.mend.Verdict.TheVariants.{Accepted, Safe, Mended, Neither}
use Rattle.kr_explain_causes.specs.Mends.{IsVerdict, Tells}

said : (p : Protocol) (cases failed : List FailedCase) (c : Change) (v : Verdict) → is_change p c ≡ true → IsVerdict (changed p c) cases failed v → Tells p cases failed c v
said p cases failed c Accepted is told = record { change = is; covered = told }
said p cases failed c Safe is told = record { change = is; refused = told.0; safe = told.1 }
said p cases failed c Mended is told = record { change = is; refused = told.0; mended = told.1 }
said p cases failed c Neither is told = tt

-- of the same table with the same change
pub said_of : (p q : Protocol) (cases failed : List FailedCase) (c d : Change) (v : Verdict) → q ≡ p → d ≡ c → is_change p c ≡ true → IsVerdict (changed q d) cases failed v → Tells p cases failed c v
said_of p q cases failed c d v e f is told =
    said p cases failed c v is (subst (λ (r : Protocol). IsVerdict (changed r c) cases failed v) e (subst (λ (x : Change). IsVerdict (changed q x) cases failed v) f told))
