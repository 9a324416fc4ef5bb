-- Causes that are told, one after another.
use Rattle.std.specs.Prelude.{◌≡◌, List, [], ◌∷◌, ◌++◌, All}
use Rattle.std.proofs.Common.{sym, ap, subst, ◌∙◌, append_assoc}
use Rattle.std.proofs.lemmas.List.{map-append}
use Rattle.kr_model.specs.declared.FailedCase.{FailedCase}
use Rattle.kr_model.specs.Protocol.{Protocol}
use Rattle.kr_explain_causes.specs.declared.cause.Cause.{Cause}
use Rattle.kr_explain_causes.specs.Causes.{ShareOut}
use Rattle.kr_explain_causes.specs.Shares.{IsCause}
use Rattle.kr_explain_core.specs.declared.explanation.Explained.{Explained}
use Rattle.kr_explain_core.specs.Explained.{causes_of}

-- one cause more is told
pub one_more : (all rest : List Cause) (told : List Explained) (c : Cause) (e : Explained) → all ≡ causes_of told ++ (c ∷ rest) → e.cause ≡ c → all ≡ causes_of (told ++ e ∷ []) ++ rest
one_more all rest told c e before same =
    let moved : causes_of (told ++ e ∷ []) ++ rest ≡ causes_of told ++ (e.cause ∷ rest) = ap (λ xs. xs ++ rest) (map-append (λ x. x.cause) told (e ∷ [])) ∙ append_assoc (causes_of told) (e.cause ∷ []) rest in
    before ∙ (ap (λ d. causes_of told ++ (d ∷ rest)) (sym same) ∙ sym moved)

-- the causes that are told share out what the causes did
pub same_shared : (causes told : List Cause) (failed : List FailedCase) → causes ≡ told → ShareOut causes failed → ShareOut told failed
same_shared causes told failed same shared = subst (λ xs. ShareOut xs failed) same shared

-- what is to blame for each is said of those that are told
pub same_blamed : (p : Protocol) (causes told : List Cause) (failed : List FailedCase) → causes ≡ told → All (IsCause p failed) causes → All (IsCause p failed) told
same_blamed p causes told failed same each = subst (All (IsCause p failed)) same each
