-- Causes that are told with what mends them, one after another.
use Rattle.std.specs.Prelude.{◌≡◌, List, [], ◌∷◌, ◌++◌}
use Rattle.std.proofs.Common.{sym, ap, subst, ◌∙◌, append_assoc}
use Rattle.std.proofs.lemmas.List.{map-append}
use Rattle.kr_ghost.specs.declared.cases.FailedCase.{FailedCase}
use Rattle.kr_ghost.specs.Protocol.{GhostProtocol}
use Rattle.kr_ghost_explain.specs.declared.causes.GhostCause.{GhostCause}
use Rattle.kr_ghost_explain.specs.declared.explanation.MendedCause.{MendedCause}
use Rattle.kr_ghost_explain.specs.Blames.{AreGhostCauses}
use Rattle.kr_ghost_explain.specs.Mends.{causes_of}

-- one cause more is told
pub one_more : (all rest : List GhostCause) (told : List MendedCause) (c : GhostCause) (m : MendedCause) → all ≡ causes_of told ++ (c ∷ rest) → m.cause ≡ c → all ≡ causes_of (told ++ m ∷ []) ++ rest
one_more all rest told c m before same =
    let moved : causes_of (told ++ m ∷ []) ++ rest ≡ causes_of told ++ (m.cause ∷ rest) = ap (λ xs. xs ++ rest) (map-append (λ x. x.cause) told (m ∷ [])) ∙ append_assoc (causes_of told) (m.cause ∷ []) rest in
    before ∙ (ap (λ d. causes_of told ++ (d ∷ rest)) (sym same) ∙ sym moved)

-- the causes that are told are those that were found
pub same_causes : (p : GhostProtocol) (failed given : List FailedCase) (causes told : List GhostCause) → given ≡ failed → causes ≡ told → AreGhostCauses p given causes → AreGhostCauses p failed told
same_causes p failed given causes told e f are = subst (λ (xs : List GhostCause). AreGhostCauses p failed xs) f (subst (λ (xs : List FailedCase). AreGhostCauses p xs causes) e are)
