-- What is known of several cells can be had twice, and two that know the same cells agree. Assumes `Logic`.
use Rattle.std.proofs.Common.{◌≡◌, ℕ, zero, suc, List, [], ◌∷◌, ◌++◌, map, Option, None, Some, refl, subst}
use Rattle.std.specs.Prelude.{slice_get, slice_index_or}
use mathlib.Core.List.{IsPrefix}
use seplogic.Ra.Ura.{Ura}
use base.Logic.{SProp, ent, sep, emp, id⊢, via, emp∗, fst∗, snd∗, mono_r, mono∗, comm∗, assoc∗}
use base.Fml.{Fml}
use base.Shift.{Keyless}
use types.Logic.{Logic, sem}
use types.Kit.{‵, ◌⊛◌, ◌$◌, ◌∵◌, !, qed, move, split, fjoin, use1, done}
use contract.Monad.{fact, fact_i, fact_use}
use denote.RattleType.{RattleType}
use Rattle.once_cell.specs.Once.{noted}
use Rattle.once_cell.proofs.Notes.{noted_twice, noted_agree}
use Rattle.kr_records.specs.Owned.{all_noted, name_in, value_in, told}

module _ {M : Type 1} {𝓤 : Ura M} (𝓛 : Logic 𝓤) (R : RattleType) where
  pub all_twice : (ps : List (ℕ × R.Denot)) → ent 𝓤 (sem 𝓛 (all_noted R ps)) (sep 𝓤 (sem 𝓛 (all_noted R ps)) (sem 𝓛 (all_noted R ps)))
  all_twice [] = emp∗ 𝓤 (emp 𝓤)
  all_twice (p ∷ ps) = let N : Fml = noted R p.0 (Some p.1) in let A : Fml = all_noted R ps in
      qed 𝓛 (‵ N ∷ ‵ A ∷ []) ∵ use1 𝓛 (‵ N ⊛ ‵ N) (noted_twice 𝓛 R p.0 (Some p.1)) $ split ! $ move ! (2 ∷ []) $ use1 𝓛 (‵ A ⊛ ‵ A) (all_twice ps) $ split ! $
      move ! (2 ∷ 0 ∷ []) $ fjoin ! $ move ! (0 ∷ 2 ∷ 1 ∷ []) $ done !

  pub all_at : (ps : List (ℕ × R.Denot)) (k : ℕ) → ent 𝓤 (sem 𝓛 (all_noted R ps)) (sem 𝓛 (noted R (slice_index_or (map name_in ps) k 0) (slice_get (map value_in ps) k)))
  all_at [] k = id⊢ 𝓤 (emp 𝓤)
  all_at (p ∷ ps) zero = fst∗ 𝓤 (sem 𝓛 (noted R p.0 (Some p.1))) (sem 𝓛 (all_noted R ps))
  all_at (p ∷ ps) (suc k) = via 𝓤 (sem 𝓛 (all_noted R ps)) (snd∗ 𝓤 (sem 𝓛 (noted R p.0 (Some p.1))) (sem 𝓛 (all_noted R ps))) (all_at ps k)

  pub all_more : (ps : List (ℕ × R.Denot)) (γ : ℕ) (k : Option R.Denot) → ent 𝓤 (sep 𝓤 (sem 𝓛 (all_noted R ps)) (sem 𝓛 (noted R γ k))) (sem 𝓛 (all_noted R (ps ++ told γ k)))
  all_more [] γ None = fst∗ 𝓤 (emp 𝓤) (emp 𝓤)
  all_more [] γ (Some x) = comm∗ 𝓤 (emp 𝓤) (sem 𝓛 (noted R γ (Some x)))
  all_more (p ∷ ps) γ k = let N : SProp 𝓤 = sem 𝓛 (noted R p.0 (Some p.1)) in let A : SProp 𝓤 = sem 𝓛 (all_noted R ps) in let K : SProp 𝓤 = sem 𝓛 (noted R γ k) in
      via 𝓤 (sep 𝓤 N (sep 𝓤 A K)) (assoc∗ 𝓤 N A K) (mono_r 𝓤 N (all_more ps γ k))

  pub all_agree : (ps qs : List (ℕ × R.Denot)) → IsPrefix (map name_in ps) (map name_in qs) → ent 𝓤 (sep 𝓤 (sem 𝓛 (all_noted R ps)) (sem 𝓛 (all_noted R qs))) (fact 𝓤 (IsPrefix ps qs))
  all_agree [] qs h = fact_i 𝓤 (IsPrefix [] qs) (sep 𝓤 (emp 𝓤) (sem 𝓛 (all_noted R qs))) (qs, refl)
  all_agree (p ∷ ps) [] h = absurd (cc (h.1))
  all_agree (p ∷ ps) (q ∷ qs) h =
      let N : SProp 𝓤 = sem 𝓛 (noted R p.0 (Some p.1)) in let A : SProp 𝓤 = sem 𝓛 (all_noted R ps) in let O : SProp 𝓤 = sem 𝓛 (noted R q.0 (Some q.1)) in let B : SProp 𝓤 = sem 𝓛 (all_noted R qs) in
      let same : p.0 ≡ q.0 = cc (h.1) in
      let rest : IsPrefix (map name_in ps) (map name_in qs) = (h.0, cc (h.1)) in
      let one : ent 𝓤 (sep 𝓤 N O) (fact 𝓤 (p.1 ≡ q.1)) = subst (λ (γ : ℕ). ent 𝓤 (sep 𝓤 N (sem 𝓛 (noted R γ (Some q.1)))) (fact 𝓤 (p.1 ≡ q.1))) same (noted_agree 𝓛 R p.0 (Some p.1) (Some q.1)) in
      fact_use 𝓤 (p.1 ≡ q.1) (via 𝓤 (sep 𝓤 N O) (mono∗ 𝓤 (fst∗ 𝓤 N A) (fst∗ 𝓤 O B)) one) (λ so.
      fact_use 𝓤 (IsPrefix ps qs) (via 𝓤 (sep 𝓤 A B) (mono∗ 𝓤 (snd∗ 𝓤 N A) (snd∗ 𝓤 O B)) (all_agree ps qs rest)) (λ pre.
      let pair : p ≡ q = λ i. (same i, so i) in
      fact_i 𝓤 (IsPrefix (p ∷ ps) (q ∷ qs)) (sep 𝓤 (sep 𝓤 N A) (sep 𝓤 O B)) (pre.0, λ i. pair i ∷ pre.1 i)))

pub all_keyless : (R : RattleType) (ps : List (ℕ × R.Denot)) → Keyless (all_noted R ps)
all_keyless R [] = tt
all_keyless R (p ∷ ps) = (tt, all_keyless R ps)
