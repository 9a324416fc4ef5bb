-- Names whose texts were judged, each by itself.
use Rattle.std.proofs.Common.{◌≡◌, ℕ, List, [], ◌∷◌, ◌++◌, map, length, suc, refl, sym, ap, subst, ◌∙◌, ◌⊎◌, inl, inr, Option, Result, Ok, Err}
use Rattle.std.specs.List.{AllZip}
use Rattle.kr_model.specs.Protocol.{Protocol}
use Rattle.kr_judge.specs.declared.verdict.Verdict.{Verdict}
use Rattle.kr_judge.specs.Verdicts.{verdict_of_run}
use Rattle.kr_script.specs.Script.{Script}
use Rattle.kr_script.specs.declared.faults.ScriptFault.TheVariants as told_as
use Rattle.kr_script.specs.Faults.{too_long, not_json, format, opening, step}
use Rattle.kr_batch.specs.declared.named.Unjudged.{Unjudged}
use Rattle.kr_batch.specs.declared.named.Unjudged.TheVariants as unjudged
use Rattle.kr_batch.specs.declared.named.JudgeFault.{JudgeFault}
use Rattle.kr_batch.specs.declared.named.JudgeFault.TheVariants as fault
use Rattle.kr_batch.specs.Names.{AreNamed, IsFirst, ExplainsNames, Judges, judge_fault_at}

module _ (p : Protocol) (may_be : List ℕ → Option (List ℕ) → Type 0) where
  -- where all were judged, the verdicts are those on the scripts that the names stand for
  pub all_judged : (names : List (List ℕ)) (vs : List Verdict) → AllZip (Judges p may_be) names (map Ok vs)
      → (ss : List Script) × (AreNamed may_be names ss × (vs ≡ map (λ s. verdict_of_run p s.opening s.steps) ss))
  all_judged [] [] h = ([], (tt, refl))
  all_judged [] (v ∷ vs) h = absurd h
  all_judged (n ∷ ns) [] h = absurd h
  all_judged (n ∷ ns) (v ∷ vs) ((s, (is, told)), h) =
      let (ss, (are, all)) = all_judged ns vs h in
      (s ∷ ss, ((is, are), ap (λ w. w ∷ vs) told ∙ ap (λ l. verdict_of_run p s.opening s.steps ∷ l) all))

  -- where one was not, it is the first
  first_unjudged : (names : List (List ℕ)) (before : List Verdict) (u : Unjudged) (rest : List (Result Verdict Unjudged))
      → AllZip (Judges p may_be) names (map Ok before ++ Err u ∷ rest) → IsFirst may_be names (length before) (λ n. Judges p may_be n (Err u))
  first_unjudged [] [] u rest h = absurd h
  first_unjudged [] (v ∷ vs) u rest h = absurd h
  first_unjudged (n ∷ ns) [] u rest h = ([], n, ns, [], refl, refl, tt, h.0)
  first_unjudged (n ∷ ns) (v ∷ vs) u rest ((s, (is, told)), h) =
      let (before, name, after, ss, split, long, are, holds) = first_unjudged ns vs u rest h in
      (n ∷ before, name, after, s ∷ ss, ap (λ l. n ∷ l) split, ap suc long, (is, are), holds)

  -- what is told of its text explains it
  explained : (names : List (List ℕ)) (at : ℕ) (u : Unjudged) → IsFirst may_be names at (λ n. Judges p may_be n (Err u)) → ExplainsNames may_be names (judge_fault_at at u)
  explained names at unjudged.Unreadable h = h
  explained names at (unjudged.Script told_as.TooLong) h = (too_long, (refl, h))
  explained names at (unjudged.Script told_as.NotJson) h = (not_json, (refl, h))
  explained names at (unjudged.Script told_as.Format) h = (format, (refl, h))
  explained names at (unjudged.Script (told_as.Field path)) h = (_, (refl, h))
  explained names at (unjudged.Script (told_as.Opening i)) h = (opening i, (refl, h))
  explained names at (unjudged.Script (told_as.Step i)) h = (step i, (refl, h))
  explained names at (unjudged.Script (told_as.TooMany path)) h = (_, (refl, h))
  explained names at (unjudged.Script told_as.Memory) h = tt

  -- and what is told of the list explains it
  pub first_told : (names : List (List ℕ)) (rs : List (Result Verdict Unjudged)) (e : JudgeFault) → AllZip (Judges p may_be) names rs
      → (e ≡ fault.Memory) ⊎ ((u : Unjudged) × (before : List Verdict) × (rest : List (Result Verdict Unjudged)) × (e ≡ judge_fault_at (length before) u) × (rs ≡ map Ok before ++ Err u ∷ rest))
      → ExplainsNames may_be names e
  first_told names rs e are (inl none) = subst (ExplainsNames may_be names) (sym none) tt
  first_told names rs e are (inr (u, before, rest, is, list)) =
      subst (ExplainsNames may_be names) (sym is)
      (explained names (length before) u (first_unjudged names before u rest (subst (AllZip (Judges p may_be) names) list are)))
