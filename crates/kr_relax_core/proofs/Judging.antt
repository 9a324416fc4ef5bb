-- What a change does, by where the two tables differ, and a list of relaxations.
use Rattle.std.proofs.Common.{ℕ, true, false, ◌≡◌, ◌<◌, ◌+◌, ◌∙◌, ◌↔◌, List, [], ◌∷◌, ◌++◌, All, length, get_or, take, map, ap, refl, sym, subst, arith}
use Rattle.std.specs.Prelude.{Contains}
use Rattle.std.specs.List.Sorted.{IsPermutation}
use Rattle.std.proofs.lemmas.List.{map_push, take_more}
use Rattle.std.proofs.lemmas.List.Elements.{All-push}
use Rattle.std.proofs.lemmas.List.Sorted.{All-permutation, Contains-permutation, IsPermutation-map, length_permutation}
use Rattle.kr_kinds.specs.Kinds.{IndexProtocol, IsSafeIndex}
use Rattle.kr_change.specs.declared.change.Change.{Change}
use Rattle.kr_change.specs.GhostChanges.{changed_index, is_index_change}
use Rattle.kr_change.specs.GhostEvery.{index_changes_of}
use Rattle.kr_relax_core.specs.declared.outcome.Outcome.{Outcome}
use Rattle.kr_relax_core.specs.declared.outcome.Outcome.TheVariants as outcome
use Rattle.kr_relax_core.specs.declared.outcome.Judged.{Judged}
use Rattle.kr_relax_core.specs.declared.relax.Relaxed.{Relaxed}
use Rattle.kr_relax_core.specs.Twins.{Differs}
use Rattle.kr_relax_core.specs.Width.{AreGained}
use Rattle.kr_relax_core.specs.Relaxations.{IsRelaxation, IsRelaxed, IsTight, AreAlike, AreFalling, AreRelaxations, changes_in}
use Rattle.kr_relax_core.specs.Outcomes.{IsJudged, IsOutcome}
use Rattle.kr_relax_core.specs.Selects.{Selects}
use Rattle.kr_relax_core.proofs.Counting.{none_gained, some_gained}
use Rattle.kr_relax_core.proofs.Selecting.{select_passed, select_taken, selected_all, selected_none}

-- The table that was changed is the one that was given.
pub same_table : (p q : IndexProtocol) (c d : Change) → q ≡ p → d ≡ c → changed_index q d ≡ changed_index p c
same_table p q c d e f = ap (λ (r : IndexProtocol). changed_index r d) e ∙ ap (λ (x : Change). changed_index p x) f

-- It blocks somewhere what was granted;
pub blocks_more : (p q : IndexProtocol) (c : Change) → q ≡ changed_index p c → is_index_change p c ≡ true → Differs p q false → IsOutcome p c outcome.BlocksMore
blocks_more p q c e change d = (change, subst (λ (r : IndexProtocol). Differs p r false) e d)

-- else grants nothing more,
pub lets_nothing_more : (p q : IndexProtocol) (c : Change) (n : ℕ) → q ≡ changed_index p c → is_index_change p c ≡ true → (Differs p q false → ⊥) → AreGained p q n → n ≡ 0 → IsOutcome p c outcome.LetsNothingMore
lets_nothing_more p q c n e change isnt gained none = record {
  change = change;
  weaker = λ d. isnt (subst (λ (r : IndexProtocol). Differs p r false) (sym e) d);
  no_more = λ d. none_gained p q n gained none (subst (λ (r : IndexProtocol). Differs p r true) (sym e) d);
}

-- or isn't safe;
pub unsafe_with : (p q : IndexProtocol) (c : Change) (n : ℕ) → q ≡ changed_index p c → is_index_change p c ≡ true → (Differs p q false → ⊥) → AreGained p q n → (n ≡ 0 → ⊥) → (IsSafeIndex q → ⊥)
    → IsOutcome p c outcome.Unsafe
unsafe_with p q c n e change isnt gained some unsafe = record {
  change = change;
  weaker = λ d. isnt (subst (λ (r : IndexProtocol). Differs p r false) (sym e) d);
  more = subst (λ (r : IndexProtocol). Differs p r true) e (some_gained p q n gained some);
  unsafe = λ s. unsafe (subst IsSafeIndex (sym e) s);
}

-- else the change is a relaxation.
pub relaxes : (p q : IndexProtocol) (c : Change) (n : ℕ) → q ≡ changed_index p c → is_index_change p c ≡ true → (Differs p q false → ⊥) → AreGained p q n → (n ≡ 0 → ⊥) → IsSafeIndex q
    → IsOutcome p c (outcome.Relaxes n)
relaxes p q c n e change isnt gained some safe = (
  record {
    change = change;
    weaker = λ d. isnt (subst (λ (r : IndexProtocol). Differs p r false) (sym e) d);
    more = subst (λ (r : IndexProtocol). Differs p r true) e (some_gained p q n gained some);
    safe = subst IsSafeIndex e safe;
  },
  subst (λ (r : IndexProtocol). AreGained p r n) e gained,
)

-- Only of a relaxation is it the outcome.
pub no_relaxation : (p : IndexProtocol) (c : Change) (o : Outcome) → IsOutcome p c o → ((n : ℕ) → o ≡ outcome.Relaxes n → ⊥) → IsRelaxation p c → ⊥
no_relaxation p c outcome.NoChange is other r = let h = r.change in absurd (cc)
no_relaxation p c outcome.BlocksMore is other r = r.weaker is.1
no_relaxation p c outcome.LetsNothingMore is other r = is.no_more r.more
no_relaxation p c outcome.Unsafe is other r = is.unsafe r.safe
no_relaxation p c (outcome.Relaxes n) is other r = other n refl

-- One change more is judged.
pub judged_changes : (changes : List Change) (old new : List Judged) (n : ℕ) (e : Change) (o : Outcome) → n < length changes
    → new ≡ old ++ (record { change = get_or changes n e; outcome = o }) ∷ [] → map (λ (j : Judged). j.change) old ≡ take n changes → map (λ (j : Judged). j.change) new ≡ take (n + 1) changes
judged_changes changes old new n e o low items before =
    let x : Judged = record { change = get_or changes n e; outcome = o } in
    ap (map (λ (j : Judged). j.change)) items ∙ map_push (λ (j : Judged). j.change) old x ∙ ap (λ (l : List Change). l ++ get_or changes n e ∷ []) before ∙ sym (take_more changes n e low)

pub judged_right : (p : IndexProtocol) (changes : List Change) (old new : List Judged) (n : ℕ) (e : Change) (o : Outcome)
    → new ≡ old ++ (record { change = get_or changes n e; outcome = o }) ∷ [] → IsOutcome p (get_or changes n e) o → All (IsJudged p) old → All (IsJudged p) new
judged_right p changes old new n e o items is before = subst (All (IsJudged p)) (sym items) (All-push (IsJudged p) old (record { change = get_or changes n e; outcome = o }) before is)

-- The changes of those that were judged.
abbrev pub judged_in : List Judged → List Change
judged_in judged = map (λ j. j.change) judged

-- Of the first n, these are the relaxations.
pub record AreRelaxed (p : IndexProtocol) (judged : List Judged) (n : ℕ) (list : List Relaxed) : Type 0 where
  pub each : All (IsRelaxed p) list
  pub order : Selects (IsRelaxation p) (judged_in (take n judged)) (changes_in list)

judged_more : (judged : List Judged) (n : ℕ) (e : Judged) → n < length judged → judged_in (take n judged) ++ (get_or judged n e).change ∷ [] ≡ judged_in (take (n + 1) judged)
judged_more judged n e low = sym (ap judged_in (take_more judged n e low) ∙ map_push (λ (j : Judged). j.change) (take n judged) (get_or judged n e))

-- One more is one,
pub relaxed_more : (p : IndexProtocol) (judged : List Judged) (n width : ℕ) (e : Judged) (old new : List Relaxed) → n < length judged → All (IsJudged p) judged
    → (get_or judged n e).outcome ≡ outcome.Relaxes width → new ≡ old ++ (record { change = (get_or judged n e).change; width = width }) ∷ [] → AreRelaxed p judged n old → AreRelaxed p judged (n + 1) new
relaxed_more p judged n width e old new low right relaxes items before =
    let j : Judged = get_or judged n e in
    let x : Relaxed = record { change = j.change; width = width } in
    let is = subst (IsOutcome p j.change) relaxes (right n e low) in
    record {
      each = subst (All (IsRelaxed p)) (sym items) (All-push (IsRelaxed p) old x before.each (record { relaxation = is.0; width = is.1 }));
      order = subst (λ (l : List Relaxed). Selects (IsRelaxation p) (judged_in (take (n + 1) judged)) (changes_in l)) (sym items)
          (subst (λ (l : List Change). Selects (IsRelaxation p) (judged_in (take (n + 1) judged)) l) (sym (map_push (λ (y : Relaxed). y.change) old x))
          (subst (λ (l : List Change). Selects (IsRelaxation p) l (changes_in old ++ j.change ∷ [])) (judged_more judged n e low)
          (select_taken (IsRelaxation p) j.change (judged_in (take n judged)) (changes_in old) is.0 before.order)));
    }

-- or isn't.
pub relaxed_same : (p : IndexProtocol) (judged : List Judged) (n : ℕ) (e : Judged) (old new : List Relaxed) → n < length judged → All (IsJudged p) judged
    → ((width : ℕ) → (get_or judged n e).outcome ≡ outcome.Relaxes width → ⊥) → new ≡ old → AreRelaxed p judged n old → AreRelaxed p judged (n + 1) new
relaxed_same p judged n e old new low right other items before =
    let j : Judged = get_or judged n e in
    let isnt : IsRelaxation p j.change → ⊥ = no_relaxation p j.change j.outcome (right n e low) other in
    record {
      each = subst (All (IsRelaxed p)) (sym items) before.each;
      order = subst (λ (l : List Relaxed). Selects (IsRelaxation p) (judged_in (take (n + 1) judged)) (changes_in l)) (sym items)
          (subst (λ (l : List Change). Selects (IsRelaxation p) l (changes_in old)) (judged_more judged n e low)
          (select_passed (IsRelaxation p) j.change (judged_in (take n judged)) (changes_in old) isnt before.order));
    }

-- The relaxations in order are the relaxations,
pub all_relaxations : (p : IndexProtocol) (found list : List Relaxed) → All (IsRelaxed p) found → Selects (IsRelaxation p) (index_changes_of p) (changes_in found)
    → IsPermutation found list → AreFalling list → AreAlike list found → AreRelaxations p list
all_relaxations p found list each order permutation falling alike = record {
  each = All-permutation (IsRelaxed p) found list permutation each;
  all = λ c there is.
      Contains-permutation (changes_in found) (changes_in list) c (IsPermutation-map (λ (x : Relaxed). x.change) found list permutation)
      (selected_all (IsRelaxation p) (index_changes_of p) (changes_in found) order c there is);
  falling = falling;
  selected = found;
  order = order;
  alike = alike;
}

no_changes : (list : List Relaxed) → changes_in list ≡ [] → list ≡ []
no_changes [] e = refl
no_changes (x ∷ list) e = absurd (cc)

empty_if_none : (list : List Relaxed) → length list ≡ 0 → list ≡ []
empty_if_none [] e = refl
empty_if_none (x ∷ list) e = absurd (omega arith)

-- and none is there exactly where no change is one.
pub none_if_tight : (p : IndexProtocol) (found list : List Relaxed) → Selects (IsRelaxation p) (index_changes_of p) (changes_in found) → IsPermutation found list → AreRelaxations p list
    → (list ≡ []) ↔ IsTight p
none_if_tight p found list order permutation are = (
  λ empty c there is. (let h = subst (λ (l : List Relaxed). Contains (changes_in l) c) empty (are.all c there is) in absurd (omega (arith, h.1))),
  λ tight.
      let nothing : found ≡ [] = no_changes found (selected_none (IsRelaxation p) (index_changes_of p) (changes_in found) order tight) in
      empty_if_none list (length_permutation found list permutation ∙ ap length nothing),
)
