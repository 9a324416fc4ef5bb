-- What a survey says of a cause is so of its table.
use Rattle.std.specs.Prelude.{◌≡◌, ◌<◌, ◌+◌, ◌⊎◌, ◌↔◌, ℕ, Bool, true, false, List}
use Rattle.std.proofs.Common.{subst, sym, inl, inr, arith, get_or, length}
use Rattle.std.proofs.lemmas.List.{get_or_default}
use Rattle.kr_model.specs.declared.Cover.{Cover}
use Rattle.kr_model.specs.declared.Cover.TheVariants.{ReadKey, ReadGap, InsertedKey, DeletedGap, UpdatedKey}
use Rattle.kr_model.specs.declared.FailedCase.{FailedCase}
use Rattle.kr_model.specs.Protocol.{Protocol}
use Rattle.kr_decide.specs.Survey.{IsSurvey, is_held, has_hole}
use Rattle.kr_decide.specs.declared.survey.Survey.{Survey}
use Rattle.kr_explain_core.specs.declared.harmless.Harmless.{Harmless}
use Rattle.kr_explain_core.specs.declared.harmless.Harmless.TheVariants.{NeverHeld, NeverLetIn}
use Rattle.kr_explain_core.specs.Harmless.{IsHarmless, IsReason, BelongsTo, HoleBelongs, IsClear, IsClearBelow, IsNeverHeldBelow, IsReasonBy}

-- what holds of each cover by itself
pub for_each_cover : (s : Survey) (failed cases : List FailedCase) → IsClearBelow s failed cases ReadKey 16 → IsClearBelow s failed cases ReadGap 16 → IsClearBelow s failed cases InsertedKey 16 → IsClearBelow s failed cases DeletedGap 16 → IsClearBelow s failed cases UpdatedKey 16 → IsClear s failed cases
for_each_cover s failed cases rk rg ik dg uk ReadKey = rk
for_each_cover s failed cases rk rg ik dg uk ReadGap = rg
for_each_cover s failed cases rk rg ik dg uk InsertedKey = ik
for_each_cover s failed cases rk rg ik dg uk DeletedGap = dg
for_each_cover s failed cases rk rg ik dg uk UpdatedKey = uk

-- clear by the survey is harmless
pub harmless_by : (p : Protocol) (s : Survey) (failed cases : List FailedCase) → IsSurvey p s → IsClear s failed cases ↔ IsHarmless p failed cases
harmless_by p s failed cases survey =
    (λ clear c m low hole belongs. clear c m low ((survey.holes c m).1 hole) belongs, λ harmless c m low hole belongs. harmless c m low ((survey.holes c m).0 hole) belongs)

pub false_not_true : {b : Bool} → b ≡ false → b ≡ true → ⊥
false_not_true is other = absurd (cc)

-- so is the reason
pub reason_by : (p : Protocol) (s : Survey) (cases : List FailedCase) (h : Harmless) → IsSurvey p s → IsReasonBy s cases h → IsReason p cases h
reason_by p s cases NeverHeld survey none = λ i f at held. false_not_true (none i f at) ((survey.held (get_or cases i f).cover (get_or cases i f).mode).1 held)
reason_by p s cases (NeverLetIn f) survey some = (some.0, (survey.held f.cover f.mode).0 some.1)

below_or_last : (k n : ℕ) → k < n + 1 → (k < n) ⊎ (k ≡ n)
below_or_last k n low = grind arith

-- one mode more is clear
pub one_mode_more : (s : Survey) (failed cases : List FailedCase) (c : Cover) (n : ℕ) → IsClearBelow s failed cases c n → (HoleBelongs s failed cases c n → ⊥) → IsClearBelow s failed cases c (n + 1)
one_mode_more s failed cases c n below here m low = split (below_or_last m n low)
  where
    split : (m < n) ⊎ (m ≡ n) → has_hole s c m ≡ true → BelongsTo failed cases c m → ⊥
    split (inl less) = below m less
    split (inr same) = subst (λ k. has_hole s c k ≡ true → BelongsTo failed cases c k → ⊥) (sym same) (λ hole belongs. here (hole, belongs))

-- one cover that isn't clear is enough
pub not_clear : (s : Survey) (failed cases : List FailedCase) (c : Cover) (b : Bool) → (b ≡ true ↔ IsClearBelow s failed cases c 16) → b ≡ false → false ≡ true ↔ IsClear s failed cases
not_clear s failed cases c b told is = ((λ t. absurd cc), (λ clear. absurd (false_not_true is (told.1 (clear c)))))

-- where four are, it is the fifth that decides
pub all_clear : (s : Survey) (failed cases : List FailedCase) (b : Bool) → IsClearBelow s failed cases ReadKey 16 → IsClearBelow s failed cases ReadGap 16 → IsClearBelow s failed cases InsertedKey 16 → IsClearBelow s failed cases DeletedGap 16 → (b ≡ true ↔ IsClearBelow s failed cases UpdatedKey 16) → b ≡ true ↔ IsClear s failed cases
all_clear s failed cases b rk rg ik dg uk = ((λ t. for_each_cover s failed cases rk rg ik dg (uk.0 t)), (λ clear. uk.1 (clear UpdatedKey)))

-- one case more that is never held
pub one_case_more : (s : Survey) (cases : List FailedCase) (n : ℕ) → IsNeverHeldBelow s cases n → ((d : FailedCase) → is_held s (get_or cases n d).cover (get_or cases n d).mode ≡ false) → IsNeverHeldBelow s cases (n + 1)
one_case_more s cases n old new k d below = split (below_or_last k n below)
  where
    split : (k < n) ⊎ (k ≡ n) → is_held s (get_or cases k d).cover (get_or cases k d).mode ≡ false
    split (inl less) = old k d less
    split (inr same) = subst (λ i. is_held s (get_or cases i d).cover (get_or cases i d).mode ≡ false) (sym same) (new d)

-- what is read of a list is what stands there, whatever the default
pub case_read : (s : Survey) (cases : List FailedCase) (n : ℕ) (x : FailedCase) → n < length cases → is_held s (get_or cases n x).cover (get_or cases n x).mode ≡ false → (d : FailedCase) → is_held s (get_or cases n d).cover (get_or cases n d).mode ≡ false
case_read s cases n x within is d = subst (λ (z : FailedCase). is_held s z.cover z.mode ≡ false) (get_or_default cases n x d within) is
