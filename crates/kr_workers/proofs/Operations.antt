-- What is done of a transaction's operations, one after another.
use Rattle.std.proofs.Common.{◌≡◌, ℕ, suc, ◌+◌, ◌-◌, ◌<◌, Bool, true, false, cond, not, List, [], ◌∷◌, ◌++◌, Option, Some, None, length, drop, get_or, refl, ap, sym, ◌∙◌, arith, append_assoc, add-one, drop-cons}
use Rattle.std.specs.Prelude.{slice_get}
use Rattle.kr_model.specs.declared.Op.{Op}
use Rattle.kr_model.specs.Step.{is_end}
use Rattle.kr_script.specs.declared.not_done.StepFault.{StepFault}
use Rattle.kr_workers.specs.declared.wanted.Fate.{Fate}
use Rattle.kr_workers.specs.declared.wanted.Fate.TheVariants.{Done, Missed, Stuck}
use Rattle.kr_workers.specs.Follows.{is_missed, is_stuck, done_from, stays_active}
use Rattle.kr_workers.specs.Fates.{fate_of}

-- The operation with this fate, before those that are done after it.
abbrev pub with_fate : Fate → Op → List Op → List Op
with_fate Done o os = o ∷ os
with_fate Missed o os = os
with_fate Stuck o os = []

by_fate : (faults : List StepFault) (t n : ℕ) (o : Op) (os : List Op) → done_from faults t n (o ∷ os) ≡ with_fate (fate_of faults t n) o (done_from faults t (suc n) os)
by_fate faults t n o os = by (is_stuck faults t n) (is_missed faults t n)
  where
    rest : List Op
    rest = done_from faults t (suc n) os

    by : (s m : Bool) → cond s [] (cond m rest (o ∷ rest)) ≡ with_fate (cond s Stuck (cond m Missed Done)) o rest
    by true m = refl
    by false true = refl
    by false false = refl

-- The next operation by its fate.
pub done_next : (faults : List StepFault) (t i : ℕ) (ops : List Op) (d : Op) (fate : Fate) → i < length ops → fate ≡ fate_of faults t (i + 1)
    → done_from faults t (i + 1) (drop i ops) ≡ with_fate fate (get_or ops i d) (done_from faults t (i + 1 + 1) (drop (i + 1) ops))
done_next faults t i ops d fate within is =
    ap (done_from faults t (i + 1)) (drop-cons ops i d within) ∙ by_fate faults t (i + 1) (get_or ops i d) (drop (suc i) ops)
    ∙ ap (λ (f : Fate). with_fate f (get_or ops i d) (done_from faults t (suc (i + 1)) (drop (suc i) ops))) (sym is)
    ∙ ap (λ (m : ℕ). with_fate fate (get_or ops i d) (done_from faults t m (drop (suc i) ops))) (sym (add-one (i + 1)))
    ∙ ap (λ (m : ℕ). with_fate fate (get_or ops i d) (done_from faults t (i + 1 + 1) (drop m ops))) (sym (add-one i))

-- One operation more is done.
pub done_more : (faults : List StepFault) (t i : ℕ) (ops : List Op) (d : Op) (list longer : List Op) → i < length ops → Done ≡ fate_of faults t (i + 1)
    → longer ≡ list ++ get_or ops i d ∷ [] → list ++ done_from faults t (i + 1) (drop i ops) ≡ done_from faults t 1 ops
    → longer ++ done_from faults t (i + 1 + 1) (drop (i + 1) ops) ≡ done_from faults t 1 ops
done_more faults t i ops d list longer within is more so_far =
    ap (λ (os : List Op). os ++ done_from faults t (i + 1 + 1) (drop (i + 1) ops)) more
    ∙ append_assoc list (get_or ops i d ∷ []) (done_from faults t (i + 1 + 1) (drop (i + 1) ops))
    ∙ ap (λ (os : List Op). list ++ os) (sym (done_next faults t i ops d Done within is)) ∙ so_far

-- One is missed.
pub missed_more : (faults : List StepFault) (t i : ℕ) (ops : List Op) (d : Op) (list same : List Op) → i < length ops → Missed ≡ fate_of faults t (i + 1)
    → same ≡ list → list ++ done_from faults t (i + 1) (drop i ops) ≡ done_from faults t 1 ops
    → same ++ done_from faults t (i + 1 + 1) (drop (i + 1) ops) ≡ done_from faults t 1 ops
missed_more faults t i ops d list same within is stays so_far =
    ap (λ (os : List Op). os ++ done_from faults t (i + 1 + 1) (drop (i + 1) ops)) stays
    ∙ ap (λ (os : List Op). list ++ os) (sym (done_next faults t i ops d Missed within is)) ∙ so_far

-- Whether a transaction is active after this last operation, if there is one.
abbrev pub active_after : Option Op → Bool
active_after None = false
active_after (Some o) = not (is_end o)

pub active_by_last : (os : List Op) → active_after (slice_get os (length os - 1)) ≡ stays_active os
active_by_last [] = refl
active_by_last (o ∷ []) = refl
active_by_last (o ∷ p ∷ os) = ap (λ (i : ℕ). active_after (slice_get (o ∷ p ∷ os) i)) one ∙ ap (λ (i : ℕ). active_after (slice_get (p ∷ os) i)) other ∙ active_by_last (p ∷ os)
  where
    one : length (o ∷ p ∷ os) - 1 ≡ suc (length os)
    one = omega arith

    other : length os ≡ length (p ∷ os) - 1
    other = omega arith
