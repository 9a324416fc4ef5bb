-- Verdicts in an order.
use Rattle.std.specs.Prelude.{◌≡◌, ◌<◌, ℕ, true, List, Some, None, Result, Ok, Err, IfOk, length, map}
use Rattle.std.proofs.Common.{sym, ◌∙◌, ap, subst}
use Rattle.kr_model.specs.Map.{Map}
use Rattle.kr_trace_lines.specs.Parts.{are_distinct}
use Rattle.kr_trace_lines.specs.declared.verdict.TraceVerdict.{TraceVerdict}
use Rattle.kr_trace_lines.specs.declared.verdict.TraceVerdict.TheVariants as verdict
use Rattle.kr_trace_parts.specs.Committed.{Committed, AreSerial, IsFirstFound, IsFirstWrong}
use Rattle.kr_trace_parts.specs.Kept.{shown}
use Rattle.kr_trace_parts.specs.declared.programs.Committed.{Committed as Noted}
use Rattle.kr_trace_parts.specs.Orders.{AreArranged, IsVerdictInAny, IsVerdictInTold}
use Rattle.kr_trace_parts.specs.Parts.{Part}
use Rattle.kr_trace_parts.specs.Printed.{CommitsOnce, IsOrder, IsTheTold, IsVerdictInSomeOrder, IsWrongInAll, in_order}
use Rattle.kr_trace_parts.specs.Tales.{committed_in}
use Rattle.kr_trace_parts.proofs.ArrangeLaws.{arranged_order, commit_order, in_commit_order, order_arranged, txns}

-- The order that is told --

-- The verdict on a part that tells an order.
pub told_verdict : (s : Part) (m : Map) (cs : List Committed) (ts : List ℕ) (v : TraceVerdict) → m ≡ s.opening → cs ≡ committed_in s.steps → Some ts ≡ s.order → CommitsOnce s
    → IsVerdictInTold m cs ts v → IsVerdictInSomeOrder s v
told_verdict s m cs ts verdict.Serial opening commits order once h = h
told_verdict s m cs ts (verdict.SerialInOrder us) opening commits order once h =
    let own : IsOrder (committed_in s.steps) us = subst (IsOrder (committed_in s.steps)) (sym h.0) (once.ordered ts (sym order)) in
    let serial : AreSerial m (in_order cs us) = subst (λ (xs : List ℕ). AreSerial m (in_order cs xs)) (sym h.0) h.1 in
    let there : AreSerial s.opening (in_order (committed_in s.steps) us) =
    subst (λ (x : Map). AreSerial x (in_order (committed_in s.steps) us)) opening (subst (λ (xs : List Committed). AreSerial m (in_order xs us)) commits serial) in
    (own, (there, subst (IsTheTold us) order h.0))
told_verdict s m cs ts (verdict.NotSerial t n given serial) opening commits order once h =
    subst (IsWrongInAll s t n given serial) order
    (subst (λ (x : Map). IsFirstWrong x (in_order (committed_in s.steps) ts) t n given serial) opening (subst (λ (xs : List Committed). IsFirstWrong m (in_order xs ts) t n given serial) commits h))
told_verdict s m cs ts verdict.Unknown opening commits order once h = absurd h

-- Any order --

-- The verdict on a part that tells no order.
pub any_verdict : (s : Part) (m : Map) (cs : List Committed) (v : TraceVerdict) → m ≡ s.opening → cs ≡ committed_in s.steps → None ≡ s.order → IsVerdictInAny m cs v → IsVerdictInSomeOrder s v
any_verdict s m cs verdict.Serial opening commits order h = h
any_verdict s m cs (verdict.SerialInOrder us) opening commits order h =
    let own : IsOrder (committed_in s.steps) us = subst (λ (xs : List Committed). IsOrder xs us) commits h.0 in
    let there : AreSerial s.opening (in_order (committed_in s.steps) us) =
    subst (λ (x : Map). AreSerial x (in_order (committed_in s.steps) us)) opening (subst (λ (xs : List Committed). AreSerial m (in_order xs us)) commits h.1) in
    (own, (there, subst (IsTheTold us) order tt))
any_verdict s m cs (verdict.NotSerial t n given serial) opening commits order h =
    subst (IsWrongInAll s t n given serial) order (
      subst (λ (x : Map). IsFirstWrong x (committed_in s.steps) t n given serial) opening (subst (λ (xs : List Committed). IsFirstWrong m xs t n given serial) commits h.0),
      λ us own there. h.1 us (subst (λ (xs : List Committed). IsOrder xs us) (sym commits) own)
          (subst (λ (xs : List Committed). AreSerial m (in_order xs us)) (sym commits) (subst (λ (x : Map). AreSerial x (in_order (committed_in s.steps) us)) (sym opening) there)),
    )
any_verdict s m cs verdict.Unknown opening commits order h = (
  sym order,
  (
    subst (λ (xs : List Committed). 7 < length xs) commits h.0,
    λ there. h.1 (subst (λ (xs : List Committed). AreSerial m xs) (sym commits) (subst (λ (x : Map). AreSerial x (committed_in s.steps)) (sym opening) there)),
  ),
)

-- Commit order is serializable.
pub serial_in_any : (m : Map) (cs : List Committed) (ts : List ℕ) → are_distinct (txns cs) ≡ true → ts ≡ txns cs → AreSerial m (in_order cs ts) → IsOrder cs ts × AreSerial m (in_order cs ts)
serial_in_any m cs ts once is h = (subst (IsOrder cs) (sym is) (commit_order cs once), h)

-- Another order is.
pub found_in_any : (m : Map) (cs : List Committed) (us ts more : List ℕ) → are_distinct (txns cs) ≡ true → us ≡ txns cs → AreArranged us more → ts ≡ more → AreSerial m (in_order cs more)
    → IsOrder cs ts × AreSerial m (in_order cs ts)
found_in_any m cs us ts more once is arranged same h =
    let own : IsOrder cs more = arranged_order (txns cs) more once (subst (λ (xs : List ℕ). AreArranged xs more) is arranged) in
    subst (λ (xs : List ℕ). IsOrder cs xs × AreSerial m (in_order cs xs)) (sym same) (own, h)

-- Commit order is not.
pub unserial_in_commit_order : (m : Map) (cs : List Committed) (ts : List ℕ) → are_distinct (txns cs) ≡ true → ts ≡ txns cs → (AreSerial m (in_order cs ts) → ⊥) → AreSerial m cs → ⊥
unserial_in_commit_order m cs ts once is h serial =
    h (subst (AreSerial m) (sym (ap (in_order cs) is ∙ in_commit_order cs once)) serial)

-- No order is.
pub none_in_any : (m : Map) (cs : List Committed) (ts : List ℕ) (v : TraceVerdict) → are_distinct (txns cs) ≡ true → ts ≡ txns cs → IsFirstFound m (in_order cs ts) (Some v)
    → ((more : List ℕ) → AreArranged ts more → AreSerial m (in_order cs more) → ⊥) → IsVerdictInAny m cs v
none_in_any m cs ts v once is h none = by v (subst (λ (xs : List Committed). IsFirstFound m xs (Some v)) (ap (in_order cs) is ∙ in_commit_order cs once) h)
  where
    by : (w : TraceVerdict) → IsFirstFound m cs (Some w) → IsVerdictInAny m cs w
    by verdict.Serial f = f
    by (verdict.SerialInOrder us) f = absurd f
    by (verdict.NotSerial t n given serial) f = (f, λ us own there. none us (subst (λ (xs : List ℕ). AreArranged xs us) (sym is) (order_arranged (txns cs) us own)) there)
    by verdict.Unknown f = absurd f

-- Functions' results --

-- The programs at the same places, in the same order.
pub moved : (m : Map) (xs ys : List Noted) (ts us : List ℕ) → xs ≡ ys → ts ≡ us → AreSerial m (in_order (map shown xs) ts) → AreSerial m (in_order (map shown ys) us)
moved m xs ys ts us same own h =
    subst (λ (vs : List ℕ). AreSerial m (in_order (map shown ys) vs)) own (subst (λ (zs : List Noted). AreSerial m (in_order (map shown zs) ts)) same h)

pub told_if : {E : Type 0} (r : Result TraceVerdict E) (s : Part) (m : Map) (cs : List Committed) (ts : List ℕ) → m ≡ s.opening → cs ≡ committed_in s.steps → Some ts ≡ s.order → CommitsOnce s
    → IfOk r (IsVerdictInTold m cs ts) → IfOk r (IsVerdictInSomeOrder s)
told_if (Ok v) s m cs ts opening commits order once h = told_verdict s m cs ts v opening commits order once h
told_if (Err e) s m cs ts opening commits order once h = tt

pub any_if : {E : Type 0} (r : Result TraceVerdict E) (s : Part) (m : Map) (cs : List Committed) → m ≡ s.opening → cs ≡ committed_in s.steps → None ≡ s.order
    → IfOk r (IsVerdictInAny m cs) → IfOk r (IsVerdictInSomeOrder s)
any_if (Ok v) s m cs opening commits order h = any_verdict s m cs v opening commits order h
any_if (Err e) s m cs opening commits order h = tt
