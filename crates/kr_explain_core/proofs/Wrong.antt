-- The run of the cause of a number goes wrong.
use Rattle.std.specs.Prelude.{◌≡◌, ◌-◌, ◌==◌, ℕ, List, All, Bool, true, false, Option, Some, None, IfSome, slice_get, option_and_then, if◌then◌else◌, refl}
use Rattle.std.proofs.Common.{subst}
use Rattle.std.proofs.lemmas.Option.{slice_get_within, get_or_from_slice_get}
use Rattle.kr_model.specs.declared.FailedCase.{FailedCase}
use Rattle.kr_model.specs.Protocol.{Protocol}
use Rattle.kr_explain_core.specs.Explained.{IsTold, GoesWrongWith, Tells, run_at}
use Rattle.kr_explain_core.specs.declared.run.Run.{Run}
use Rattle.kr_explain_core.specs.declared.explanation.Explained.{Explained}
use Rattle.kr_explain_core.specs.declared.explanation.Explanation.{Explanation}
use Rattle.kr_explain_core.specs.declared.explanation.Explanation.TheVariants as told

-- the run of a cause that is told
wrong_in : (p : Protocol) (failed : List FailedCase) (xs : List Explained) (i : ℕ) (run : Run) (found : Option Explained) → All (IsTold p failed) xs → slice_get xs i ≡ found → option_and_then (λ e. e.run) found ≡ Some run → GoesWrongWith p run
wrong_in p failed xs i run None told there has = absurd cc
wrong_in p failed xs i run (Some e) told there has =
    let is_told : IsTold p failed e = subst (IsTold p failed) (get_or_from_slice_get xs i e e there) (told i e (slice_get_within xs i e there)) in
    subst (λ o. IfSome o (GoesWrongWith p)) has is_told.wrong

wrong_below : (p : Protocol) (failed : List FailedCase) (xs : List Explained) (is_none : Bool) (i : ℕ) (run : Run) → All (IsTold p failed) xs → (if is_none then None else option_and_then (λ e. e.run) (slice_get xs i)) ≡ Some run → GoesWrongWith p run
wrong_below p failed xs true i run told has = absurd cc
wrong_below p failed xs false i run told has = wrong_in p failed xs i run (slice_get xs i) told refl has

-- the run of the cause of a number
pub wrong_of : (p : Protocol) (n : ℕ) (x : Explanation) (run : Run) → Tells p x → run_at n x ≡ Some run → GoesWrongWith p run
wrong_of p n (told.Accepted cases) run tells has = absurd cc
wrong_of p n (told.Safe r) run tells has = absurd cc
wrong_of p n (told.Rejected r) run tells has = wrong_below p _ r.causes.items (n == 0) (n - 1) run tells.told has
