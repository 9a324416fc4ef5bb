-- What holds of locks holds of a copy of them.
use Rattle.std.proofs.Common.{All, IfOk, Result, Ok, Err, ◌≡◌, ℕ, sym, subst}
use Rattle.kr_model.specs.declared.Name.{Name}
use Rattle.kr_model.specs.Locks.{Locks}

-- what holds of each lock holds of each of a copy
pub all_of_items : {A E : Type 0} (items : A → Locks) (P : (Name × ℕ) × ℕ → Type 0) (r : Result A E) (h : Locks) → All P h → IfOk r (λ a. items a ≡ h) → IfOk r (λ a. All P (items a))
all_of_items items P (Ok a) h all is = subst (All P) (sym is) all
all_of_items items P (Err e) h all is = tt
