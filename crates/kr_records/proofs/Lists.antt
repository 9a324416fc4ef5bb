-- Elements of lists.
use Rattle.std.proofs.Common.{◌≡◌, ℕ, zero, suc, ◌<◌, List, [], ◌∷◌, length, Option, Some, IfSome, refl, subst, arith}
use Rattle.std.specs.Prelude.{slice_index_or, Ok, Err, OnOk}
use Rattle.std.specs.declared.result.Result.{Result}

-- An element that is there doesn't depend on what stands for one that isn't.
pub get_or-default : {A : Type 0} (xs : List A) (i : ℕ) (d d' : A) → i < length xs → slice_index_or xs i d ≡ slice_index_or xs i d'
get_or-default [] i d d' within = absurd (omega arith)
get_or-default (x ∷ xs) zero d d' within = refl
get_or-default (x ∷ xs) (suc i) d d' within = get_or-default xs i d d' (omega arith)

-- What holds of a value that is there holds of it.
pub some_has : {A : Type 0} (Q : A → Type 0) (o : Option A) (x : A) → o ≡ Some x → IfSome o Q → Q x
some_has Q o x is all = subst (λ p. IfSome p Q) is all

-- What holds in any case holds at Ok.
pub on_ok : {A B : Type 0} (r : Result A B) (X : Type 0) → X → OnOk r X
on_ok (Ok a) X x = x
on_ok (Err e) X x = tt
