-- The schedules of one who inserts n keys, each below the one before: n is at most 15, the most modes that a protocol has, and the schedule of each n is computed.
use Rattle.std.specs.Prelude.{◌≡◌, ◌≤◌, ◌<◌, ℕ, zero, suc, true, List, [], ◌∷◌, is_some}
use Rattle.std.specs.List.{list_all}
use Rattle.std.proofs.Common.{sym, subst, refl, arith}
use Rattle.kr_model.specs.declared.Row.TheVariants.{Insert}
use Rattle.kr_model.specs.declared.Side.TheVariants.{Next}
use Rattle.kr_model.specs.declared.Event.{Event}
use Rattle.kr_model.specs.Protocol.{Protocol, IsLawful}
use Rattle.kr_model.specs.State.{start}
use Rattle.kr_model.specs.Run.{replies_of, programs, is_granted}
use Rattle.kr_model.specs.Difference.{first_difference}
use Rattle.kr_theorem.specs.Wrong.{GoesWrong}
use Rattle.kr_theorem.specs.Fixed.{LetsIn, lowest}
use Rattle.kr_theorem.specs.Schedules.{keys}
use Rattle.kr_theorem.proofs.Unblocked.{Passes}
use Rattle.kr_theorem.proofs.Follow.{bare_history, meetings, goes_wrong}

-- The values of a function at the numbers below b.
abbrev pub values : {A : Type 0} → (ℕ → A) → ℕ → List A
values f zero = []
values f (suc b) = f 0 ∷ values (λ n. f (suc n)) b

same_at : {A : Type 0} (f g : ℕ → A) (b : ℕ) → values f b ≡ values g b → (n : ℕ) → n < b → f n ≡ g n
same_at f g zero same n lt = absurd (omega arith)
same_at f g (suc b) same zero lt = cc
same_at f g (suc b) same (suc n) lt = same_at (λ k. f (suc k)) (λ k. g (suc k)) b (cc) n (omega arith)

-- Each of them goes wrong, where the lowest key lets in an insert below it: that is the one lock of another that the schedule meets.
pub chain_goes_wrong : (p : Protocol) → IsLawful p → (es : ℕ → List Event) (m : ℕ)
    → values (λ n. meetings p p.updates (start keys) [] (es n)) 16 ≡ values (λ n. (lowest p m n, 0, p.ask Insert Next 0) ∷ []) 16
    → values (λ n. list_all is_granted (replies_of (bare_history p.updates (start keys) (es n)))) 16 ≡ values (λ n. true) 16
    → values (λ n. is_some (first_difference keys (programs (bare_history p.updates (start keys) (es n))))) 16 ≡ values (λ n. true) 16
    → (n : ℕ) → n ≤ p.count → LetsIn p (lowest p m n) Insert Next → GoesWrong p keys (es n)
chain_goes_wrong p laws es m met granted differs n le lets_in =
    let most = laws.few in
    let lt : n < 16 = omega arith in
    goes_wrong p laws p.updates refl keys (es n) refl
    (subst (Passes p) (sym (same_at (λ k. meetings p p.updates (start keys) [] (es k)) (λ k. (lowest p m k, 0, p.ask Insert Next 0) ∷ []) 16 met n lt)) (lets_in, tt))
    (same_at (λ k. list_all is_granted (replies_of (bare_history p.updates (start keys) (es k)))) (λ k. true) 16 granted n lt)
    (same_at (λ k. is_some (first_difference keys (programs (bare_history p.updates (start keys) (es k))))) (λ k. true) 16 differs n lt)
