-- The locks after an attempt of the twin: what its transaction holds on a name comes of its requests there, and another holds what it held.
use Rattle.std.proofs.Common.{ℕ, ◌≡◌, ◌≢◌, ◌<◌, ◌≤◌, inl, inr, refl, sym, ◌∙◌, subst, List, [], ◌∷◌, Some}
use Rattle.kr_model.specs.declared.Name.{Name}
use Rattle.kr_model.specs.declared.Row.{Row}
use Rattle.kr_model.specs.declared.Side.{Side}
use Rattle.kr_model.specs.declared.Span.{Span}
use Rattle.kr_model.specs.declared.Span.TheVariants.{Instant, Commit}
use Rattle.kr_model.specs.Map.{Map}
use Rattle.kr_model.specs.Locks.{Locks, Request, own, keep, kept, kept_one}
use Rattle.kr_model.proofs.Guarantees.{In}
use Rattle.kr_model.proofs.LockLaws.{own-keep_same, own-keep_other, name_or_not}
use Rattle.kr_theorem.proofs.safe.Placed.{Stands}
use Rattle.kr_theorem.specs.Unreached.{I, X}
use Rattle.kr_theorem.proofs.unreached.Unsafe.{twin, twin_after}

-- What an attempt of the twin requests in the map m: a mode that some row requests, one of I, K and X, and I only on a key that is present, or on the end.
pub record IsAsked (m : Map) (n : Name) (q : ℕ) (span : Span) : Type 0 where
  pub row : Row
  pub side : Side
  pub asks : twin.ask row side 0 ≡ Some (q, span)
  pub some : 0 < q
  pub within : q ≤ X
  pub stands : q ≡ I → Stands m n

-- Each request is such a one.
abbrev pub AreAsked : Map → List Request → Type 0
AreAsked m rs = (n : Name) (q : ℕ) (span : Span) → In (n, q, span) rs → IsAsked m n q span

-- What holds of the mode before, and still holds after each request on the name, holds of the mode after the attempt.
abbrev StillHolds : (ℕ → Type 0) → Name → List Request → Type 0
StillHolds P n rs = (q : ℕ) (span : Span) → In (n, q, span) rs → (o : ℕ) → P o → P (twin_after o q)

-- After one request.
one_holds : (P : ℕ → Type 0) (h : Locks) (t : ℕ) (n x : Name) (q : ℕ) (span : Span) → (x ≡ n → (o : ℕ) → P o → P (twin_after o q)) → P (own h t n) → P (own (kept_one twin h t x q span) t n)
one_holds P h t n x q Instant still p = p
one_holds P h t n x q Commit still p =
    elim (name_or_not x n) [
      | inl e ↦ subst (λ y. P (own (keep h t x (twin_after (own h t x) q)) t y)) e
          (subst P (sym (own-keep_same h t x (twin_after (own h t x) q))) (still e (own h t x) (subst (λ y. P (own h t y)) (sym e) p)))
      | inr d ↦ subst P (sym (own-keep_other h t x (twin_after (own h t x) q) t n (λ e same. d (sym e)))) p
    ]

-- After all of them.
pub kept_holds : (P : ℕ → Type 0) (h : Locks) (t : ℕ) (n : Name) (rs : List Request) → StillHolds P n rs → P (own h t n) → P (own (kept twin h t rs) t n)
kept_holds P h t n [] still p = p
kept_holds P h t n ((x, q, span) ∷ rs) still p =
    kept_holds P (kept_one twin h t x q span) t n rs (λ r s i. still r s (inr i))
    (one_holds P h t n x q span (λ e. still q span (inl (λ j. (e j, q, span)))) p)

-- What another holds stays, after one request.
one_other : (h : Locks) (t u : ℕ) (n x : Name) (q : ℕ) (span : Span) → u ≢ t → own (kept_one twin h t x q span) u n ≡ own h u n
one_other h t u n x q Instant other = refl
one_other h t u n x q Commit other = own-keep_other h t x (twin_after (own h t x) q) u n (λ same e. other e)

-- And after all of them.
pub kept_other : (h : Locks) (t u : ℕ) (n : Name) (rs : List Request) → u ≢ t → own (kept twin h t rs) u n ≡ own h u n
kept_other h t u n [] other = refl
kept_other h t u n ((x, q, span) ∷ rs) other = kept_other (kept_one twin h t x q span) t u n rs other ∙ one_other h t u n x q span other
