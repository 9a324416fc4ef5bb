-- Grants: an attempt without blockers requests nothing that another's mode conflicts with.
use Rattle.std.specs.Prelude.{◌≡◌, ℕ, ◌≤◌, Bool, true, false, not, ◌&&◌, ◌||◌, ◌==◌, List, [], ◌∷◌, Option, Some, None, refl, ◌⊎◌}
use Rattle.std.specs.List.{list_any}
use Rattle.std.proofs.lemmas.Bool.Decides.{nat_tests}
use Rattle.std.proofs.Common.{sym, ◌∙◌, ap, subst, arith, inl, inr}
use Rattle.kr_model.specs.declared.Name.{Name}
use Rattle.kr_model.specs.declared.Row.{Row}
use Rattle.kr_model.specs.declared.Side.{Side}
use Rattle.kr_model.specs.declared.Span.{Span}
use Rattle.kr_model.specs.Protocol.{Protocol, IsLawful, IsMode}
use Rattle.kr_model.specs.Locks.{Locks, own, lockers, blockers, conflicts, Request}
use Rattle.kr_model.specs.Plan.{Access, plan_by, requests}
use Rattle.kr_model.proofs.Guarantees.{In, Conflicts}
use Rattle.kr_model.proofs.Keep.{kept_mode}
use Rattle.kr_model.proofs.Requests.{request_at}
use Rattle.kr_model.proofs.RisingNumbers.{has, has-filter, has-lockers}
use Rattle.kr_theorem.proofs.step.Covers.{Granted}

-- The requests of both sides.
abbrev pub requests_of : Protocol → Locks → ℕ → Access → List Request
requests_of p h t a = requests (plan_by p h t a)

-- Of tests of which none holds, no one does.
none_any : {A : Type 0} (f : A → Bool) (xs : List A) → list_any f xs ≡ false → (x : A) → In x xs → f x ≡ false
none_any f [] h x i = absurd i
none_any f (y ∷ xs) h x i = split (f y) refl h i (λ g j. none_any f xs g x j)
  where
    split : (b : Bool) → f y ≡ b → (b || list_any f xs) ≡ false → (y ≡ x) ⊎ In x xs → (list_any f xs ≡ false → In x xs → f x ≡ false) → f x ≡ false
    split true e g j rest = absurd (cc)
    split false e g (inl s) rest = subst (λ w. f w ≡ false) s e
    split false e g (inr j) rest = rest g j

-- Who holds a lock and isn't a blocker conflicts with none of the requests.
no_blocker : (p : Protocol) (h : Locks) (t : ℕ) (rs : List Request) → blockers p h t rs ≡ [] → (u : ℕ) (n : Name) → (own h u n ≡ 0 → ⊥) → list_any (λ r. conflicts p h t r u) rs ≡ false
no_blocker p h t rs none u n held =
    let test : ℕ → Bool = λ v. list_any (λ r. conflicts p h t r v) rs in
    passes (has (lockers h) u) (test u) (has-lockers h u n held) (sym (has-filter test (lockers h) u) ∙ ap (λ us. has us u) none)
  where
    passes : (a b : Bool) → a ≡ true → (a && b) ≡ false → b ≡ false
    passes true b e f = f
    passes false b e f = absurd (cc)

-- So what it holds is compatible with the converted mode.
stands_beside : (p : Protocol) (h : Locks) (t : ℕ) (rs : List Request) → blockers p h t rs ≡ [] → (r : Request) → In r rs → (u : ℕ) → (u ≡ t → ⊥) → (own h u r.0 ≡ 0 → ⊥)
    → p.ok (p.convert (own h t r.0) r.1) (own h u r.0) ≡ true
stands_beside p h t rs none r i u other held =
    allowed (u == t) (p.ok (p.convert (own h t r.0) r.1) (own h u r.0)) (untied u t other) (none_any (λ q. conflicts p h t q u) rs (no_blocker p h t rs none u r.0 held) r i)
  where
    untied : (u t : ℕ) → (u ≡ t → ⊥) → (u == t) ≡ false
    untied u t d = grind (arith, nat_tests)

    allowed : (b c : Bool) → b ≡ false → (not b && not c) ≡ false → c ≡ true
    allowed true c e h = absurd (cc)
    allowed false true e h = refl
    allowed false false e h = absurd (cc)

-- What t requests at a row and side is granted, if the request is among those of an attempt without blockers.
pub granted_at : (p : Protocol) → IsLawful p → (h : Locks) (t : ℕ) (rs : List Request) → blockers p h t rs ≡ [] → ((u : ℕ) (name : Name) → own h u name ≤ p.count)
    → (row : Row) (side : Side) (name : Name) (on : ℕ) → on ≤ p.count → ((r : Request) → In r (request_at (Some name) (p.ask row side on)) → In r rs) → Granted p (own h) t row side name on
granted_at p laws h t rs none range row side name on in_range within u other =
    by_request (p.ask row side on) (λ q s e. laws.ask-mode row side on q s in_range e) within
  where
    true_not_false : true ≡ false → ⊥
    true_not_false e = cc

    same_or_not : (j k : ℕ) → (j ≡ k) ⊎ (j ≡ k → ⊥)
    same_or_not j k = grind arith

    by_request : (a : Option (ℕ × Span)) → ((q : ℕ) (s : Span) → a ≡ Some (q, s) → IsMode p q) → ((r : Request) → In r (request_at (Some name) a) → In r rs) → Conflicts p (own h u name) (own h t name) a → ⊥
    by_request None mode inside conflict = conflict
    by_request (Some (q, s)) mode inside conflict =
        elim (same_or_not (own h u name) 0) [
          | inl e ↦ let i = mode q s refl in
              let m = kept_mode p (own h t name) q laws (range t name) i.some i.in_range in
              true_not_false (sym (laws.ok-none_held (p.convert (own h t name) q) m.in_range) ∙ ap (λ x. p.ok (p.convert (own h t name) q) x) (sym e) ∙ conflict)
          | inr d ↦ let r : Request = (name, q, s) in true_not_false (sym (stands_beside p h t rs none r (inside r (inl refl)) u other d) ∙ conflict)
        ]
