-- What a granted request tells: no other's lock on the name conflicts with it.
use Rattle.std.specs.Prelude.{◌≡◌, ℕ, ◌≤◌, Bool, true, false, not, ◌&&◌, List, [], ◌∷◌, Option, Some, None, refl}
use Rattle.std.specs.List.{list_any}
use Rattle.std.proofs.Common.{sym, ◌∙◌, ap, inl, inr, ⊎_elim, ◌≢◌}
use Rattle.std.proofs.lemmas.Bool.{cases_eq}
use Rattle.kr_model.specs.declared.Name.{Name}
use Rattle.kr_model.specs.declared.Span.{Span}
use Rattle.kr_model.specs.Protocol.{Protocol, IsLawful}
use Rattle.kr_model.specs.Covers.{conflicts_with}
use Rattle.kr_model.specs.Locks.{Locks, Request, AreWithin, own, lockers, blockers, conflicts}
use Rattle.kr_model.proofs.Guarantees.{In}
use Rattle.kr_model.proofs.Actives.{untied}
use Rattle.kr_model.proofs.Keep.{kept_mode}
use Rattle.kr_model.proofs.Requests.{request_at}
use Rattle.kr_model.proofs.RisingNumbers.{has, has-filter, has-lockers}
use Rattle.kr_ghost.specs.Protocol.{AsksMode}
use Rattle.kr_theorem.proofs.run.Actives.{or_left, or_right}
use Rattle.kr_theorem.proofs.step.Covers.{Modes}

-- No other's lock on the name conflicts with what t requests there.
abbrev pub Free : Protocol → Modes → ℕ → Name → Option (ℕ × Span) → Type 0
Free p own t name asked = (u : ℕ) → u ≢ t → conflicts_with p (own u name) (own t name) asked ≡ false

second_false : (a b : Bool) → a ≡ true → (a && b) ≡ false → b ≡ false
second_false true b e h = h
second_false false b e h = absurd (cc)

-- Where nobody blocks, no request conflicts with a lock that another holds.
none_of : (f : Request → Bool) (rs : List Request) → list_any f rs ≡ false → (r : Request) → In r rs → f r ≡ false
none_of f [] h r i = absurd i
none_of f (x ∷ rs) h r (inl e) = ap f (sym e) ∙ or_left (f x) (list_any f rs) h
none_of f (x ∷ rs) h r (inr i) = none_of f rs (or_right (f x) (list_any f rs) h) r i

no_conflict : (p : Protocol) (h : Locks) (t : ℕ) (rs : List Request) → blockers p h t rs ≡ [] → (r : Request) → In r rs → (u : ℕ) → u ≢ t → (own h u r.0 ≡ 0 → ⊥)
    → conflicts_with p (own h u r.0) (own h t r.0) (Some (r.1, r.2)) ≡ false
no_conflict p h t rs none r i u ne held =
    let test : ℕ → Bool = λ v. list_any (λ r. conflicts p h t r v) rs in
    let nobody = second_false (has (lockers h) u) (test u) (has-lockers h u r.0 held) (sym (has-filter test (lockers h) u) ∙ ap (λ us. has us u) none) in
    sym (ap (λ b. not b && not (p.ok (p.convert (own h t r.0) r.1) (own h u r.0))) (untied u t ne)) ∙ none_of (λ r. conflicts p h t r u) rs nobody r i

-- So where nobody blocks, no other's lock on a name conflicts with a request on it.
pub unblocked : (p : Protocol) → IsLawful p → (h : Locks) (t : ℕ) (rs : List Request) → AreWithin p.count h → blockers p h t rs ≡ []
    → (n : Name) (asked : Option (ℕ × Span)) → AsksMode p asked → ((r : Request) → In r (request_at (Some n) asked) → In r rs) → Free p (own h) t n asked
unblocked p laws h t rs within none n None mode inside u ne = refl
unblocked p laws h t rs within none n (Some (q, span)) mode inside u ne = ⊎_elim
    (λ e.
    let i = mode q span refl in
    let m = kept_mode p (own h t n) q laws (within t n) i.some i.in_range in
    ap (λ x. not (p.ok (p.convert (own h t n) q) x)) e ∙ ap not (laws.ok-none_held (p.convert (own h t n) q) m.in_range))
    (λ held. no_conflict p h t rs none (n, q, span) (inside (n, q, span) (inl refl)) u ne held)
    (cases_eq (own h u n) 0)

-- No lock conflicts with nothing.
pub open_none : (p : Protocol) → IsLawful p → (o : ℕ) → o ≤ p.count → (asked : Option (ℕ × Span)) → AsksMode p asked → conflicts_with p 0 o asked ≡ false
open_none p laws o io None mode = refl
open_none p laws o io (Some (q, span)) mode =
    let i = mode q span refl in
    let m = kept_mode p o q laws io i.some i.in_range in
    ap not (laws.ok-none_held (p.convert o q) m.in_range)
