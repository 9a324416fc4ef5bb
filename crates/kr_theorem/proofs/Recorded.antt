-- A record of locks by their modes: what each transaction holds, followed request by request, with the protocol a variable. The record has an entry for each request, also where nothing is kept, so its names and transactions compute.
use Rattle.std.specs.Prelude.{◌≡◌, ℕ, Bool, true, false, not, ◌==◌, List, [], ◌∷◌, ◌++◌, Option, Some, None, cond, unwrap_or, refl, ◌⊎◌}
use Rattle.std.specs.FinMap.{find}
use Rattle.std.proofs.Common.{sym, ◌∙◌, ap, subst, arith, inl, inr}
use Rattle.kr_model.specs.declared.Name.{Name}
use Rattle.kr_model.specs.declared.Row.{Row}
use Rattle.kr_model.specs.declared.Row.TheVariants as row
use Rattle.kr_model.specs.declared.Side.TheVariants.{Current, Next}
use Rattle.kr_model.specs.declared.Span.{Span}
use Rattle.kr_model.specs.declared.Span.TheVariants.{Instant, Commit}
use Rattle.kr_model.specs.Protocol.{Protocol}
use Rattle.kr_model.specs.Covers.{mode_after}
use Rattle.kr_model.specs.Locks.{Locks, Request, holder_cmp, own, keep, kept, kept_one, release}
use Rattle.kr_model.specs.Plan.{Access, own_next, plan_by, requests}
use Rattle.kr_model.proofs.LockLaws.{own-keep_same, own-keep_other, find-release, name_or_not}
use Rattle.kr_model.proofs.Requests.{request_at}

-- The record tells each mode that is held.
abbrev pub Tells : Locks → Locks → Type 0
Tells xs h = (u : ℕ) (n : Name) → own h u n ≡ own xs u n

-- The record after t is granted what it asks for on a name, where there is one.
abbrev pub mark : Protocol → Locks → ℕ → Option Name → Option (ℕ × Span) → Locks
mark p xs t None a = xs
mark p xs t (Some n) a = keep xs t n (mode_after p (own xs t n) a)

-- The record after an attempt.
abbrev pub marked : Protocol → Locks → ℕ → Access → Locks
marked p xs t a =
    let o = own_next xs t a.row a.next in
    mark p (mark p xs t a.current (p.ask a.row Current o)) t a.next (p.ask a.row Next o)

pub same_or_not : (j k : ℕ) → (j ≡ k) ⊎ (j ≡ k → ⊥)
same_or_not j k = grind arith

holder_or_not : (m n : Name) (u t : ℕ) → ((m ≡ n) × (u ≡ t)) ⊎ (m ≡ n → u ≡ t → ⊥)
holder_or_not m n u t = by (name_or_not m n) (same_or_not u t)
  where
    by : (m ≡ n) ⊎ (m ≡ n → ⊥) → (u ≡ t) ⊎ (u ≡ t → ⊥) → ((m ≡ n) × (u ≡ t)) ⊎ (m ≡ n → u ≡ t → ⊥)
    by (inl e) (inl f) = inl (e, f)
    by (inr d) g = inr (λ e f. d e)
    by (inl e) (inr d) = inr (λ g f. d f)

-- a mode is put where it stands already
put_own : (xs : Locks) (t : ℕ) (n : Name) (u : ℕ) (m : Name) → own (keep xs t n (own xs t n)) u m ≡ own xs u m
put_own xs t n u m = by (holder_or_not m n u t)
  where
    by : ((m ≡ n) × (u ≡ t)) ⊎ (m ≡ n → u ≡ t → ⊥) → own (keep xs t n (own xs t n)) u m ≡ own xs u m
    by (inl (e, f)) = subst (λ v. own (keep xs t n (own xs t n)) v m ≡ own xs v m) (sym f)
        (subst (λ k. own (keep xs t n (own xs t n)) t k ≡ own xs t k) (sym e) (own-keep_same xs t n (own xs t n)))
    by (inr d) = own-keep_other xs t n (own xs t n) u m d

-- the same mode put in both
put_both : (xs h : Locks) (t : ℕ) (n : Name) (w : ℕ) → Tells xs h → Tells (keep xs t n w) (keep h t n w)
put_both xs h t n w tells u m = by (holder_or_not m n u t)
  where
    by : ((m ≡ n) × (u ≡ t)) ⊎ (m ≡ n → u ≡ t → ⊥) → own (keep h t n w) u m ≡ own (keep xs t n w) u m
    by (inl (e, f)) = subst (λ v. own (keep h t n w) v m ≡ own (keep xs t n w) v m) (sym f)
        (subst (λ k. own (keep h t n w) t k ≡ own (keep xs t n w) t k) (sym e) (own-keep_same h t n w ∙ sym (own-keep_same xs t n w)))
    by (inr d) = own-keep_other h t n w u m d ∙ tells u m ∙ sym (own-keep_other xs t n w u m d)

tells_more : (p : Protocol) (xs h : Locks) (t : ℕ) (n : Option Name) (a : Option (ℕ × Span)) → Tells xs h → Tells (mark p xs t n a) (kept p h t (request_at n a))
tells_more p xs h t None a tells = tells
tells_more p xs h t (Some n) None tells = λ u m. tells u m ∙ sym (put_own xs t n u m)
tells_more p xs h t (Some n) (Some (q, Instant)) tells = λ u m. tells u m ∙ sym (put_own xs t n u m)
tells_more p xs h t (Some n) (Some (q, Commit)) tells =
    subst (λ w. Tells (keep xs t n (p.convert w q)) (keep h t n (p.convert (own h t n) q))) (tells t n) (put_both xs h t n (p.convert (own h t n) q) tells)

kept_append : (p : Protocol) (h : Locks) (t : ℕ) (xs ys : List Request) → kept p h t (xs ++ ys) ≡ kept p (kept p h t xs) t ys
kept_append p h t [] ys = refl
kept_append p h t (r ∷ xs) ys = kept_append p (kept_one p h t r.0 r.1 r.2) t xs ys

pub same_next : (xs h : Locks) (t : ℕ) (r : Row) (n : Option Name) → Tells xs h → own_next h t r n ≡ own_next xs t r n
same_next xs h t row.Insert (Some n) tells = tells t n
same_next xs h t row.Delete (Some n) tells = tells t n
same_next xs h t _ _ tells = refl

-- So it does after an attempt.
pub tells_attempt : (p : Protocol) (xs h : Locks) (t : ℕ) (a : Access) → Tells xs h → Tells (marked p xs t a) (kept p h t (requests (plan_by p h t a)))
tells_attempt p xs h t a tells =
    let o = own_next h t a.row a.next in
    let first = request_at a.current (p.ask a.row Current o) in
    let second = request_at a.next (p.ask a.row Next o) in
    subst (λ l. Tells (marked p xs t a) l) (sym (kept_append p h t first second))
    (subst (λ v. Tells (mark p (mark p xs t a.current (p.ask a.row Current v)) t a.next (p.ask a.row Next v)) (kept p (kept p h t first) t second)) (same_next xs h t a.row a.next tells)
    (tells_more p (mark p xs t a.current (p.ask a.row Current o)) (kept p h t first) t a.next (p.ask a.row Next o)
    (tells_more p xs h t a.current (p.ask a.row Current o) tells)))

-- And after an end.
pub tells_release : (xs h : Locks) (t : ℕ) → Tells xs h → Tells (release xs t) (release h t)
tells_release xs h t tells u n =
    ap (λ o. unwrap_or o 0) (find-release h t (n, u)) ∙ by (not (u == t)) ∙ sym (ap (λ o. unwrap_or o 0) (find-release xs t (n, u)))
  where
    by : (b : Bool) → unwrap_or (cond b (find holder_cmp (n, u) h) None) 0 ≡ unwrap_or (cond b (find holder_cmp (n, u) xs) None) 0
    by true = tells u n
    by false = refl
