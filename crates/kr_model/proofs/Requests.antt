-- The requests of an attempt: each has a mode, so the locks that it leaves are locks.
use Rattle.std.specs.Prelude.{◌≡◌, ℕ, ◌≤◌, List, [], ◌∷◌, ◌++◌, Option, Some, None}
use Rattle.std.specs.Option.{option_to_list}
use Rattle.std.proofs.Common.{subst, arith, refl}
use Rattle.kr_model.specs.declared.Name.{Name}
use Rattle.kr_model.specs.declared.Row.{Row}
use Rattle.kr_model.specs.declared.Row.TheVariants as row
use Rattle.kr_model.specs.declared.Side.{Side}
use Rattle.kr_model.specs.declared.Side.TheVariants.{Current, Next}
use Rattle.kr_model.specs.declared.Span.{Span}
use Rattle.kr_model.specs.declared.Span.TheVariants.{Instant, Commit}
use Rattle.kr_model.specs.Protocol.{Protocol, IsLawful, IsMode}
use Rattle.kr_model.specs.Locks.{Locks, IsLocks, AreWithin, HasNoNone, Request, own, keep_or_drop, kept, kept_one, release}
use Rattle.kr_model.specs.Plan.{Access, side_request, own_next, plan_by, requests}
use Rattle.kr_model.proofs.Keep.{kept_mode, keep_some, IsLocks-keep, AreWithin-keep, HasNoNone-keep, IsLocks-release, AreWithin-release, HasNoNone-release}

-- the requests of one side
abbrev pub request_at : Option Name → Option (ℕ × Span) → List Request
request_at n a = option_to_list (side_request n a)

-- every request has a mode
abbrev pub AskModes : Protocol → List Request → Type 0
AskModes p [] = Unit {0}
AskModes p (r ∷ rs) = IsMode p r.1 × AskModes p rs

pub asks_one : (p : Protocol) → IsLawful p → (n : Option Name) (r : Row) (side : Side) (on : ℕ) → on ≤ p.count → AskModes p (request_at n (p.ask r side on))
asks_one p laws n r side on io = by_request n (p.ask r side on) (λ q s e. laws.ask-mode r side on q s io e)
  where
    by_request : (n : Option Name) (a : Option (ℕ × Span)) → ((q : ℕ) (s : Span) → a ≡ Some (q, s) → IsMode p q) → AskModes p (request_at n a)
    by_request None a mode = tt
    by_request (Some n) None mode = tt
    by_request (Some n) (Some (q, s)) mode = (mode q s refl, tt)

pub asks_both : (p : Protocol) (xs ys : List Request) → AskModes p xs → AskModes p ys → AskModes p (xs ++ ys)
asks_both p [] ys a b = b
asks_both p (x ∷ xs) ys a b = (a.0, asks_both p xs ys a.1 b)

next_within : (count : ℕ) (h : Locks) (t : ℕ) (r : Row) (n : Option Name) → AreWithin count h → own_next h t r n ≤ count
next_within count h t row.Insert (Some n) within = within t n
next_within count h t row.Delete (Some n) within = within t n
next_within count h t _ _ within = omega arith

-- so do those of an attempt
pub asks_by : (p : Protocol) → IsLawful p → (h : Locks) → AreWithin p.count h → (t : ℕ) (a : Access) → AskModes p (requests (plan_by p h t a))
asks_by p laws h within t a =
    let o = own_next h t a.row a.next in
    let le = next_within p.count h t a.row a.next within in
    asks_both p (request_at a.current (p.ask a.row Current o)) (request_at a.next (p.ask a.row Next o)) (asks_one p laws a.current a.row Current o le) (asks_one p laws a.next a.row Next o le)

-- what always holds of the locks of a state
pub record AreLocks (p : Protocol) (h : Locks) : Type 0 where
  pub rise : IsLocks h
  pub within : AreWithin p.count h
  pub no_none : HasNoNone h

keep_locks : (p : Protocol) (h : Locks) (t : ℕ) (n : Name) (m : ℕ) → IsMode p m → AreLocks p h → AreLocks p (keep_or_drop h t n m)
keep_locks p h t n m mode k = record {
  rise = IsLocks-keep h t n m k.rise;
  within = AreWithin-keep p.count h t n m k.within mode.in_range;
  no_none = HasNoNone-keep h t n m k.no_none;
}

one_locks : (p : Protocol) → IsLawful p → (h : Locks) (t : ℕ) (n : Name) (q : ℕ) (span : Span) → IsMode p q → AreLocks p h → AreLocks p (kept_one p h t n q span)
one_locks p laws h t n q Instant mode k = k
one_locks p laws h t n q Commit mode k =
    let m : ℕ = p.convert (own h t n) q in
    let is : IsMode p m = kept_mode p (own h t n) q laws (k.within t n) mode.some mode.in_range in
    subst (AreLocks p) (keep_some h t n m is.some) (keep_locks p h t n m is k)

-- it holds after requests are kept, and after a release
pub kept_locks : (p : Protocol) → IsLawful p → (h : Locks) (t : ℕ) (rs : List Request) → AskModes p rs → AreLocks p h → AreLocks p (kept p h t rs)
kept_locks p laws h t [] asked k = k
kept_locks p laws h t (r ∷ rs) asked k = kept_locks p laws (kept_one p h t r.0 r.1 r.2) t rs asked.1 (one_locks p laws h t r.0 r.1 r.2 asked.0 k)

pub released_locks : (p : Protocol) (h : Locks) (t : ℕ) → AreLocks p h → AreLocks p (release h t)
released_locks p h t k = record {
  rise = IsLocks-release h t k.rise;
  within = AreWithin-release p.count h t k.within;
  no_none = HasNoNone-release h t k.no_none;
}
