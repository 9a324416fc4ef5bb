-- The locks that are held: a finite set of triples of a transaction, a name and a mode, at most one for each transaction and name.
use Rattle.std.specs.Prelude.{ℕ, zero, suc, ◌≡◌, ◌≤◌, Bool, not, Some, ◌&&◌, ◌==◌, IsTrue, List, [], ◌∷◌, filter, unwrap_or}
use Rattle.std.specs.declared.cmp.Ordering.{Ordering}
use Rattle.std.specs.Ordering.{nat_cmp, ordering_then, eq_by_cmp}
use Rattle.std.specs.FinMap.{find, put, is_sorted}
use Rattle.std.specs.FinMap.Entries.{by_order}
use Rattle.std.specs.List.{list_any}
use Rattle.kr_model.specs.declared.Name.{Name}
use Rattle.kr_model.specs.declared.Name.TheVariants.{Key, End}
use Rattle.kr_model.specs.declared.Span.{Span}
use Rattle.kr_model.specs.declared.Span.TheVariants.{Instant, Commit}
use Rattle.kr_model.specs.Protocol.{Protocol}

-- The order of names --

-- Keys come first, by their number, and the end past all of them.
abbrev pub name_rank : Name → ℕ × ℕ
name_rank (Key k) = (0, k)
name_rank End = (1, 0)

-- How two names compare.
abbrev pub name_cmp : Name → Name → Ordering
name_cmp a b = ordering_then (nat_cmp (name_rank a).0 (name_rank b).0) (nat_cmp (name_rank a).1 (name_rank b).1)

-- A name and a transaction that may hold a lock on it.
abbrev pub Holder : Type 0
Holder = Name × ℕ

-- Holders compare by name, and then by transaction.
abbrev pub holder_cmp : Holder → Holder → Ordering
holder_cmp a b = ordering_then (name_cmp a.0 b.0) (nat_cmp a.1 b.1)

-- The locks --

-- A holder with its mode.
abbrev pub Lock : Type 0
Lock = Holder × ℕ

-- The name that is locked.
abbrev pub name_locked : Lock → Name
name_locked l = l.0.0

-- The transaction that holds the lock.
abbrev pub holder_of : Lock → ℕ
holder_of l = l.0.1

-- The mode that it holds.
abbrev pub mode_held : Lock → ℕ
mode_held l = l.1

-- The locks that are held.
abbrev pub Locks : Type 0
Locks = List Lock

-- The holders rise, so each has one mode.
abbrev pub IsLocks : Locks → Type 0
IsLocks h = IsTrue (is_sorted holder_cmp h)

-- The own mode of t on n, or 0 where it holds no lock there.
abbrev pub own : Locks → ℕ → Name → ℕ
own h t n = unwrap_or (find holder_cmp (n, t) h) 0

-- The locks with m as the mode of t on n.
abbrev pub keep : Locks → ℕ → Name → ℕ → Locks
keep h t n m = put holder_cmp (n, t) m h

-- The locks without that of t on n.
abbrev pub forget : Locks → ℕ → Name → Locks
forget h t n = filter (λ l. not (eq_by_cmp holder_cmp (n, t) l.0)) h

-- The locks with m as the mode of t on n, for any m: 0 takes the lock away.
abbrev pub keep_or_drop : Locks → ℕ → Name → ℕ → Locks
keep_or_drop h t n zero = forget h t n
keep_or_drop h t n (suc m) = keep h t n (suc m)

-- The locks without those of t.
abbrev pub release : Locks → ℕ → Locks
release h t = filter (λ l. not (holder_of l == t)) h

-- No mode is above the count.
abbrev pub AreWithin : ℕ → Locks → Type 0
AreWithin count h = (t : ℕ) (n : Name) → own h t n ≤ count

-- No lock has the mode 0.
abbrev pub HasNoNone : Locks → Type 0
HasNoNone h = (k : Holder) → find holder_cmp k h ≡ Some 0 → ⊥

-- Grant and blockers --

-- A lock that is requested: its name, mode and span.
abbrev pub Request : Type 0
Request = Name × ℕ × Span

-- The name that a lock is requested on.
abbrev pub name_asked : Request → Name
name_asked r = r.0

-- The mode that is requested.
abbrev pub mode_asked : Request → ℕ
mode_asked r = r.1

-- How long the lock is to be held.
abbrev pub span_asked : Request → Span
span_asked r = r.2

-- Whether u conflicts with the request of t: u is another, and the converted mode conflicts with what u holds on the name.
abbrev pub conflicts : Protocol → Locks → ℕ → Request → ℕ → Bool
conflicts p h t r u = not (u == t) && not (p.ok (p.convert (own h t (name_asked r)) (mode_asked r)) (own h u (name_asked r)))

-- Rising numbers with x in its place, once.
abbrev pub add_once : ℕ → List ℕ → List ℕ
add_once x [] = x ∷ []
add_once x (y ∷ ys) = by_order (nat_cmp x y) (x ∷ y ∷ ys) (y ∷ ys) (y ∷ add_once x ys)

-- The transactions that hold a lock, rising, each once.
abbrev pub lockers : Locks → List ℕ
lockers [] = []
lockers (l ∷ ls) = add_once (holder_of l) (lockers ls)

-- The transactions that conflict with one of the requests of t, rising, each once; the requests are granted exactly where there are none.
abbrev pub blockers : Protocol → Locks → ℕ → List Request → List ℕ
blockers p h t rs = filter (λ u. list_any (λ r. conflicts p h t r u) rs) (lockers h)

-- The locks after a request of t is granted: one for commit sets the converted mode, an instant one leaves all.
abbrev pub kept_one : Protocol → Locks → ℕ → Name → ℕ → Span → Locks
kept_one p h t n q Instant = h
kept_one p h t n q Commit = keep h t n (p.convert (own h t n) q)

-- The locks after all the requests of t are granted.
abbrev pub kept : Protocol → Locks → ℕ → List Request → Locks
kept p h t [] = h
kept p h t (r ∷ rs) = kept p (kept_one p h t (name_asked r) (mode_asked r) (span_asked r)) t rs
