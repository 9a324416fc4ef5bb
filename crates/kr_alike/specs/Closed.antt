-- A set of the modes that two transactions can hold on one name under two tables, which requests and ends don't lead out of, and in which each request is blocked under both tables or under neither. It names no key, index or run.
use Rattle.std.specs.Prelude.{◌≡◌, ℕ, ◌≤◌, Bool, false, IsTrue, Option}
use Rattle.kr_model.specs.declared.Row.{Row}
use Rattle.kr_model.specs.declared.Row.TheVariants.{Insert, Delete}
use Rattle.kr_model.specs.declared.Side.{Side}
use Rattle.kr_model.specs.declared.Side.TheVariants.{Current, Next}
use Rattle.kr_model.specs.declared.Span.{Span}
use Rattle.kr_model.specs.Protocol.{Protocol}
use Rattle.kr_model.specs.Covers.{mode_after, conflicts_with}
use Rattle.kr_alike.specs.declared.modes.Modes.{Modes}

-- What one transaction holds on a name, under the first table and under the second: no lock under either.
abbrev pub none : Modes
none = record { first = 0; second = 0 }

-- The own mode on the next name that a request goes by, where the requester holds x on the requested name and n on the next name. Only inserts and deletes go by it; at the side next the two names are one.
abbrev pub given : Row → Side → ℕ → ℕ → ℕ
given Insert Current x n = n
given Insert Next x n = x
given Delete Current x n = n
given Delete Next x n = x
given _ _ x n = 0

-- The mode and the span requested at this row and side, or nothing.
abbrev pub asked : Protocol → Row → Side → ℕ → ℕ → Option (ℕ × Span)
asked p r s x n = p.ask r s (given r s x n)

-- Whether the request conflicts with the lock y of another transaction.
abbrev pub is_blocked : Protocol → Row → Side → ℕ → ℕ → ℕ → Bool
is_blocked p r s x n y = conflicts_with p y x (asked p r s x n)

-- The modes after the request is granted under both tables.
abbrev pub after : Protocol → Protocol → Row → Side → Modes → Modes → Modes
after p q r s x n = record {
  first = mode_after p x.first (asked p r s x.first n.first);
  second = mode_after q x.second (asked q r s x.second n.second);
}

-- The set R of what two transactions hold on one name is closed, where not each request comes: `May r s x n y` if a transaction may come to request at this row and side that holds x on the name and n on the next one, beside one that holds y, all under the first table.
pub record IsClosedFor (p q : Protocol) (May : Row → Side → ℕ → ℕ → ℕ → Type 0) (R : Modes → Modes → Type 0) : Type 0 where
  -- it has modes of the tables alone
  pub within : (x y : Modes) → R x y → (x.first ≤ p.count) × (x.second ≤ q.count)
  -- at first neither holds a lock
  pub start : R none none
  -- the two may be exchanged
  pub turn : (x y : Modes) → R x y → R y x
  -- either may end, and then holds no lock
  pub leave : (x y : Modes) → R x y → R none y
  -- each request that may come, with any modes on the next name that one can hold, is blocked under both tables or under neither
  pub answer : (r : Row) (s : Side) (x y n : Modes) → May r s x.first n.first y.first → R x y → R n none → is_blocked p r s x.first n.first y.first ≡ is_blocked q r s x.second n.second y.second
  -- and the set has what the two hold after it is granted
  pub move : (r : Row) (s : Side) (x y n : Modes) → May r s x.first n.first y.first → R x y → R n none → is_blocked p r s x.first n.first y.first ≡ false → R (after p q r s x n) y

-- The set R of what two transactions hold on one name is closed.
pub record IsClosed (p q : Protocol) (R : Modes → Modes → Type 0) : Type 0 where
  -- it has modes of the tables alone
  pub within : (x y : Modes) → R x y → (x.first ≤ p.count) × (x.second ≤ q.count)
  -- at first neither holds a lock
  pub start : R none none
  -- the two may be exchanged
  pub turn : (x y : Modes) → R x y → R y x
  -- either may end, and then holds no lock
  pub leave : (x y : Modes) → R x y → R none y
  -- either may come to request a lock, with any modes on the next name that one can hold: it is blocked under both tables or under neither
  pub answer : (r : Row) (s : Side) (x y n : Modes) → R x y → R n none → is_blocked p r s x.first n.first y.first ≡ is_blocked q r s x.second n.second y.second
  -- and the set has what the two hold after it is granted
  pub move : (r : Row) (s : Side) (x y n : Modes) → R x y → R n none → is_blocked p r s x.first n.first y.first ≡ false → R (after p q r s x n) y

-- Some set is closed as far as requests may come, and both tables offer updates or neither does.
pub record HasClosedSetFor (p q : Protocol) (May : Row → Side → ℕ → ℕ → ℕ → Type 0) : Type 0 where
  pub updates : p.updates ≡ q.updates
  pub has : Modes → Modes → Bool
  pub closed : IsClosedFor p q May (λ x y. IsTrue (has x y))

-- Some set is closed, and both tables offer updates or neither does.
pub record HasClosedSet (p q : Protocol) : Type 0 where
  pub updates : p.updates ≡ q.updates
  pub has : Modes → Modes → Bool
  pub closed : IsClosed p q (λ x y. IsTrue (has x y))
