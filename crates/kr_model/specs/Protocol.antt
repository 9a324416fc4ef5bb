-- A locking protocol: its modes, which of them are compatible, and what each row of its table requests.
-- A mode is a number: 0 is no lock, and the modes are 1 to `count`.
use Rattle.std.specs.Prelude.{◌≡◌, ℕ, ◌<◌, ◌≤◌, Bool, true, false, Option, Some, None}
use Rattle.kr_model.specs.declared.Row.{Row}
use Rattle.kr_model.specs.declared.Row.TheVariants.{FetchHit, FetchMiss, ScanKey, ScanStop, Insert, Delete, Update}
use Rattle.kr_model.specs.declared.Side.{Side}
use Rattle.kr_model.specs.declared.Span.{Span}

-- A locking protocol, as functions of its modes.
pub record Protocol : Type 0 where
  -- how many modes there are
  pub count : ℕ
  -- ok q h: a request in mode q is compatible with a lock that another transaction holds in mode h
  pub ok : ℕ → ℕ → Bool
  -- convert h q: the mode of one who holds h and requests q
  pub convert : ℕ → ℕ → ℕ
  -- ask row side own: the mode and the span requested, or nothing; own is the requester's mode on the next name before the operation
  pub ask : Row → Side → ℕ → Option (ℕ × Span)
  -- whether it offers updates
  pub updates : Bool

-- A row moves no key if its operation neither inserts nor deletes one.
abbrev pub MovesNoKey : Row → Type 0
MovesNoKey FetchHit = Unit {0}
MovesNoKey FetchMiss = Unit {0}
MovesNoKey ScanKey = Unit {0}
MovesNoKey ScanStop = Unit {0}
MovesNoKey Insert = ⊥
MovesNoKey Delete = ⊥
MovesNoKey Update = Unit {0}

-- A number is a mode of p if it is above 0 and at most the count.
pub record IsMode (p : Protocol) (m : ℕ) : Type 0 where
  pub some : 0 < m
  pub in_range : m ≤ p.count

-- The laws that each protocol keeps, covered or not.
pub record IsLawful (p : Protocol) : Type 0 where
  -- there are at most 15 modes
  pub few : p.count ≤ 15
  -- a request is compatible where nothing is held, and no request with every lock
  pub ok-none_held : (q : ℕ) → q ≤ p.count → p.ok q 0 ≡ true
  pub ok-none_asked : (h : ℕ) → h ≤ p.count → p.ok 0 h ≡ true
  -- no lock and a mode convert to that mode, and two modes to a mode
  pub convert-none_held : (q : ℕ) → q ≤ p.count → p.convert 0 q ≡ q
  pub convert-none_asked : (h : ℕ) → h ≤ p.count → p.convert h 0 ≡ h
  pub convert-modes : (h q : ℕ) → IsMode p h → IsMode p q → IsMode p (p.convert h q)
  -- what is requested is a mode
  pub ask-mode : (row : Row) (side : Side) (own q : ℕ) (span : Span) → own ≤ p.count → p.ask row side own ≡ Some (q, span) → IsMode p q
  -- a row that moves no key asks the same whatever is held
  pub ask-no_move : (row : Row) (side : Side) (own : ℕ) → MovesNoKey row → own ≤ p.count → p.ask row side own ≡ p.ask row side 0
  -- where no updates are offered, an update requests nothing
  pub ask-no_update : (side : Side) (own : ℕ) → p.updates ≡ false → own ≤ p.count → p.ask Update side own ≡ None
