-- What transactions inherit of the locks on a ghost.
use Rattle.std.specs.Prelude.{◌≡◌, ◌≢◌, ℕ, Bool, List, Option, Some, None, if◌then◌else◌}
use Rattle.std.specs.Ordering.{nat_cmp}
use Rattle.std.specs.FinMap.{find}
use Rattle.kr_model.specs.declared.Name.{Name}
use Rattle.kr_model.specs.declared.Name.TheVariants.{Key}
use Rattle.kr_model.specs.Protocol.{Protocol}
use Rattle.kr_model.specs.Locks.{Locks, own}
use Rattle.kr_model.specs.State.{Active}

-- The mode that t gets on the name n for its lock on the ghost k: of one who rolls back it stays.
abbrev pub inherited : Protocol → (ℕ → ℕ) → Locks → ℕ → Name → Bool → ℕ → ℕ
inherited p heir h k n rolls t = if rolls then own h t n else p.convert (own h t n) (heir (own h t (Key k)))

-- Who had the locks h has inherited, and has the locks l: that mode on n, none on k, and elsewhere the same.
pub record HasInherited (p : Protocol) (heir : ℕ → ℕ) (h l : Locks) (k : ℕ) (n : Name) (rolls : Bool) (t : ℕ) : Type 0 where
  pub key : own l t (Key k) ≡ 0
  pub next : own l t n ≡ inherited p heir h k n rolls t
  pub others : (x : Name) → x ≢ Key k → x ≢ n → own l t x ≡ own h t x

-- An active transaction has inherited, and any other has the locks that it had.
abbrev pub Inherits : Protocol → (ℕ → ℕ) → Locks → Locks → ℕ → Name → ℕ → Option Active → Type 0
Inherits p heir h l k n t None = (x : Name) → own l t x ≡ own h t x
Inherits p heir h l k n t (Some a) = HasInherited p heir h l k n a.rolling t

-- Each of these transactions has inherited, and nobody else.
abbrev pub AllInherit : Protocol → (ℕ → ℕ) → Locks → Locks → ℕ → Name → List (ℕ × Active) → Type 0
AllInherit p heir h l k n es = (t : ℕ) → Inherits p heir h l k n t (find nat_cmp t es)

-- Somebody holds a lock on the name.
abbrev pub IsHeld : Locks → Name → Type 0
IsHeld h n = (t : ℕ) × (own h t n ≢ 0)
