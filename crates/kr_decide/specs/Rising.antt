-- The parts of what makes a protocol ordered, each for one mode or for all.
use Rattle.std.specs.Prelude.{◌≡◌, ℕ, ◌≤◌, Some}
use Rattle.kr_model.specs.declared.Row.{Row}
use Rattle.kr_model.specs.declared.Row.TheVariants.{Insert}
use Rattle.kr_model.specs.declared.Side.{Side}
use Rattle.kr_model.specs.declared.Side.TheVariants.{Next}
use Rattle.kr_model.specs.declared.Span.{Span}
use Rattle.kr_model.specs.declared.Span.TheVariants.{Instant}
use Rattle.kr_model.specs.Protocol.{Protocol}
use Rattle.kr_theorem.specs.Ordered.{IsAtLeast, AsksAtLeast}

-- The converted mode is at least the mode held, and at least the mode requested.
abbrev pub GoesUp : Protocol → ℕ → ℕ → Type 0
GoesUp p h q = IsAtLeast p (p.convert h q) h × IsAtLeast p (p.convert h q) q

-- So it is for each mode requested.
abbrev pub GoesUpFrom : Protocol → ℕ → Type 0
GoesUpFrom p h = (q : ℕ) → q ≤ p.count → GoesUp p h q

-- And from each mode held.
abbrev pub AllGoUp : Protocol → Type 0
AllGoUp p = (h : ℕ) → h ≤ p.count → GoesUpFrom p h

-- Who holds n requests at least what one requests who holds m, if n is at least m.
abbrev pub RisesTo : Protocol → Row → Side → ℕ → ℕ → Type 0
RisesTo p r s m n = IsAtLeast p n m → AsksAtLeast p (p.ask r s n) (p.ask r s m)

-- So does who holds any mode at least m.
abbrev pub RisesFrom : Protocol → Row → Side → ℕ → Type 0
RisesFrom p r s m = (n : ℕ) → n ≤ p.count → RisesTo p r s m n

-- So it is for each m.
abbrev pub Rises : Protocol → Row → Side → Type 0
Rises p r s = (m : ℕ) → m ≤ p.count → RisesFrom p r s m

-- What an insert requests on the next name, if anything, is for an instant.
abbrev pub KeepsNone : Protocol → ℕ → Type 0
KeepsNone p own = (q : ℕ) (span : Span) → p.ask Insert Next own ≡ Some (q, span) → span ≡ Instant

-- So it is at each own mode.
abbrev pub AllKeepNone : Protocol → Type 0
AllKeepNone p = (own : ℕ) → own ≤ p.count → KeepsNone p own
