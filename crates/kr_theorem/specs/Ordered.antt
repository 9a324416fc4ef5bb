-- Ordered tables: a converted mode is at least both modes that it is made of, and what a transaction requests rises with the mode that it holds. It names no key, index or run.
use Rattle.std.specs.Prelude.{◌≡◌, ℕ, ◌≤◌, true, Option, Some, None}
use Rattle.kr_model.specs.declared.Row.{Row}
use Rattle.kr_model.specs.declared.Row.TheVariants.{Insert}
use Rattle.kr_model.specs.declared.Side.{Side}
use Rattle.kr_model.specs.declared.Side.TheVariants.{Next}
use Rattle.kr_model.specs.declared.Span.{Span}
use Rattle.kr_model.specs.declared.Span.TheVariants.{Instant, Commit}
use Rattle.kr_model.specs.Protocol.{Protocol}

-- Mode n is at least mode m: n is compatible with nothing that m conflicts with, be it requested or held.
pub record IsAtLeast (p : Protocol) (n m : ℕ) : Type 0 where
  -- each held lock with which a request in n is compatible is one with which a request in m is
  pub requested : (h : ℕ) → h ≤ p.count → p.ok n h ≡ true → p.ok m h ≡ true
  -- each request that is compatible with a lock held in n is compatible with one held in m
  pub held : (q : ℕ) → q ≤ p.count → p.ok q n ≡ true → p.ok q m ≡ true

-- The first of two requests is at least the second: its mode is, and it is held to commit where the second is. Each request is at least none.
abbrev pub AsksAtLeast : Protocol → Option (ℕ × Span) → Option (ℕ × Span) → Type 0
AsksAtLeast p a None = Unit {0}
AsksAtLeast p None (Some b) = ⊥
AsksAtLeast p (Some (n, of_n)) (Some (m, of_m)) = IsAtLeast p n m × (of_m ≡ Commit → of_n ≡ Commit)

-- What makes a protocol ordered.
pub record IsOrdered (p : Protocol) : Type 0 where
  -- a converted mode is at least the mode held, and at least the mode requested
  pub convert : (h q : ℕ) → h ≤ p.count → q ≤ p.count → IsAtLeast p (p.convert h q) h × IsAtLeast p (p.convert h q) q
  -- who holds at least m on the next name requests at least what one requests who holds m there; only insert and delete look at that mode
  pub ask : (row : Row) (side : Side) (m n : ℕ) → m ≤ p.count → n ≤ p.count → IsAtLeast p n m → AsksAtLeast p (p.ask row side n) (p.ask row side m)
  -- an insert keeps no lock on the next name
  pub insert_next : (own q : ℕ) (span : Span) → own ≤ p.count → p.ask Insert Next own ≡ Some (q, span) → span ≡ Instant
