-- A locking protocol under which a deleted key stays in the index as a ghost until it is purged.
use Rattle.std.specs.Prelude.{◌≡◌, ℕ, ◌≤◌, Bool, false, true, Option, Some}
use Rattle.kr_model.specs.declared.Span.{Span}
use Rattle.kr_model.specs.Protocol.{Protocol, IsLawful, IsMode}
use Rattle.kr_ghost.specs.declared.vain.Vain.{Vain}

-- What becomes of the locks on a ghost that is purged: the purge waits until there are none; or each becomes a lock on the next name, in the mode that `heir` gives for its mode, 0 for none. A transaction that rolls back inherits nothing.
pub data Purges : Type 0 where
  Unlocked : Purges
  Inherit : (ℕ → ℕ) → Purges

-- Whether the locks on a ghost that is purged are inherited.
abbrev pub inherits : Purges → Bool
inherits Unlocked = false
inherits (Inherit heir) = true

-- The mode on the next name of who has the mode h on a ghost that is purged; 0 for none, as where the purge waits until there is no lock.
abbrev pub heir_of : Purges → ℕ → ℕ
heir_of Unlocked h = 0
heir_of (Inherit heir) h = heir h

-- A protocol and what it says of ghosts. No row but insert looks at the own mode on the next name, and no step asks what a delete requests there.
pub record GhostProtocol : Type 0 where
  -- its modes, matrices and rows
  pub table : Protocol
  -- what an insert of a ghost requests on it, and on the next name
  pub revive : Option (ℕ × Span)
  pub revive_next : Option (ℕ × Span)
  -- what a vain step requests; nothing here where it requests what a fetch does
  pub vain : Vain → Option (Option (ℕ × Span))
  -- what an insert of a present key requests on the next name
  pub insert_hit_next : Option (ℕ × Span)
  pub purges : Purges

-- An inherited mode is none or a mode, and no lock leaves no lock.
abbrev pub IsLawfulPurge : Protocol → Purges → Type 0
IsLawfulPurge p Unlocked = Unit {0}
IsLawfulPurge p (Inherit heir) = (heir 0 ≡ 0) × ((h : ℕ) → h ≤ p.count → heir h ≤ p.count)

-- What is requested is a mode.
abbrev pub AsksMode : Protocol → Option (ℕ × Span) → Type 0
AsksMode p asked = (q : ℕ) (span : Span) → asked ≡ Some (q, span) → IsMode p q

-- The laws that each protocol keeps, covered or not.
pub record IsLawfulGhost (p : GhostProtocol) : Type 0 where
  pub table : IsLawful p.table
  pub revive : AsksMode p.table p.revive
  pub revive_next : AsksMode p.table p.revive_next
  pub vain : (v : Vain) (asked : Option (ℕ × Span)) → p.vain v ≡ Some asked → AsksMode p.table asked
  pub insert_hit_next : AsksMode p.table p.insert_hit_next
  pub purges : IsLawfulPurge p.table p.purges
