-- What is known of the pairs found so far.
use Rattle.std.specs.Prelude.{◌≡◌, ℕ, ◌+◌, ◌*◌, ◌<◌, ◌≤◌, Bool, true, false, not, ◌&&◌, List, length, slice_index_or, cond, Option, Some, None, if◌then◌else◌}
use Rattle.std.specs.List.{sum_by}
use Rattle.kr_ghost.specs.Protocol.{GhostProtocol, inherits}
use Rattle.kr_ghost.specs.Safe.{Hold, Beside}
use Rattle.kr_ghost_decide.specs.declared.heir.Heir.{Heir}
use Rattle.kr_ghost_decide.specs.declared.heir.Heirs.{Heirs}
use Rattle.kr_ghost_decide.specs.declared.found.Found.{Found}
use Rattle.kr_ghost_decide.specs.declared.way.Way.TheVariants as way
use Rattle.kr_ghost_decide.specs.Holds.{Fact, place, hold_at, fact_at}
use Rattle.kr_ghost_decide.specs.Ways.{ways, moved, alters}
use Rattle.kr_ghost_decide.specs.Heirs.{left_of, inherited_by}

-- Two transactions can have this, in modes of the protocol.
pub record IsReached (p : GhostProtocol) (f : Fact) : Type 0 where
  pub beside : Beside p f.present f.own f.other
  pub own : f.own.mode ≤ p.table.count
  pub other : f.other.mode ≤ p.table.count

-- Whether a pair is marked.
abbrev pub has : List Bool → Fact → Bool
has marks f = slice_index_or marks (place f) false

-- How many places aren't marked.
abbrev pub unmarked : List Bool → ℕ
unmarked marks = sum_by (λ b. cond b 0 1) marks

-- Each marked pair is reached; the first two, where neither has anything, are marked; and the marks are counted.
pub record IsFound (p : GhostProtocol) (f : Found) : Type 0 where
  pub size : length f.marks.items ≡ 294912
  pub some : 0 < f.count
  pub total : f.count + unmarked f.marks.items ≡ 294912
  pub ghost_start : slice_index_or f.marks.items 0 false ≡ true
  pub start : slice_index_or f.marks.items 1 false ≡ true
  pub reached : (k : ℕ) → slice_index_or f.marks.items k false ≡ true → IsReached p (fact_at k)

-- It is reached, and isn't marked.
pub record IsNew (p : GhostProtocol) (marks : List Bool) (f : Fact) : Type 0 where
  pub reached : IsReached p f
  pub new : has marks f ≡ false

-- What comes of something is marked, if anything does.
abbrev pub HasAny : List Bool → Option Fact → Type 0
HasAny marks None = Unit {0}
HasAny marks (Some f) = has marks f ≡ true

-- What comes of a pair by itself is marked.
abbrev pub HasMoved : GhostProtocol → List Bool → Fact → Type 0
HasMoved p marks f = (k : ℕ) → k < 24 → HasAny marks (moved p f (slice_index_or ways k way.Turn))

-- Whether a third with the lock state z stands beside both, and may take the key away or bring it back.
abbrev pub is_altered : GhostProtocol → List Bool → Fact → Hold → Bool
is_altered p marks f z =
    has marks (record { present = f.present; own = z; other = f.own }) && (has marks (record { present = f.present; own = z; other = f.other }) && alters p f.present z f.own f.other)

-- The pair where the key is taken away or brought back.
abbrev pub altered : Fact → Fact
altered f = record { present = not f.present; own = f.own; other = f.other }

-- What comes of it by a third is marked.
abbrev pub HasAltered : GhostProtocol → List Bool → Fact → Type 0
HasAltered p marks f = (n : ℕ) → n < (p.table.count + 1) * 24 → is_altered p marks f (hold_at n) ≡ true → has marks (altered f) ≡ true

-- What stands past the end of a list of heirs.
abbrev pub nobody : Heir
nobody = record { mode = 0; read = false; rolling = false }

abbrev pub nothing : Heirs
nothing = record { own = nobody; other = nobody }

abbrev pub heirs_at : List Heirs → ℕ → Heirs
heirs_at heirs k = slice_index_or heirs k nothing

-- What comes of it by a purge is marked, where this is left.
abbrev pub HasInherited : GhostProtocol → List Bool → List Heirs → Fact → Type 0
HasInherited p marks heirs f = (k : ℕ) → k < length heirs → HasAny marks (inherited_by p f (heirs_at heirs k))

-- All that comes of a pair is marked.
pub record HasAll (p : GhostProtocol) (marks : List Bool) (heirs : List Heirs) (f : Fact) : Type 0 where
  pub moved : HasMoved p marks f
  pub altered : HasAltered p marks f
  pub inherited : HasInherited p marks heirs f

-- The pair with this number, if it is marked.
abbrev pub found_at : List Bool → ℕ → Option Fact
found_at marks k = if slice_index_or marks k false then Some (fact_at k) else None

-- All that comes of the pair is marked, if there is one.
abbrev pub HasAllOf : GhostProtocol → List Bool → List Heirs → Option Fact → Type 0
HasAllOf p marks heirs None = Unit {0}
HasAllOf p marks heirs (Some f) = HasAll p marks heirs f

-- So it is at the first n places.
abbrev pub AreFollowed : GhostProtocol → List Heirs → ℕ → List Bool → Type 0
AreFollowed p heirs n marks = (k : ℕ) → k < n → HasAllOf p marks heirs (found_at marks k)

-- What a part of a pass comes to: where nothing is new, the marks were such as they had to be.
pub record IsPassed (p : GhostProtocol) (Met : List Bool → Type 0) (old new : Found) : Type 0 where
  pub found : IsFound p new
  pub more : old.count ≤ new.count
  pub same : new.count ≡ old.count → (new.marks.items ≡ old.marks.items) × Met old.marks.items

-- This is left on a ghost of two, and inherited where it is purged.
pub record IsLeft (p : GhostProtocol) (h : Heirs) : Type 0 where
  pub fact : Fact
  pub reached : IsReached p fact
  pub is : left_of p fact ≡ Some h
  pub inherits : inherits p.purges ≡ true
  pub own : h.own.mode ≤ p.table.count
  pub other : h.other.mode ≤ p.table.count

abbrev pub AreLeft : GhostProtocol → List Heirs → Type 0
AreLeft p heirs = (k : ℕ) → k < length heirs → IsLeft p (heirs_at heirs k)

-- The list has this.
pub record HasHeirs (heirs : List Heirs) (h : Heirs) : Type 0 where
  pub place : ℕ
  pub within : place < length heirs
  pub is : heirs_at heirs place ≡ h

-- The list has what is left of the pair, if there is one and anything is left.
abbrev pub HasLeft : GhostProtocol → List Heirs → Option Fact → Type 0
HasLeft p heirs None = Unit {0}
HasLeft p heirs (Some f) = (h : Heirs) → left_of p f ≡ Some h → HasHeirs heirs h

-- The list has what is left of each of the first n pairs that are marked, and no more.
pub record AreHeirs (p : GhostProtocol) (marks : List Bool) (n : ℕ) (heirs : List Heirs) : Type 0 where
  pub left : AreLeft p heirs
  pub all : inherits p.purges ≡ true → (k : ℕ) → k < n → HasLeft p heirs (found_at marks k)
