-- Protocols that answer the same.
use Rattle.std.specs.Prelude.{◌≡◌, ℕ, ◌<◌, ◌≤◌, List}
use Rattle.kr_model.specs.declared.Row.{Row}
use Rattle.kr_model.specs.declared.Side.{Side}
use Rattle.kr_model.specs.Protocol.{Protocol}
use Rattle.kr_model.specs.ModeNames.{name_of}
use Rattle.kr_ghost.specs.declared.vain.Vain.{Vain}
use Rattle.kr_ghost.specs.Protocol.{GhostProtocol, heir_of, inherits}
use Rattle.kr_kinds.specs.Kinds as kind
use Rattle.kr_kinds.specs.Kinds.{IndexProtocol, table_of}
use Rattle.kr_table.specs.Answer.{table_data}
use Rattle.kr_table.specs.Tables.{protocol_of}
use Rattle.kr_ghost_table.specs.Answer.{ghost_data}
use Rattle.kr_ghost_table.specs.Tables.{ghost_protocol_of}
use Rattle.kr_table_copy.specs.declared.copying.Copy.{Copy}
use Rattle.kr_table_copy.specs.declared.copying.Copy.TheVariants.{Gone, Leaving}

-- Of a requested mode and each held one below k, q says what p says.
abbrev pub SamePairs : Protocol → Protocol → ℕ → ℕ → Type 0
SamePairs p q requested k = (h : ℕ) → h < k → q.ok requested h ≡ p.ok requested h

-- A held mode and each requested one below k convert to the same under both.
abbrev pub SameConversions : Protocol → Protocol → ℕ → ℕ → Type 0
SameConversions p q held k = (r : ℕ) → r < k → q.convert held r ≡ p.convert held r

-- A row requests the same at a side under both, with each own mode below k on the next name.
abbrev pub SameRequests : Protocol → Protocol → Row → Side → ℕ → Type 0
SameRequests p q row side k = (o : ℕ) → o < k → q.ask row side o ≡ p.ask row side o

-- So it is at both sides.
abbrev pub SameSides : Protocol → Protocol → Row → ℕ → Type 0
SameSides p q row k = (side : Side) → SameRequests p q row side k

-- Each mode below k has the same name.
abbrev pub SameNames : List (List ℕ) → List (List ℕ) → ℕ → Type 0
SameNames old new k = (m : ℕ) → m < k → name_of new m ≡ name_of old m

-- Where a ghost is purged, a lock in each mode below k is inherited in the same mode under both, or in none.
abbrev pub SameHeirs : GhostProtocol → GhostProtocol → ℕ → Type 0
SameHeirs p q k = (m : ℕ) → m < k → heir_of q.purges m ≡ heir_of p.purges m

-- q answers as p does, of all modes and of no lock.
pub record AnswersAs (p q : Protocol) : Type 0 where
  pub count : q.count ≡ p.count
  pub updates : q.updates ≡ p.updates
  pub pairs : (r : ℕ) → r ≤ p.count → (h : ℕ) → h ≤ p.count → q.ok r h ≡ p.ok r h
  pub conversions : (h : ℕ) → h ≤ p.count → (r : ℕ) → r ≤ p.count → q.convert h r ≡ p.convert h r
  pub requests : (row : Row) (side : Side) (o : ℕ) → o ≤ p.count → q.ask row side o ≡ p.ask row side o

-- q says of ghosts, of vain steps and of purges what p says: an insert of a ghost requests the same, each vain step has the same row or none, and a lock in each of p's modes is inherited in the same mode, if locks are inherited.
pub record SaysOfGhostsAs (p q : GhostProtocol) : Type 0 where
  pub revive : q.revive ≡ p.revive
  pub revive_next : q.revive_next ≡ p.revive_next
  pub vain : (v : Vain) → q.vain v ≡ p.vain v
  pub insert_hit_next : q.insert_hit_next ≡ p.insert_hit_next
  pub inherits : inherits q.purges ≡ inherits p.purges
  pub heirs : (m : ℕ) → m ≤ p.table.count → heir_of q.purges m ≡ heir_of p.purges m

-- q is of p's kind, and answers as p does.
abbrev pub IndexAnswersAs : IndexProtocol → IndexProtocol → Type 0
IndexAnswersAs (kind.Gone p) (kind.Gone q) = AnswersAs p q
IndexAnswersAs (kind.Leaves p) (kind.Leaves q) = AnswersAs p.table q.table × SaysOfGhostsAs p q
IndexAnswersAs (kind.Gone p) (kind.Leaves q) = ⊥
IndexAnswersAs (kind.Leaves p) (kind.Gone q) = ⊥

-- The protocol that a table of either kind is.
abbrev pub index_in : Copy → IndexProtocol
index_in (Gone t) = kind.Gone (protocol_of (table_data t))
index_in (Leaving t) = kind.Leaves (ghost_protocol_of (ghost_data t))

-- The names of its modes.
abbrev pub names_in : Copy → List (List ℕ)
names_in (Gone t) = (table_data t).modes.names
names_in (Leaving t) = (ghost_data t).table.modes.names

-- A table is of p's kind and answers as p does, and its modes have the same names.
pub record IsCopy (p : IndexProtocol) (names : List (List ℕ)) (c : Copy) : Type 0 where
  pub answers : IndexAnswersAs p (index_in c)
  pub named : (m : ℕ) → m ≤ (table_of p).count → name_of (names_in c) m ≡ name_of names m
