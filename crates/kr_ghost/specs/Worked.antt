-- Worked examples: how a run is shown, and tables that go wrong by one entry.
use Rattle.std.specs.Prelude.{ℕ, List, [], ◌∷◌, Option, None, if◌then◌else◌}
use Rattle.kr_model.specs.declared.Row.{Row}
use Rattle.kr_model.specs.declared.Row.TheVariants.{Insert}
use Rattle.kr_model.specs.declared.Side.{Side}
use Rattle.kr_model.specs.declared.Side.TheVariants.{Current}
use Rattle.kr_model.specs.declared.Span.{Span}
use Rattle.kr_model.specs.declared.Op.{Op}
use Rattle.kr_model.specs.declared.Op.TheVariants as op
use Rattle.kr_model.specs.declared.Reply.{Reply}
use Rattle.kr_model.specs.Map.{Map}
use Rattle.kr_model.specs.Locks.{Locks}
use Rattle.kr_model.specs.Matrices.{for_commit}
use Rattle.kr_model.specs.Run.{replies_of}
use Rattle.kr_ghost.specs.Protocol.{GhostProtocol, Inherit}
use Rattle.kr_ghost.specs.State.{opened}
use Rattle.kr_ghost.specs.declared.moves.Move.{Move}
use Rattle.kr_ghost.specs.declared.moves.Move.TheVariants.{Attempt}
use Rattle.kr_ghost.specs.Run.{run}
use Rattle.kr_ghost.specs.Tables.{record_gap, record_gap_ask, range_ghost, range_ghost_ask, next_key_ghost, next_key_ask, locks_gap, G-N, N-X, KW}

-- The keys 10, 20 and 30, with the values 1, 2 and 3.
abbrev pub three : Map
three = (10, 1) ∷ (20, 2) ∷ (30, 3) ∷ []

-- The operation, attempted by t.
abbrev pub by : ℕ → Op → Move
by t o = Attempt (record { txn = t; op = o })

-- Transaction 1 deletes 20 and commits, and then come these.
abbrev pub after_delete : List Move → List Move
after_delete moves = by 1 (op.Delete 20) ∷ by 1 op.Commit ∷ moves

-- A run from there: its replies, and at the end the locks, the pairs of the index and the ghosts.
pub record Shown : Type 0 where
  pub replies : List Reply
  pub locks : Locks
  pub pairs : Map
  pub ghosts : List ℕ

abbrev pub shown : GhostProtocol → List Move → Shown
shown p moves =
    let r = run p (opened three) moves in
    record { replies = replies_of r.history; locks = r.last.state.locks; pairs = r.last.state.map; ghosts = r.last.ghosts }

-- Tables that go wrong by one entry --

-- A purge drops the locks on the ghost.
abbrev pub dropped : ℕ → ℕ
dropped m = 0

abbrev pub drops_locks : GhostProtocol
drops_locks = record record_gap { purges = Inherit dropped }

-- A purge leaves to the next name what locks the gap, and no lock on a ghost alone that was read.
abbrev pub only_gaps : ℕ → ℕ
only_gaps m = if locks_gap m then G-N else 0

abbrev pub inherits_only_gaps : GhostProtocol
inherits_only_gaps = record record_gap { purges = Inherit only_gaps }

-- An insert locks its new key alone, whatever its transaction locks on the next name.
abbrev pub plain_insert_ask : Row → Side → ℕ → Option (ℕ × Span)
plain_insert_ask Insert Current own = for_commit N-X
plain_insert_ask r s own = record_gap_ask r s own

abbrev pub inserts_plainly : GhostProtocol
inserts_plainly = record record_gap { table = record (record_gap.table) { ask = plain_insert_ask } }

-- An insert of a ghost requests nothing.
abbrev pub revives_freely : GhostProtocol
revives_freely = record record_gap { revive = None }

-- A ghost under locks on ranges is purged whatever is held on it, and the locks go.
abbrev pub purges_locked : GhostProtocol
purges_locked = record range_ghost { purges = Inherit dropped }

-- The same insert under locks on ranges, and under locks on next keys.
abbrev pub plain_range_ask : Row → Side → ℕ → Option (ℕ × Span)
plain_range_ask Insert Current own = for_commit N-X
plain_range_ask r s own = range_ghost_ask r s own

abbrev pub range_inserts_plainly : GhostProtocol
range_inserts_plainly = record range_ghost { table = record (range_ghost.table) { ask = plain_range_ask } }

abbrev pub plain_next_ask : Row → Side → ℕ → Option (ℕ × Span)
plain_next_ask Insert Current own = for_commit KW
plain_next_ask r s own = next_key_ask r s own

abbrev pub next_inserts_plainly : GhostProtocol
next_inserts_plainly = record next_key_ghost { table = record (next_key_ghost.table) { ask = plain_next_ask } }
