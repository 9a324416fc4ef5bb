-- A session as contracts see it: a machine under a table, with ghosts or without, between two steps.
use Rattle.std.specs.Prelude.{◌≡◌, ◌⊎◌, ◌&&◌, ℕ, Bool, not, List, [], Ok, IsTrue, is_some}
use Rattle.kr_model.specs.declared.Op.{Op}
use Rattle.kr_model.specs.declared.Refusal.TheVariants as refusal
use Rattle.kr_model.specs.declared.Reply.{Reply}
use Rattle.kr_model.specs.declared.Reply.TheVariants as reply
use Rattle.kr_model.specs.Difference.{first_difference}
use Rattle.kr_model.specs.Map.{Map}
use Rattle.kr_model.specs.Log.{Log, no_log, logged}
use Rattle.kr_model.specs.State.{active_of}
use Rattle.kr_model.specs.Step.{takes_back}
use Rattle.kr_judge.specs.Verdicts.{verdict_of}
use Rattle.kr_judge.specs.declared.verdict.Verdict.{Verdict}
use Rattle.kr_script.specs.Script.{Script}
use Rattle.kr_script.specs.Reading as gone
use Rattle.kr_ghost.specs.State.{GhostState, opened}
use Rattle.kr_ghost.specs.Step.{Outcome}
use Rattle.kr_script.specs.GhostScript.{GhostScript}
use Rattle.kr_script.specs.GhostReading as ghost
use Rattle.kr_kinds.specs.Kinds.{IndexProtocol, Gone, Leaves}
use Rattle.kr_kinds.specs.Steps.{step, may_lack_memory, may_purge, purged, purge_may_lack_memory}
use Rattle.kr_cli.specs.declared.named.Named.{Named}
use Rattle.kr_cli.specs.declared.named.Named.TheVariants.{Table, Ghosts}
use Rattle.kr_embed.specs.Inputs.{IsTable}
use Rattle.kr_embed.specs.Tables.{index_of}

-- Its table, its state, which has ghosts only where deletes leave them, the log of the steps so far, the map that it was opened on, and the reply to the last step.
pub record Seen : Type 0 where
  pub table : Named
  pub state : GhostState
  pub log : Log
  pub opening : Map
  pub last : Reply

-- A session under a table, at the start on an opening map, where nothing has been replied.
abbrev pub at_start : Named → Map → Seen
at_start t m = record { table = t; state = opened m; log = no_log; opening = m; last = reply.None }

-- The bytes are a script with this opening map; under a table with ghosts it may have purges.
abbrev pub HasOpening : Named → List ℕ → Map → Type 0
HasOpening (Table t) script m = (x : Script) × ((gone.reading script ≡ Ok x) × (m ≡ x.opening))
HasOpening (Ghosts t) script m = (x : GhostScript) × ((ghost.reading script ≡ Ok x) × (m ≡ x.opening))

-- The session is at the start under a table, on the opening map of the script that bytes are.
abbrev pub IsOpenedUnder : Named → List ℕ → Seen → Type 0
IsOpenedUnder t script s = (m : Map) × (HasOpening t script m × (s ≡ at_start t m))

-- The same under the table that bytes are.
abbrev pub IsOpened : List ℕ → List ℕ → Seen → Type 0
IsOpened table script s = (t : Named) × (IsTable table t × IsOpenedUnder t script s)

-- Steps --

-- Whether a step may run out of memory. Without ghosts that comes in place of no other refusal, and not where an active transaction ends or undoes a change; with them, not where one aborts or undoes a change.
abbrev pub may_lack : IndexProtocol → GhostState → ℕ → Op → Bool
may_lack (Gone p) s t o = may_lack_memory (Gone p) s t o
may_lack (Leaves p) s t o = not (takes_back o && is_some (active_of s.state t))

-- The reply and the new state are those of the step, or memory was refused where that may be and the state stays.
abbrev pub IsIndexStep : IndexProtocol → GhostState → ℕ → Op → Reply → GhostState → Type 0
IsIndexStep p s t o r new = (◌≡◌ {A = Outcome} (r, new) (step p s t o)) ⊎ ((r ≡ reply.Refused refusal.Memory) × ((new ≡ s) × IsTrue (may_lack p s t o)))

-- A session's next step is a step of the definition, whose reply is then its last; the log has it, and the table and the opening map stay.
pub record IsNext (s : Seen) (txn : ℕ) (op : Op) (t : Seen) : Type 0 where
  pub step : IsIndexStep (index_of s.table) s.state txn op t.last t.state
  pub log : t.log ≡ logged s.log (record { txn = txn; op = op }, t.last)
  pub table : t.table ≡ s.table
  pub opening : t.opening ≡ s.opening

-- Purges --

-- Whether a session's purge of a key takes a ghost away.
abbrev pub may_purge_in : Seen → ℕ → Bool
may_purge_in s k = may_purge (index_of s.table) s.state k

-- Whether that may run out of memory.
abbrev pub purge_may_lack : Seen → ℕ → Bool
purge_may_lack s k = purge_may_lack_memory (index_of s.table) s.state k

-- A session after the purge of a key: its state may change, and all else stays, the last reply too.
abbrev pub with_purged : Seen → ℕ → Seen
with_purged s k = record { table = s.table; state = purged (index_of s.table) s.state k; log = s.log; opening = s.opening; last = s.last }

-- Reading --

-- The verdict on the transactions that have committed so far.
abbrev pub verdict_so_far : Seen → Verdict
verdict_so_far s = verdict_of (first_difference s.opening s.log.committed)

-- The pairs that a reply's scan ended with.
abbrev pub rows_in : Reply → Map
rows_in (reply.Rows rows) = rows
rows_in _ = []
