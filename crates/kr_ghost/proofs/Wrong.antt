-- Tables that go wrong by one entry, each with a run.
use Rattle.std.specs.Prelude.{◌≡◌, ℕ, List, [], ◌∷◌, Option, Some, None, refl, ◌≤◌, Bool, true, false, if◌then◌else◌}
use Rattle.std.proofs.Common.{sym, ◌∙◌, arith}
use Rattle.kr_model.specs.declared.Op.TheVariants as op
use Rattle.kr_model.specs.declared.Reply.{Reply}
use Rattle.kr_model.specs.declared.Reply.TheVariants as reply
use Rattle.kr_model.specs.Run.{programs}
use Rattle.kr_model.specs.Difference.{Difference, first_difference}
use Rattle.kr_model.proofs.SerialLaws.{none_if_serial}
use Rattle.kr_model.proofs.Tested.{lawful_by_test}
use Rattle.kr_ghost.specs.Protocol.{GhostProtocol, IsLawfulGhost}
use Rattle.kr_ghost.specs.State.{opened}
use Rattle.kr_ghost.specs.declared.moves.Move.{Move}
use Rattle.kr_ghost.specs.declared.moves.Move.TheVariants.{Purge}
use Rattle.kr_ghost.specs.Run.{run}
use Rattle.kr_ghost.specs.Safe.{IsSafeGhost}
use Rattle.kr_ghost.specs.Needed.{GoesWrong}
use Rattle.kr_ghost.specs.Worked.{three, by, after_delete, only_gaps, drops_locks, inherits_only_gaps, inserts_plainly, revives_freely, purges_locked, range_inserts_plainly, next_inserts_plainly}
use Rattle.kr_ghost.specs.Tables.{record_gap, range_ghost, locks_gap}
use Rattle.kr_ghost.proofs.Bundled.{mode_is, record_gap_lawful, asks_nothing, no_rows}
use Rattle.kr_ghost.proofs.Runs.{safe_runs_are_serial}

-- Commits, in this order.
abbrev pub then_commit : List ℕ → List Move
then_commit [] = []
then_commit (n ∷ ns) = by n op.Commit ∷ then_commit ns

-- The operation n of a transaction was given an answer that isn't that of the serial run.
abbrev pub differ : ℕ → ℕ → Reply → Reply → Difference
differ t n given serial = record { txn = t; operation = n; given = given; serial = serial }

none_some : (d : Difference) → ◌≡◌ {A = Option Difference} None (Some d) → ⊥
none_some d h = cc

-- Programs with a difference aren't serializable.
pub wrong : (p : GhostProtocol) (moves : List Move) (d : Difference) → first_difference three (programs (run p (opened three) moves).history) ≡ Some d → GoesWrong p
wrong p moves d e = (three, moves, refl, λ serial. none_some d (sym (none_if_serial three (programs (run p (opened three) moves).history) serial) ∙ e))

-- Tables that go wrong by one entry --

-- A deletes 20 and commits; B finds no 20, the ghost is purged, and C inserts 20 and commits before B.
abbrev after_purge : List Move
after_purge = after_delete (by 2 (op.Fetch 20) ∷ Purge 20 ∷ by 3 (op.Insert 20 9) ∷ then_commit (3 ∷ 2 ∷ []))

pub drops_locks-wrong : GoesWrong drops_locks
drops_locks-wrong = wrong drops_locks after_purge (differ 2 1 reply.None (reply.Found 9)) refl

pub inherits_only_gaps-wrong : GoesWrong inherits_only_gaps
inherits_only_gaps-wrong = wrong inherits_only_gaps after_purge (differ 2 1 reply.None (reply.Found 9)) refl

pub purges_locked-wrong : GoesWrong purges_locked
purges_locked-wrong = wrong purges_locked after_purge (differ 2 1 reply.None (reply.Found 9)) refl

-- A finds no 12 and inserts 15, so 12 hangs on 15; B inserts 12 and commits before A.
abbrev after_split : List Move
after_split = by 1 (op.Fetch 12) ∷ by 1 (op.Insert 15 5) ∷ by 2 (op.Insert 12 7) ∷ then_commit (2 ∷ 1 ∷ [])

pub inserts_plainly-wrong : GoesWrong inserts_plainly
inserts_plainly-wrong = wrong inserts_plainly after_split (differ 1 1 reply.None (reply.Found 7)) refl

pub range_inserts_plainly-wrong : GoesWrong range_inserts_plainly
range_inserts_plainly-wrong = wrong range_inserts_plainly after_split (differ 1 1 reply.None (reply.Found 7)) refl

pub next_inserts_plainly-wrong : GoesWrong next_inserts_plainly
next_inserts_plainly-wrong = wrong next_inserts_plainly after_split (differ 1 1 reply.None (reply.Found 7)) refl

-- A deletes 20 and commits; B finds no 20, and C inserts the ghost and commits before B.
pub revives_freely-wrong : GoesWrong revives_freely
revives_freely-wrong = wrong revives_freely (after_delete (by 2 (op.Fetch 20) ∷ by 3 (op.Insert 20 9) ∷ then_commit (3 ∷ 2 ∷ []))) (differ 2 1 reply.None (reply.Found 9)) refl

-- A lawful table that goes wrong isn't safe, by the theorem.
unsafe : (p : GhostProtocol) → IsLawfulGhost p → GoesWrong p → GoesWrong p × (IsSafeGhost p → ⊥)
unsafe p laws w = (w, λ safe. let r = safe_runs_are_serial p laws safe w.0 w.1 w.2 in w.3 r.0)

pub drops_locks-unsafe : GoesWrong drops_locks × (IsSafeGhost drops_locks → ⊥)
drops_locks-unsafe =
    unsafe drops_locks (record {
      table = lawful_by_test record_gap.table refl;
      revive = mode_is record_gap.table 2 (record { some = omega arith; in_range = omega arith });
      revive_next = asks_nothing record_gap.table;
      vain = no_rows record_gap.table;
      insert_hit_next = asks_nothing record_gap.table;
      purges = (refl, λ h le. omega arith);
    }) drops_locks-wrong

only_gaps_within : (h : ℕ) → h ≤ 11 → only_gaps h ≤ 11
only_gaps_within h le = one (locks_gap h)
  where
    one : (b : Bool) → (if b then 3 else 0) ≤ 11
    one true = omega arith
    one false = omega arith

pub inherits_only_gaps-unsafe : GoesWrong inherits_only_gaps × (IsSafeGhost inherits_only_gaps → ⊥)
inherits_only_gaps-unsafe =
    unsafe inherits_only_gaps (record {
      table = lawful_by_test record_gap.table refl;
      revive = mode_is record_gap.table 2 (record { some = omega arith; in_range = omega arith });
      revive_next = asks_nothing record_gap.table;
      vain = no_rows record_gap.table;
      insert_hit_next = asks_nothing record_gap.table;
      purges = (refl, only_gaps_within);
    }) inherits_only_gaps-wrong

pub inserts_plainly-unsafe : GoesWrong inserts_plainly × (IsSafeGhost inserts_plainly → ⊥)
inserts_plainly-unsafe =
    unsafe inserts_plainly (record {
      table = lawful_by_test inserts_plainly.table refl;
      revive = mode_is inserts_plainly.table 2 (record { some = omega arith; in_range = omega arith });
      revive_next = asks_nothing inserts_plainly.table;
      vain = no_rows inserts_plainly.table;
      insert_hit_next = asks_nothing inserts_plainly.table;
      purges = (let w = record_gap_lawful in w.purges);
    }) inserts_plainly-wrong

pub revives_freely-unsafe : GoesWrong revives_freely × (IsSafeGhost revives_freely → ⊥)
revives_freely-unsafe =
    unsafe revives_freely (record {
      table = lawful_by_test record_gap.table refl;
      revive = asks_nothing record_gap.table;
      revive_next = asks_nothing record_gap.table;
      vain = no_rows record_gap.table;
      insert_hit_next = asks_nothing record_gap.table;
      purges = (let w = record_gap_lawful in w.purges);
    }) revives_freely-wrong

pub purges_locked-unsafe : GoesWrong purges_locked × (IsSafeGhost purges_locked → ⊥)
purges_locked-unsafe =
    unsafe purges_locked (record {
      table = lawful_by_test range_ghost.table refl;
      revive = mode_is range_ghost.table 2 (record { some = omega arith; in_range = omega arith });
      revive_next = asks_nothing range_ghost.table;
      vain = no_rows range_ghost.table;
      insert_hit_next = asks_nothing range_ghost.table;
      purges = (refl, λ h le. omega arith);
    }) purges_locked-wrong

pub range_inserts_plainly-unsafe : GoesWrong range_inserts_plainly × (IsSafeGhost range_inserts_plainly → ⊥)
range_inserts_plainly-unsafe =
    unsafe range_inserts_plainly (record {
      table = lawful_by_test range_inserts_plainly.table refl;
      revive = mode_is range_inserts_plainly.table 2 (record { some = omega arith; in_range = omega arith });
      revive_next = asks_nothing range_inserts_plainly.table;
      vain = no_rows range_inserts_plainly.table;
      insert_hit_next = asks_nothing range_inserts_plainly.table;
      purges = tt;
    }) range_inserts_plainly-wrong

pub next_inserts_plainly-unsafe : GoesWrong next_inserts_plainly × (IsSafeGhost next_inserts_plainly → ⊥)
next_inserts_plainly-unsafe =
    unsafe next_inserts_plainly (record {
      table = lawful_by_test next_inserts_plainly.table refl;
      revive = mode_is next_inserts_plainly.table 5 (record { some = omega arith; in_range = omega arith });
      revive_next = asks_nothing next_inserts_plainly.table;
      vain = no_rows next_inserts_plainly.table;
      insert_hit_next = asks_nothing next_inserts_plainly.table;
      purges = tt;
    }) next_inserts_plainly-wrong
