-- The three tables keep the laws, and all their cases hold.
use Rattle.std.specs.Prelude.{◌≡◌, ℕ, ◌≤◌, Bool, true, false, ◌==◌, if◌then◌else◌, length, Option, Some, None, refl, unwrap_or}
use Rattle.std.proofs.Common.{ap, subst, arith}
use Rattle.kr_model.specs.declared.Span.{Span}
use Rattle.kr_model.specs.declared.Span.TheVariants.{Commit}
use Rattle.kr_model.specs.Protocol.{Protocol, IsMode}
use Rattle.kr_model.proofs.Tested.{lawful_by_test}
use Rattle.kr_ghost.specs.declared.vain.Vain.{Vain}
use Rattle.kr_ghost.specs.Protocol.{AsksMode, IsLawfulGhost}
use Rattle.kr_ghost.specs.Run.{GhostRunsAreSerial}
use Rattle.kr_ghost.specs.Covers.{cases, IsCoveredGhost}
use Rattle.kr_ghost.specs.Safe.{IsSafeGhost}
use Rattle.kr_ghost.specs.Tables.{record_gap, to_gap, range_ghost, next_key_ghost}
use Rattle.kr_ghost.proofs.AllCases.{covered_is_safe, covered_runs_are_serial}

-- A request of a mode requests a mode.
pub requested_is : (p : Protocol) (m : ℕ) (span : Span) → IsMode p m → (q : ℕ) (kept : Span) → ◌≡◌ {A = Option (ℕ × Span)} (Some (m, span)) (Some (q, kept)) → IsMode p q
requested_is p m span is q kept e = subst (IsMode p) (ap (λ (o : Option (ℕ × Span)). (unwrap_or o (m, span)).0) e) is

pub mode_is : (p : Protocol) (m : ℕ) → IsMode p m → (q : ℕ) (span : Span) → ◌≡◌ {A = Option (ℕ × Span)} (Some (m, Commit)) (Some (q, span)) → IsMode p q
mode_is p m is q span e = requested_is p m Commit is q span e

-- Nor does one that requests nothing, or has no row for vain steps, request anything else.
pub asks_nothing : (p : Protocol) (q : ℕ) (span : Span) → ◌≡◌ {A = Option (ℕ × Span)} None (Some (q, span)) → IsMode p q
asks_nothing p q span e = absurd (cc)

pub no_rows : (p : Protocol) (v : Vain) (asked : Option (ℕ × Span)) → ◌≡◌ {A = Option (Option (ℕ × Span))} None (Some asked) → AsksMode p asked
no_rows p v asked e = absurd (cc)

to_gap_within : (h : ℕ) → h ≤ 11 → to_gap h ≤ 11
to_gap_within h le = by (h == 0)
  where
    by : (b : Bool) → (if b then 0 else 3) ≤ 11
    by true = omega arith
    by false = omega arith

-- Each table keeps the laws.
pub record_gap_lawful : IsLawfulGhost record_gap
record_gap_lawful = record {
  table = lawful_by_test record_gap.table refl;
  revive = mode_is record_gap.table 2 (record { some = omega arith; in_range = omega arith });
  revive_next = asks_nothing record_gap.table;
  vain = no_rows record_gap.table;
  insert_hit_next = asks_nothing record_gap.table;
  purges = (refl, to_gap_within);
}

pub range_ghost_lawful : IsLawfulGhost range_ghost
range_ghost_lawful = record {
  table = lawful_by_test range_ghost.table refl;
  revive = mode_is range_ghost.table 2 (record { some = omega arith; in_range = omega arith });
  revive_next = asks_nothing range_ghost.table;
  vain = no_rows range_ghost.table;
  insert_hit_next = asks_nothing range_ghost.table;
  purges = tt;
}

pub next_key_ghost_lawful : IsLawfulGhost next_key_ghost
next_key_ghost_lawful = record {
  table = lawful_by_test next_key_ghost.table refl;
  revive = mode_is next_key_ghost.table 5 (record { some = omega arith; in_range = omega arith });
  revive_next = asks_nothing next_key_ghost.table;
  vain = no_rows next_key_ghost.table;
  insert_hit_next = asks_nothing next_key_ghost.table;
  purges = tt;
}

-- How many cases there are, and that none fails.
pub record_gap_cases : length (cases record_gap) ≡ 615
record_gap_cases = refl

pub record_gap_covered : IsCoveredGhost record_gap
record_gap_covered = refl

pub range_ghost_cases : length (cases range_ghost) ≡ 483
range_ghost_cases = refl

pub range_ghost_covered : IsCoveredGhost range_ghost
range_ghost_covered = refl

pub next_key_ghost_cases : length (cases next_key_ghost) ≡ 135
next_key_ghost_cases = refl

pub next_key_ghost_covered : IsCoveredGhost next_key_ghost
next_key_ghost_covered = refl

-- So each is safe, and every run under it is serializable in commit order.
pub record_gap_safe : IsSafeGhost record_gap
record_gap_safe = covered_is_safe record_gap record_gap_lawful record_gap_covered

pub range_ghost_safe : IsSafeGhost range_ghost
range_ghost_safe = covered_is_safe range_ghost range_ghost_lawful range_ghost_covered

pub next_key_ghost_safe : IsSafeGhost next_key_ghost
next_key_ghost_safe = covered_is_safe next_key_ghost next_key_ghost_lawful next_key_ghost_covered

pub record_gap_serial : GhostRunsAreSerial record_gap
record_gap_serial = covered_runs_are_serial record_gap record_gap_lawful record_gap_covered

pub range_ghost_serial : GhostRunsAreSerial range_ghost
range_ghost_serial = covered_runs_are_serial range_ghost range_ghost_lawful range_ghost_covered

pub next_key_ghost_serial : GhostRunsAreSerial next_key_ghost
next_key_ghost_serial = covered_runs_are_serial next_key_ghost next_key_ghost_lawful next_key_ghost_covered
