-- Worked examples that tell which way a table is read: one that is asymmetric both in what is compatible and in conversion.
use Rattle.std.specs.Prelude.{◌≡◌, ℕ, false, List, [], ◌∷◌, Option, None, length, map, filter, refl}
use Rattle.kr_model.specs.Protocol.{Protocol, IsLawful}
use Rattle.kr_model.specs.Covers.{cases, failed_cases, serves, modes, all_covers, IsCovered}
use Rattle.kr_model.specs.Matrices.{ok_by, convert_by, for_commit, at_once}
use Rattle.kr_model.specs.Map.{Map}
use Rattle.kr_model.specs.declared.Row.{Row}
use Rattle.kr_model.specs.declared.Row.TheVariants as row
use Rattle.kr_model.specs.declared.Side.{Side}
use Rattle.kr_model.specs.declared.Side.TheVariants.{Current, Next}
use Rattle.kr_model.specs.declared.Span.{Span}
use Rattle.kr_model.specs.declared.Rule.TheVariants as rule
use Rattle.kr_model.specs.declared.Cover.TheVariants.{InsertedKey, DeletedGap}
use Rattle.kr_model.specs.declared.Origin.TheVariants as origin
use Rattle.kr_model.specs.declared.Name.TheVariants.{Key}
use Rattle.kr_model.specs.declared.Op.TheVariants.{Fetch, Scan, Commit}
use Rattle.kr_model.specs.declared.Event.{Event}
use Rattle.kr_model.specs.declared.Reply.TheVariants as r
use Rattle.kr_model.proofs.Tested.{lawful_by_test}
use Rattle.kr_model.proofs.WorkedCovers.{failed}
use Rattle.kr_model.proofs.WorkedRuns.{by, held, report, verdict}

-- The table --

-- Shared.
abbrev pub S : ℕ
S = 1

-- Update: it is let in beside shared locks, and lets none in after it.
abbrev pub U : ℕ
U = 2

-- Exclusive.
abbrev pub X : ℕ
X = 3

-- For each mode requested, the held modes that it is compatible with: U is compatible with a held S, and S not with a held U.
abbrev pub asymmetric_beside : List (List ℕ)
asymmetric_beside =
    (S ∷ [])
    ∷ (S ∷ [])
    ∷ []
    ∷ []

-- For each held mode, the mode after asking for S, U and X: S with U gives U, and U with S gives X.
abbrev pub asymmetric_converted : List (List ℕ)
asymmetric_converted =
    (S ∷ U ∷ X ∷ [])
    ∷ (X ∷ U ∷ X ∷ [])
    ∷ (X ∷ X ∷ X ∷ [])
    ∷ []

-- What each row and side requests: a scan requests U on what it reads.
abbrev pub asymmetric_ask : Row → Side → ℕ → Option (ℕ × Span)
asymmetric_ask row.FetchHit Current own = for_commit S
asymmetric_ask row.FetchMiss Next own = for_commit S
asymmetric_ask row.ScanKey Current own = for_commit U
asymmetric_ask row.ScanStop Next own = for_commit S
asymmetric_ask row.Insert Current own = for_commit X
asymmetric_ask row.Insert Next own = at_once X
asymmetric_ask row.Delete Current own = at_once X
asymmetric_ask row.Delete Next own = for_commit X
asymmetric_ask r s own = None

-- The asymmetric table.
abbrev pub asymmetric : Protocol
asymmetric = record { count = 3; ok = ok_by asymmetric_beside; convert = convert_by asymmetric_converted; ask = asymmetric_ask; updates = false }

-- The asymmetric table is lawful.
pub asymmetric-lawful : IsLawful asymmetric
asymmetric-lawful = lawful_by_test asymmetric refl

-- The asymmetric table has 108 cases.
pub asymmetric-cases : length (cases asymmetric) ≡ 108
asymmetric-cases = refl

-- The asymmetric table is covered.
pub asymmetric-covered : IsCovered asymmetric
asymmetric-covered = refl

-- Which modes of it serve a read key, a read gap, an inserted key and a deleted gap: U lets no S in, so it serves all of them.
pub asymmetric-serves : map (λ c. filter (serves asymmetric c) (modes asymmetric)) (all_covers asymmetric)
    ≡ (S ∷ U ∷ X ∷ []) ∷ (S ∷ U ∷ X ∷ []) ∷ (U ∷ X ∷ []) ∷ (U ∷ X ∷ []) ∷ []
asymmetric-serves = refl

-- Runs --

-- The opening map.
abbrev pub two : Map
two = (10, 1) ∷ (20, 2) ∷ []

-- Fetches request S, and scans U, on two keys.
abbrev pub both_ways : List Event
both_ways =
    by 1 (Fetch 10)
    ∷ by 2 (Scan 10 10)
    ∷ by 3 (Fetch 10)
    ∷ by 4 (Scan 20 20)
    ∷ by 5 (Fetch 20)
    ∷ by 2 (Fetch 10)
    ∷ by 1 Commit
    ∷ by 2 (Fetch 10)
    ∷ []

-- Both ways: U is let in beside S, and S isn't beside U; transaction 2, which holds U, requests S and so X, which conflicts with the S of transaction 1, and holds X in the end.
pub both_ways-report : report asymmetric two both_ways
    ≡ (
      r.Found 1 ∷ r.Rows ((10, 1) ∷ []) ∷ r.Blocked (2 ∷ []) ∷ r.Rows ((20, 2) ∷ []) ∷ r.Blocked (4 ∷ []) ∷ r.Blocked (1 ∷ []) ∷ r.Committed ∷ r.Found 1 ∷ [],
      held (Key 10) 2 X ∷ held (Key 20) 4 U ∷ [],
      two,
      2 ∷ 4 ∷ [],
    )
both_ways-report = refl

-- Both ways: the one committed program is serializable.
pub both_ways-verdict : verdict asymmetric two both_ways ≡ None
both_ways-verdict = refl

-- S with U gives U: who has fetched and then scans a key that another has fetched is let in, and keeps U.
pub s_with_u : report asymmetric two (by 1 (Fetch 10) ∷ by 2 (Fetch 10) ∷ by 1 (Scan 10 10) ∷ by 3 (Fetch 10) ∷ [])
    ≡ (
      r.Found 1 ∷ r.Found 1 ∷ r.Rows ((10, 1) ∷ []) ∷ r.Blocked (1 ∷ []) ∷ [],
      held (Key 10) 1 U ∷ held (Key 10) 2 S ∷ [],
      two,
      1 ∷ 2 ∷ [],
    )
s_with_u = refl

-- Gives up: the asymmetric table in which who requests S holds S after it, and a delete requests S on the next name --

-- For each held mode, the mode after asking for S, U and X.
abbrev pub gives_up_converted : List (List ℕ)
gives_up_converted =
    (S ∷ U ∷ X ∷ [])
    ∷ (S ∷ U ∷ X ∷ [])
    ∷ (S ∷ X ∷ X ∷ [])
    ∷ []

-- What that table requests.
abbrev pub gives_up_ask : Row → Side → ℕ → Option (ℕ × Span)
gives_up_ask row.Delete Next own = for_commit S
gives_up_ask r s own = asymmetric_ask r s own

-- That table.
abbrev pub gives_up : Protocol
gives_up = record asymmetric { convert = convert_by gives_up_converted; ask = gives_up_ask }

-- Gives up: all failed cases. Held U and X serve an inserted key and a deleted gap, and S lets another's S in.
pub gives_up-failed : failed_cases gives_up
    ≡ failed rule.Conversion InsertedKey (origin.Conversion U S) S (row.FetchHit, Current) 0 0
    ∷ failed rule.Conversion InsertedKey (origin.Conversion X S) S (row.FetchHit, Current) 0 0
    ∷ failed rule.Conversion DeletedGap (origin.Conversion U S) S (row.FetchMiss, Next) 0 0
    ∷ failed rule.Conversion DeletedGap (origin.Conversion X S) S (row.FetchMiss, Next) 0 0
    ∷ failed rule.Delete DeletedGap (origin.Own 0) S (row.FetchMiss, Next) 0 0
    ∷ failed rule.Delete DeletedGap (origin.Own S) S (row.FetchMiss, Next) 0 0
    ∷ failed rule.Delete DeletedGap (origin.Own U) S (row.FetchMiss, Next) 0 0
    ∷ failed rule.Delete DeletedGap (origin.Own X) S (row.FetchMiss, Next) 0 0
    ∷ []
gives_up-failed = refl
