-- The table is lawful and isn't safe. Its twin, which differs in one conversion, meets all cases, so every run under that is serializable in commit order.
use Rattle.std.proofs.Common.{ℕ, ◌≡◌, refl, sym, inl, inr, arith, true, true≢false}
use Rattle.std.specs.Prelude.{◌==◌, if◌then◌else◌}
use Rattle.kr_model.specs.declared.Row.TheVariants.{FetchHit, Insert}
use Rattle.kr_model.specs.declared.Side.TheVariants.{Current, Next}
use Rattle.kr_model.specs.declared.LockState.{LockState}
use Rattle.kr_model.specs.Protocol.{Protocol, IsLawful}
use Rattle.kr_model.specs.Safe.{free, after, start, turn, move, MayBeOnAbsent, Beside, IsSafe}
use Rattle.kr_model.specs.Serial.{RunsAreSerial}
use Rattle.kr_model.proofs.Tested.{lawful_by_test}
use Rattle.kr_theorem.proofs.run.Runs.{runs_are_serial}
use Rattle.kr_theorem.specs.Unreached.{I, X, W, unreached}

pub lawful : IsLawful unreached
lawful = lawful_by_test unreached refl

-- Not safe --

-- A request in this mode is compatible with a held W, so by the condition a lock in it may be on an absent key.
on_absent : (m : ℕ) → unreached.ok m W ≡ true → MayBeOnAbsent unreached m
on_absent m e = inr record { held = W; some = omega arith; within = omega arith; granted = e }

-- Who has inserted below a key has I on it.
abbrev below : LockState
below = after unreached Insert Next free free

below_beside : Beside unreached below free
below_beside = move Insert Next free free free start start refl tt refl

-- With that it inserts the key, which the condition takes to be absent, and has W there.
abbrev weak : LockState
weak = after unreached Insert Current below free

weak_beside : Beside unreached weak free
weak_beside = move Insert Current below free free below_beside start (refl, inl (refl, record { key = refl; gap = refl }, on_absent I refl)) (refl, record { key = refl; gap = refl }, on_absent 0 refl) refl

-- Beside that lock another's fetch finds the key.
pub not_safe : IsSafe unreached → ⊥
not_safe safe = true≢false (sym (safe FetchHit Current free weak free (turn weak free weak_beside) start refl refl))

-- The twin --

-- Two modes convert to X, whichever they are.
abbrev pub twin_after : ℕ → ℕ → ℕ
twin_after h q = if h == 0 then q else if q == 0 then h else X

abbrev pub twin : Protocol
twin = record unreached { convert = twin_after }

pub twin_lawful : IsLawful twin
twin_lawful = lawful_by_test twin refl

pub twin_runs : RunsAreSerial twin
twin_runs = runs_are_serial twin twin_lawful refl
