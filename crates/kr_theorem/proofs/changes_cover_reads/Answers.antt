use Rattle.std.specs.Prelude.{zero, suc, Bool, true, false, ◌≡◌, List, [], ◌∷◌, if◌then◌else◌, Contains}
use Rattle.std.proofs.Common.{arith}
use Rattle.kr_model.specs.declared.Row.TheVariants as row
use Rattle.kr_model.specs.declared.Side.TheVariants.{Current, Next}
use Rattle.kr_model.specs.declared.Cover.TheVariants.{ReadKey, ReadGap, InsertedKey, DeletedGap, UpdatedKey}
use Rattle.kr_model.specs.Protocol.{Protocol}
use Rattle.kr_model.specs.Covers.{Ask, must_conflict}
use Rattle.kr_theorem.proofs.step.Covers.{weaken, update_read}
use Rattle.kr_theorem.proofs.changes_cover_reads.Goals as goal

-- What is listed only where updates are offered.
abbrev update_if : Bool → List Ask
update_if updates = if updates then (row.Update, Current) ∷ [] else []

in_inserted : (p : Protocol) (a : Ask) → Contains (must_conflict p ReadKey) a → Contains (must_conflict p InsertedKey) a
in_inserted p a h = by p.updates h
  where
    by : (b : Bool) → Contains ((row.Delete, Current) ∷ update_if b) a
        → Contains ((row.FetchHit, Current) ∷ (row.FetchMiss, Next) ∷ (row.ScanKey, Current) ∷ (row.ScanStop, Next) ∷ (row.Delete, Current) ∷ (row.Delete, Next) ∷ update_if b) a
    by b (zero, lt, is) = (4, omega arith, is)
    by true (suc zero, lt, is) = (6, omega arith, is)
    by true (suc (suc k), lt, is) = absurd (omega arith)
    by false (suc k, lt, is) = absurd (omega arith)

in_deleted : (p : Protocol) (a : Ask) → Contains (must_conflict p ReadGap) a → Contains (must_conflict p DeletedGap) a
in_deleted p a (zero, lt, is) = (3, omega arith, is)
in_deleted p a (suc zero, lt, is) = (4, omega arith, is)
in_deleted p a (suc (suc k), lt, is) = absurd (omega arith)

in_updated : (p : Protocol) (a : Ask) → p.updates ≡ true → Contains (must_conflict p ReadKey) a → Contains (must_conflict p UpdatedKey) a
in_updated p a up h = by p.updates up h
  where
    by : (b : Bool) → b ≡ true → Contains ((row.Delete, Current) ∷ update_if b) a
        → Contains (if b then (row.FetchHit, Current) ∷ (row.ScanKey, Current) ∷ (row.Delete, Current) ∷ (row.Update, Current) ∷ [] else []) a
    by true e (zero, lt, is) = (2, omega arith, is)
    by true e (suc zero, lt, is) = (3, omega arith, is)
    by true e (suc (suc k), lt, is) = absurd (omega arith)
    by false e h = absurd (cc)

pub returns-clause-inserted : goal.returns-clause-inserted
returns-clause-inserted c = in_inserted

pub returns-clause-deleted : goal.returns-clause-deleted
returns-clause-deleted c = in_deleted

pub returns-clause-updated : goal.returns-clause-updated
returns-clause-updated c = in_updated

pub returns-clause-serves_key : goal.returns-clause-serves_key
returns-clause-serves_key c = λ p mode. weaken p mode true

pub returns-clause-serves_gap : goal.returns-clause-serves_gap
returns-clause-serves_gap c = λ p mode. weaken p mode false

pub returns-clause-serves_update : goal.returns-clause-serves_update
returns-clause-serves_update c = λ p mode. update_read p mode
