use Rattle.kr_theorem.proofs.safe.Worked.{six_to_is-safe, six_beside_ix-safe, insert_beside_read-safe}
use Rattle.kr_theorem.proofs.worked_safe.Goals as goal

pub returns-clause-conversion : goal.returns-clause-conversion
returns-clause-conversion c = six_to_is-safe

pub returns-clause-compatible : goal.returns-clause-compatible
returns-clause-compatible c = six_beside_ix-safe

pub returns-clause-range : goal.returns-clause-range
returns-clause-range c = insert_beside_read-safe
