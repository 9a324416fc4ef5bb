use Rattle.std.specs.Prelude.{refl}
use Rattle.kr_ghost.proofs.worked_runs.Goals as goal

pub returns-clause-fetch : goal.returns-clause-fetch
returns-clause-fetch c = refl

pub returns-clause-insert : goal.returns-clause-insert
returns-clause-insert c = refl

pub returns-clause-delete : goal.returns-clause-delete
returns-clause-delete c = refl

pub returns-clause-gap : goal.returns-clause-gap
returns-clause-gap c = refl

pub returns-clause-scan : goal.returns-clause-scan
returns-clause-scan c = refl

pub returns-clause-inherited : goal.returns-clause-inherited
returns-clause-inherited c = refl

pub returns-clause-locked : goal.returns-clause-locked
returns-clause-locked c = refl

pub returns-clause-unlocked : goal.returns-clause-unlocked
returns-clause-unlocked c = refl

pub returns-clause-changed : goal.returns-clause-changed
returns-clause-changed c = refl

pub returns-clause-back : goal.returns-clause-back
returns-clause-back c = refl

pub returns-clause-abort : goal.returns-clause-abort
returns-clause-abort c = refl
