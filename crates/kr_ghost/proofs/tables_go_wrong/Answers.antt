use Rattle.kr_ghost.proofs.Wrong as wrong
use Rattle.kr_ghost.proofs.tables_go_wrong.Goals as goal

pub returns-clause-drops_locks : goal.returns-clause-drops_locks
returns-clause-drops_locks c = wrong.drops_locks-unsafe

pub returns-clause-inherits_only_gaps : goal.returns-clause-inherits_only_gaps
returns-clause-inherits_only_gaps c = wrong.inherits_only_gaps-unsafe

pub returns-clause-inserts_plainly : goal.returns-clause-inserts_plainly
returns-clause-inserts_plainly c = wrong.inserts_plainly-unsafe

pub returns-clause-revives_freely : goal.returns-clause-revives_freely
returns-clause-revives_freely c = wrong.revives_freely-unsafe

pub returns-clause-purges_locked : goal.returns-clause-purges_locked
returns-clause-purges_locked c = wrong.purges_locked-unsafe

pub returns-clause-range_inserts_plainly : goal.returns-clause-range_inserts_plainly
returns-clause-range_inserts_plainly c = wrong.range_inserts_plainly-unsafe

pub returns-clause-next_inserts_plainly : goal.returns-clause-next_inserts_plainly
returns-clause-next_inserts_plainly c = wrong.next_inserts_plainly-unsafe
