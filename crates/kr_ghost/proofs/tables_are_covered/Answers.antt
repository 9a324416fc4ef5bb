use Rattle.kr_ghost.proofs.Bundled as bundled
use Rattle.kr_ghost.proofs.tables_are_covered.Goals as goal

pub returns-clause-record_gap : goal.returns-clause-record_gap
returns-clause-record_gap c = (bundled.record_gap_lawful, bundled.record_gap_covered)

pub returns-clause-record_gap_cases : goal.returns-clause-record_gap_cases
returns-clause-record_gap_cases c = bundled.record_gap_cases

pub returns-clause-range_ghost : goal.returns-clause-range_ghost
returns-clause-range_ghost c = (bundled.range_ghost_lawful, bundled.range_ghost_covered)

pub returns-clause-range_ghost_cases : goal.returns-clause-range_ghost_cases
returns-clause-range_ghost_cases c = bundled.range_ghost_cases

pub returns-clause-next_key_ghost : goal.returns-clause-next_key_ghost
returns-clause-next_key_ghost c = (bundled.next_key_ghost_lawful, bundled.next_key_ghost_covered)

pub returns-clause-next_key_ghost_cases : goal.returns-clause-next_key_ghost_cases
returns-clause-next_key_ghost_cases c = bundled.next_key_ghost_cases
