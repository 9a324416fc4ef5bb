use Rattle.kr_ghost.proofs.Bundled as bundled
use Rattle.kr_ghost.proofs.table_runs_are_serial.Goals as goal

pub returns-clause-record_gap : goal.returns-clause-record_gap
returns-clause-record_gap c = bundled.record_gap_serial

pub returns-clause-range_ghost : goal.returns-clause-range_ghost
returns-clause-range_ghost c = bundled.range_ghost_serial

pub returns-clause-next_key_ghost : goal.returns-clause-next_key_ghost
returns-clause-next_key_ghost c = bundled.next_key_ghost_serial
