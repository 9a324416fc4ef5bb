use Rattle.kr_ghost_protocol.proofs.RecordGapRows.{record_gap_rows}
use Rattle.kr_ghost_protocol.proofs.record_gap.RecordGapProtocol.row.Goals as goal

pub returns : goal.returns
returns c = record_gap_rows c.args.requested c.requires
