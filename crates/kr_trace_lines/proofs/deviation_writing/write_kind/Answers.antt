use Rattle.serde_json.proofs.OnLiterals.{serde_json_on_literals}
use Rattle.kr_trace_lines.proofs.deviation_writing.write_kind.Goals as goal

pub returns-in-Granted : goal.returns-in-Granted
unfolding serde_json_on_literals
returns-in-Granted g c = rw (c.in-Granted.is) (rw (c.as_slice.ensures, c.as_slice-in-Granted.ensures) at c.write_granted.ensures)
