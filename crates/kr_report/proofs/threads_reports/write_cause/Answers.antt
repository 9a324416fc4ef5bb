use Rattle.serde_json.proofs.OnLiterals.{serde_json_on_literals}
use Rattle.kr_report.proofs.threads_reports.write_cause.Goals as goal

pub returns-in-Deadlock : goal.returns-in-Deadlock
unfolding serde_json_on_literals
returns-in-Deadlock c = rw (c.in-Deadlock.is, ← c.as_slice.ensures) c.write_with_numbers.ensures
