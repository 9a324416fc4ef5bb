use Rattle.std.proofs.Common.{append_assoc}
use Rattle.serde_json.proofs.OnLiterals.{serde_json_on_literals}
use Rattle.kr_ghost_report.proofs.reports.report_parts.Goals as goal

-- each write put for what it left, from the last to the first
pub returns : goal.returns
unfolding serde_json_on_literals
returns g c = record {
  text = rw (
    c.in_ok-push_str-7.ensures.bytes,
    c.in_ok-write_verdict.ensures,
    c.in_ok-push_str-6.ensures.bytes,
    c.in_ok-write_numbers.ensures,
    c.in_ok-push_str-5.ensures.bytes,
    c.in_ok-write_answers.ensures,
    c.in_ok-push_str-4.ensures.bytes,
    c.in_ok-write_locks.ensures,
    c.in_ok-push_str-3.ensures.bytes,
    c.in_ok-write_pairs.ensures,
    c.in_ok-push_str-2.ensures.bytes,
    c.in_ok-write_ghosts.ensures,
    c.in_ok-push_str.ensures.bytes,
    c.new-out.ensures.bytes,
  ) (simp append_assoc);
}
