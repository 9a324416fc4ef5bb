use Rattle.std.proofs.Common.{◌≡◌, take, true}
use Rattle.std.specs.List.{list_all}
use Rattle.kr_cli_tasks.specs.Judges.{is_serial}
use Rattle.kr_cli_tasks.proofs.judges.are_serial.Given as goal

-- The verdicts so far are serializable.
abbrev pub invariant-loop-verdict : goal.invariant-loop-verdict
invariant-loop-verdict l = list_all is_serial (take l.verdict-index l.verdicts) ≡ true
