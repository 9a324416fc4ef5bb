use Rattle.std.proofs.Common.{◌≡◌, take, map, string_bytes}
use Rattle.kr_cli_tasks.specs.Judges.{lines, reports_of}
use Rattle.kr_cli_tasks.proofs.judges.lines_of.Given as goal

-- The text has the lines of the verdicts so far.
abbrev pub invariant-loop-i : goal.invariant-loop-i
invariant-loop-i l = string_bytes l.text ≡ lines (reports_of (map (λ n. n.now) (take l.i l.names)) (take l.i l.verdicts))
