use Rattle.std.proofs.Common.{◌≡◌}
use Rattle.std.specs.Prelude.{string_bytes}
use Rattle.std.specs.List.{flat_map}
use Rattle.kr_cli.specs.Lines.{shown}
use Rattle.kr_cli.proofs.lines.on_one_line.Given as goal

-- the line shows what has been taken of the text
abbrev pub invariant-loop-c : goal.invariant-loop-c
invariant-loop-c l = string_bytes l.line ≡ flat_map shown l.yielded
