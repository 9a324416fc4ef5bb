use Rattle.std.proofs.Common.{◌≡◌, ◌++◌, map, take}
use Rattle.std.specs.Prelude.{string_bytes}
use Rattle.kr_cli_diagnosis.specs.Lines.{lines}
use Rattle.kr_cli_diagnosis.proofs.help.push_hints.Given as goal

abbrev pub invariant-loop-hint : goal.invariant-loop-hint
invariant-loop-hint l = string_bytes l.lines ≡ string_bytes l.initial.lines ++ lines (map string_bytes (take l.hint-index l.hints))
