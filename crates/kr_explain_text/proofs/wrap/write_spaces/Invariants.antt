-- so many blanks were written
use Rattle.std.proofs.Common.{◌≡◌, ◌++◌, string_bytes}
use Rattle.kr_explain_text.specs.Lines.{blanks}
use Rattle.kr_explain_text.proofs.wrap.write_spaces.Given as goal

abbrev pub invariant-loop : goal.invariant-loop
invariant-loop l = string_bytes l.out ≡ string_bytes l.initial.out ++ blanks l.counter
