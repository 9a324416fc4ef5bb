-- what is written, and then the lines of the steps that are left, is the whole
use Rattle.std.proofs.Common.{◌≡◌, ◌++◌, drop, string_bytes}
use Rattle.kr_suite_text.specs.Parts.{lines_text}
use Rattle.kr_suite_text.proofs.parts.lines_text.Given as goal

abbrev pub invariant-loop-place : goal.invariant-loop-place
invariant-loop-place l = string_bytes l.out ++ lines_text (drop l.place l.events) (drop l.place l.replies) ≡ lines_text l.events l.replies
