use Rattle.std.proofs.Common.{◌≡◌, take}
use Rattle.kr_model.proofs.copies.Programs.try_copy.Given as goal

-- The programs so far are copied.
abbrev pub invariant-loop-program : goal.invariant-loop-program
invariant-loop-program l = l.list.items ≡ take l.program-index l.programs
