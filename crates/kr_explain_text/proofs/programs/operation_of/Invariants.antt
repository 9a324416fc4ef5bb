use Rattle.std.proofs.Common.{◌≡◌, drop}
use Rattle.kr_explain_text.specs.Programs.{operation_in}
use Rattle.kr_explain_text.proofs.programs.operation_of.Given as goal

-- those that are left have the operation that all have
abbrev pub invariant-loop-program : goal.invariant-loop-program
invariant-loop-program l = operation_in (drop l.program-index l.programs) l.txn l.operation ≡ operation_in l.programs l.txn l.operation
