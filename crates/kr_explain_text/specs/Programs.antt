-- The operations of the programs of a run.
use Rattle.std.specs.Prelude.{ℕ, ◌-◌, ◌==◌, List, [], ◌∷◌, Option, Some, None, slice_get, if◌then◌else◌}
use Rattle.kr_model.specs.declared.Op.{Op}
use Rattle.kr_model.specs.declared.Op.TheVariants.{Commit}
use Rattle.kr_model.specs.declared.Reply.{Reply}
use Rattle.kr_model.specs.Run.{Program}

-- An operation, if there is one, without its answer; else a commit.
abbrev pub op_or_commit : Option (Op × Reply) → Op
op_or_commit None = Commit
op_or_commit (Some done) = done.0

-- The operation of this number, from 1, of these; a commit where there is none.
abbrev pub operation_at : List (Op × Reply) → ℕ → Op
operation_at operations n = if n == 0 then Commit else op_or_commit (slice_get operations (n - 1))

-- The same of the program of a transaction, the first where it has several.
abbrev pub operation_in : List Program → ℕ → ℕ → Op
operation_in [] txn n = Commit
operation_in (p ∷ ps) txn n = if p.txn == txn then operation_at p.operations n else operation_in ps txn n
