-- What a log keeps while a run goes on: the program so far of each active transaction, and the committed programs.
use Rattle.std.specs.Prelude.{ℕ, not, ◌==◌, List, [], ◌∷◌, ◌++◌, filter, unwrap_or}
use Rattle.std.specs.Ordering.{nat_cmp}
use Rattle.std.specs.FinMap.{find, put}
use Rattle.kr_model.specs.declared.Op.{Op}
use Rattle.kr_model.specs.declared.Op.TheVariants as op
use Rattle.kr_model.specs.declared.Reply.{Reply}
use Rattle.kr_model.specs.declared.Reply.TheVariants as reply
use Rattle.kr_model.specs.Step.{is_back}
use Rattle.kr_model.specs.Run.{Answered, Entry, Program}

-- The active transactions, rising, each with its operations so far and their answers; and the committed programs, in commit order.
pub record Log : Type 0 where
  pub unfinished : List (ℕ × List Answered)
  pub committed : List Program

-- The log of no step.
abbrev pub no_log : Log
no_log = record { unfinished = []; committed = [] }

-- The operations of t so far, with their answers.
abbrev pub operations_so_far : Log → ℕ → List Answered
operations_so_far l t = unwrap_or (find nat_cmp t l.unfinished) []

-- The operations without the backs, which no program has; what they undid stays among them.
abbrev pub without_backs : List Answered → List Answered
without_backs os = filter (λ x. not (is_back x.0)) os

-- The operations with this answer to the last of them.
abbrev pub last_answered : Reply → List Answered → List Answered
last_answered a [] = []
last_answered a (x ∷ []) = (x.0, a) ∷ []
last_answered a (x ∷ y ∷ ys) = x ∷ last_answered a (y ∷ ys)

-- The operations after a granted step: going on with a scan is part of the scan, whose answer is the rows that it ends with.
abbrev pub with_step : List Answered → Op → Reply → List Answered
with_step os op.Go (reply.Rows rows) = last_answered (reply.Rows rows) os
with_step os op.Go a = os
with_step os o a = os ++ (o, a) ∷ []

-- The log where t has done this step.
abbrev pub step_logged : Log → ℕ → Op → Reply → Log
step_logged l t o a = record { unfinished = put nat_cmp t (with_step (operations_so_far l t) o a) l.unfinished; committed = l.committed }

-- The log where t has ended: these programs have committed.
abbrev pub end_logged : Log → ℕ → List Program → Log
end_logged l t programs = record { unfinished = filter (λ e. not (e.0 == t)) l.unfinished; committed = programs }

-- The log after one more entry of the history: a step that is blocked or refused leaves it as it was, and so does a change undone, since its transaction never commits.
abbrev pub logged : Log → Entry → Log
logged l (e, reply.Committed) = end_logged l e.txn (l.committed ++ record { txn = e.txn; operations = operations_so_far l e.txn } ∷ [])
logged l (e, reply.Aborted) = end_logged l e.txn l.committed
logged l (e, reply.Blocked us) = l
logged l (e, reply.Refused r) = l
logged l (e, reply.Undone left) = l
logged l (e, a) = step_logged l e.txn e.op a

-- The log after these entries, one after another.
abbrev pub log_after : Log → List Entry → Log
log_after l [] = l
log_after l (x ∷ xs) = log_after (logged l x) xs
