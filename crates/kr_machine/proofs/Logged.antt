-- The log of a machine goes with its state.
use Rattle.std.proofs.Common.{◌≡◌, ℕ, inl, refl, ap, sym, subst, ◌∙◌, Option, Some, None, is_some}
use Rattle.std.specs.Prelude.{IsTrue, ◌-◌, length, if◌then◌else◌}
use Rattle.std.specs.Ordering.{nat_cmp}
use Rattle.std.specs.FinMap.{find}
use Rattle.kr_model.specs.declared.Event.{Event}
use Rattle.kr_model.specs.declared.Op.{Op}
use Rattle.kr_model.specs.declared.Op.TheVariants as op
use Rattle.kr_model.specs.declared.Refusal.TheVariants as refusal
use Rattle.kr_model.specs.declared.Reply.{Reply}
use Rattle.kr_model.specs.declared.Reply.TheVariants as reply
use Rattle.kr_model.specs.Protocol.{Protocol, IsLawful}
use Rattle.kr_model.specs.State.{State, active_of, standing, is_scanning, is_rolling, has_nothing_left}
use Rattle.kr_model.specs.Step.{step, IsStep}
use Rattle.kr_model.specs.WellFormed.{IsState}
use Rattle.kr_model.specs.Log.{logged}
use Rattle.kr_model.proofs.LogLaws.{unfinished_after}
use Rattle.kr_model.proofs.WellFormedLaws.{is_step_keeps_state}
use Rattle.kr_model.proofs.EndLaws.{abort_of_active, commit_of_active, back_of_active}
use Rattle.kr_txn.specs.Logs.{LogWithRoom}
use Rattle.kr_machine.specs.declared.pending.DueReply.{DueReply}
use Rattle.kr_machine.specs.Logged.{IsLogged}

-- After a step that may have been refused memory, the log that has noted it goes with the new state.
pub log_of_any_step : (p : Protocol) → IsLawful p → (s new : State) (e : Event) (r : Reply) (l m : LogWithRoom) (due : Option DueReply) → IsState p s → ((t : ℕ) → is_some (find nat_cmp t l.log.unfinished) ≡ is_some (active_of s t))
    → IsStep p s e.txn e.op r new → m.log ≡ logged l.log (e, r) → IsLogged p new None m due
log_of_any_step p laws s new e r l m due well_formed same is noted =
    record {
      well_formed = is_step_keeps_state p laws s e.txn e.op r new well_formed is;
      same = λ t. ap (λ z. is_some (find nat_cmp t z.unfinished)) noted ∙ unfinished_after p s l.log e r new is same t;
      noted = tt;
    }

-- So it does after one that had its memory.
pub log_of_step : (p : Protocol) → IsLawful p → (s : State) (e : Event) (l m : LogWithRoom) (due : Option DueReply) → IsState p s → ((t : ℕ) → is_some (find nat_cmp t l.log.unfinished) ≡ is_some (active_of s t))
    → m.log ≡ logged l.log (e, (step p s e.txn e.op).0) → IsLogged p (step p s e.txn e.op).1 None m due
log_of_step p laws s e l m due well_formed same noted =
    let o = step p s e.txn e.op in
    log_of_any_step p laws s o.1 e o.0 l m due well_formed same (inl refl) noted

-- What is taken of a reply that is due is that reply.
pub due_is : (o : Option DueReply) (d e : DueReply) → o ≡ Some e → o ≡ Some d → d ≡ e
due_is o d e is was = some (sym was ∙ is)
  where
    some : ◌≡◌ {A = Option DueReply} (Some d) (Some e) → d ≡ e
    some h = cc

-- The abort of an active transaction is answered Aborted.
pub abort_told : (p : Protocol) (s : State) (t : ℕ) (o : Op) (r : Reply) (new : State) → IsState p s → IsStep p s t o r new → o ≡ op.Abort → IsTrue (is_some (active_of s t)) → r ≡ reply.Aborted
abort_told p s t o r new k is e active = abort_of_active p s t k active r new (subst (λ x. IsStep p s t x r new) e is)

-- The commit of one is answered Committed, or RollingBack once a change of it was undone, or Busy in the midst of a scan.
pub commit_told : (p : Protocol) (s : State) (t : ℕ) (o : Op) (r : Reply) (new : State) → IsState p s → IsStep p s t o r new → o ≡ op.Commit → IsTrue (is_some (active_of s t)) → r ≡ (if is_rolling s t then reply.Refused refusal.RollingBack else if is_scanning s t then reply.Refused refusal.Busy else reply.Committed)
commit_told p s t o r new k is e active = commit_of_active p s t k active r new (subst (λ x. IsStep p s t x r new) e is)

-- A back of one is answered how many changes are left after it, or NothingLeft where there was none.
pub back_told : (p : Protocol) (s : State) (t : ℕ) (o : Op) (r : Reply) (new : State) → IsState p s → IsStep p s t o r new → o ≡ op.Back → IsTrue (is_some (active_of s t)) → r ≡ (if has_nothing_left s t then reply.Refused refusal.NothingLeft else reply.Undone (length (standing s t).changes - 1))
back_told p s t o r new k is e active = back_of_active p s t k active r new (subst (λ x. IsStep p s t x r new) e is)
