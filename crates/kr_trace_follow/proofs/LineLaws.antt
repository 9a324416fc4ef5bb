-- Laws of a line that was followed.
use Rattle.std.specs.Prelude.{◌≡◌, ℕ, List, Option, refl, option_map}
use Rattle.std.proofs.Common.{sym, ◌∙◌, ap, ap₂}
use Rattle.kr_model.specs.declared.Op.{Op}
use Rattle.kr_model.specs.declared.Reply.{Reply}
use Rattle.kr_model.specs.declared.Reply.TheVariants as reply
use Rattle.kr_model.specs.Protocol.{Protocol}
use Rattle.kr_model.specs.Locks.{Locks, Holder}
use Rattle.kr_model.specs.State.{State}
use Rattle.kr_model.specs.Step.{Outcome}
use Rattle.kr_trace_lines.specs.declared.deviation.Deviation.{Deviation}
use Rattle.kr_trace_lines.specs.declared.deviation.DeviationKind.{DeviationKind}
use Rattle.kr_trace_lines.specs.declared.observed.Observed.{Observed}
use Rattle.kr_trace_follow.specs.Conflicts.{conflicts_of, ahead_of}
use Rattle.kr_trace_follow.specs.Deviates.{since_left, kind_of, deviation_at, is_queued, is_queued_at}
use Rattle.kr_trace_follow.specs.Lines.{Line, Attempt}
use Rattle.kr_trace_follow.specs.Since.{Since, IsSince, since_along, lines_of}
use Rattle.kr_trace_follow.specs.Steps.{first_op, more_steps, queue_for, in_turn, attempt_at, last_step, last_of, all_steps, steps_of, outcome_of}
use Rattle.kr_trace_follow.specs.Waits.{waiting_after}
use Rattle.kr_trace_follow.proofs.SinceLaws.{lines_back}
use Rattle.kr_trace_follow.proofs.StepLaws.{turn_blocked}

-- The conflicts with a step are looked at only where it is blocked, and then the state is as before it.
kind_present : (p : Protocol) (since : Since) (queue : Locks) (t : ℕ) (a : Attempt) (ahead : List ℕ) (r : Reply) (new : State) (o : Observed) → ◌≡◌ {A = Outcome} (r, new) (in_turn p queue t a)
    → kind_of (conflicts_of p since t (attempt_at new a.op)) ahead r o ≡ kind_of (conflicts_of p since t a) ahead r o
kind_present p since queue t a ahead (reply.Blocked us) new o is =
    ap (λ s. kind_of (conflicts_of p since t (attempt_at s a.op)) ahead (reply.Blocked us) o) (turn_blocked p queue t a us new is)
kind_present p since queue t a ahead (reply.Refused r) new o is = refl
kind_present p since queue t a ahead (reply.Found v) new o is = refl
kind_present p since queue t a ahead reply.None new o is = refl
kind_present p since queue t a ahead (reply.Going k) new o is = refl
kind_present p since queue t a ahead (reply.Rows rows) new o is = refl
kind_present p since queue t a ahead reply.Done new o is = refl
kind_present p since queue t a ahead reply.Duplicate new o is = refl
kind_present p since queue t a ahead (reply.Deleted v) new o is = refl
kind_present p since queue t a ahead reply.Absent new o is = refl
kind_present p since queue t a ahead (reply.Updated v) new o is = refl
kind_present p since queue t a ahead reply.Committed new o is = refl
kind_present p since queue t a ahead reply.Aborted new o is = refl
kind_present p since queue t a ahead (reply.Undone n) new o is = refl

-- What a line was followed by: where its steps began, and what the last of them came to.
pub record IsFollowed (p : Protocol) (waiting : Locks) (s : State) (l : Line) (queue : Locks) (first : Op) (more : ℕ) (last : Op) (ahead : List ℕ) (r : Reply) (new : State) : Type 0 where
  pub queue_is : queue ≡ queue_for l.observed waiting
  pub first_is : first ≡ first_op s l
  pub more_is : more ≡ more_steps l.event.op l.observed
  pub op : last ≡ (let a = last_step p queue l.event.txn more (attempt_at s first) in a.op)
  pub ahead_is : ahead ≡ ahead_of p queue l.event.txn (last_step p queue l.event.txn more (attempt_at s first))
  pub reply : r ≡ (in_turn p queue l.event.txn (last_step p queue l.event.txn more (attempt_at s first))).0
  pub state : new ≡ (in_turn p queue l.event.txn (last_step p queue l.event.txn more (attempt_at s first))).1

module _ (p : Protocol) (waiting : Locks) (s : State) (l : Line) (queue : Locks) (first : Op) (more : ℕ) (last : Op) (ahead : List ℕ) (r : Reply) (new : State)
    (f : IsFollowed p waiting s l queue first more last ahead r new) where
  step_is : ◌≡◌ {A = Attempt} (last_step p queue l.event.txn more (attempt_at s first)) (last_of p waiting s l)
  step_is =
      ap (λ z. last_step p z l.event.txn more (attempt_at s first)) f.queue_is
      ∙ ap (λ z. last_step p (queue_for l.observed waiting) l.event.txn z (attempt_at s first)) f.more_is
      ∙ ap (λ z. last_step p (queue_for l.observed waiting) l.event.txn (more_steps l.event.op l.observed) (attempt_at s z)) f.first_is

  pub op_is : last ≡ (let a = last_of p waiting s l in a.op)
  op_is = f.op ∙ ap (λ (z : Attempt). z.op) step_is

  pub ahead_at : ahead ≡ ahead_of p (queue_for l.observed waiting) l.event.txn (last_of p waiting s l)
  ahead_at = f.ahead_is ∙ ap₂ (λ q z. ahead_of p q l.event.txn z) f.queue_is step_is

  outcome_is : ◌≡◌ {A = Outcome} (in_turn p queue l.event.txn (last_step p queue l.event.txn more (attempt_at s first))) (outcome_of p waiting s l)
  outcome_is = ap₂ (λ q z. in_turn p q l.event.txn z) f.queue_is step_is

  pub reply_is : r ≡ (outcome_of p waiting s l).0
  reply_is = f.reply ∙ ap (λ (z : Outcome). z.0) outcome_is

  pub state_is : new ≡ (outcome_of p waiting s l).1
  state_is = f.state ∙ ap (λ (z : Outcome). z.1) outcome_is

  pub line_deviates : (was : List (Holder × ℕ)) (since : Since) → since ≡ since_left p was waiting s l → (k : Option DeviationKind) → k ≡ kind_of (conflicts_of p since l.event.txn (attempt_at new last)) ahead r l.observed
      → ◌≡◌ {A = Option Deviation} (option_map (λ x. record { line = l.number; kind = x }) k) (deviation_at p was waiting s l)
  line_deviates was since since_is k k_is =
      let a = last_of p waiting s l in
      let both : ◌≡◌ {A = Outcome} (r, new) (outcome_of p waiting s l) = ap₂ (λ x y. let it : Outcome = (x, y) in it) reply_is state_is in
      ap (λ z. option_map (λ x. let it : Deviation = record { line = l.number; kind = x } in it) z)
      (k_is
      ∙ ap (λ z. kind_of (conflicts_of p since l.event.txn (attempt_at new z)) ahead r l.observed) op_is
      ∙ kind_present p since (queue_for l.observed waiting) l.event.txn a ahead r new l.observed both
      ∙ ap₂ (λ us z. kind_of (conflicts_of p since l.event.txn a) us z l.observed) ahead_at reply_is
      ∙ ap (λ g. kind_of (conflicts_of p g l.event.txn a) (ahead_of p (queue_for l.observed waiting) l.event.txn a) (outcome_of p waiting s l).0 l.observed) since_is)

  pub line_queued : is_queued ahead r ≡ is_queued_at p waiting s l
  line_queued = ap₂ (λ us z. is_queued us z) ahead_at reply_is

  -- the steps are those of the line
  steps_are : all_steps p queue l.event.txn more (attempt_at s first) ≡ steps_of p waiting s l
  steps_are =
      ap (λ z. all_steps p z l.event.txn more (attempt_at s first)) f.queue_is
      ∙ ap (λ z. all_steps p (queue_for l.observed waiting) l.event.txn z (attempt_at s first)) f.more_is
      ∙ ap (λ z. all_steps p (queue_for l.observed waiting) l.event.txn (more_steps l.event.op l.observed) (attempt_at s z)) f.first_is

  pub line_since : (was now : Since) → IsSince s.locks was → now ≡ since_along p l.number s (all_steps p queue l.event.txn more (attempt_at s first)) was → now ≡ since_left p (lines_of s.locks was) waiting s l
  line_since was now is now_is =
      now_is ∙ ap (λ z. since_along p l.number s z was) steps_are
      ∙ ap (λ g. since_along p l.number s (steps_of p waiting s l) g) (sym (lines_back s.locks was is))

  pub line_listed : (was now : Since) → now ≡ since_left p (lines_of s.locks was) waiting s l
      → lines_of (let z = new in z.locks) now ≡ (let z = (outcome_of p waiting s l).1 in lines_of z.locks (since_left p (lines_of s.locks was) waiting s l))
  line_listed was now is = ap₂ (λ (z : State) (g : Since). lines_of z.locks g) state_is is

  pub line_waits : (now : Locks) → now ≡ waiting_after p waiting l.event.txn (attempt_at new last) l.observed
      → now ≡ waiting_after p waiting l.event.txn (attempt_at new (let a = last_of p waiting s l in a.op)) l.observed
  line_waits now is = is ∙ ap (λ z. waiting_after p waiting l.event.txn (attempt_at new z) l.observed) op_is
