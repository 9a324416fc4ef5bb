-- The moves that lead along lines are a run.
use Rattle.std.specs.Prelude.{◌≡◌, ℕ, zero, suc, Bool, true, false, List, [], ◌∷◌, ◌++◌, refl, if◌then◌else◌}
use Rattle.std.proofs.Common.{ap, ◌∙◌}
use Rattle.kr_model.specs.declared.Op.{Op}
use Rattle.kr_model.specs.declared.Op.TheVariants as op
use Rattle.kr_model.specs.Locks.{Locks}
use Rattle.kr_model.specs.Map.{Map}
use Rattle.kr_ghost.specs.declared.moves.Move.{Move}
use Rattle.kr_ghost.specs.declared.moves.Move.TheVariants.{Attempt, Purge}
use Rattle.kr_ghost.specs.Protocol.{GhostProtocol}
use Rattle.kr_ghost.specs.Run.{run}
use Rattle.kr_ghost.specs.State.{GhostState, opened}
use Rattle.kr_ghost.specs.Step.{step, purged}
use Rattle.kr_trace_lines.specs.Fits.{fits}
use Rattle.kr_trace_follow.specs.Deviates.{is_queued}
use Rattle.kr_trace_follow.specs.Lines.{Line}
use Rattle.kr_trace_follow.specs.Steps.{queue_for}
use Rattle.kr_trace_follow.proofs.ConformLaws.{kind_fits}
use Rattle.kr_ghost_follow.specs.Points.{Moment, Point, Tried, ahead_of, conflicts_of, falling, first_op, gone_on, is_falling, is_passed, is_read, last_of, last_tried, left_after, moment_at, more_steps, read_down, read_on, tried, unread}
use Rattle.kr_ghost_follow.specs.Reached.{Agrees, Leads, start, purge, line, all_done, all_read, done_by, moves_of, steps_of}

-- The state that moves lead to.
abbrev after : GhostProtocol → GhostState → List Move → GhostState
after p s moves = let r = run p s moves in r.last

-- Moves one after another.
ran_on : (p : GhostProtocol) (s : GhostState) (xs ys : List Move) → after p s (xs ++ ys) ≡ after p (after p s xs) ys
ran_on p s [] ys = refl
ran_on p s (Attempt e ∷ xs) ys = ran_on p (step p s e.txn e.op).1 xs ys
ran_on p s (Purge k ∷ xs) ys = ran_on p (purged p s k) xs ys

-- A step.
done_ran : (p : GhostProtocol) (t : ℕ) (m : Moment) (o : Op) (us : List ℕ) → after p m.state (done_by t o us) ≡ (left_after p t m o us).state
done_ran p t m o [] = refl
done_ran p t m o (u ∷ us) = refl

-- The steps of a line.
all_ran : (p : GhostProtocol) (l : Line) (queue : Locks) (n : ℕ) (m : Moment) (o : Op)
    → after p m.state (all_done p l queue n (tried p queue l.event.txn m o)) ≡ (gone_on p l queue n (tried p queue l.event.txn m o)).left.state
all_ran p l queue zero m o = done_ran p l.event.txn m o (ahead_of p queue l.event.txn m.state o)
all_ran p l queue (suc n) m o =
    ran_on p m.state (done_by l.event.txn o (ahead_of p queue l.event.txn m.state o)) (rest (is_passed l y.left.state y.ahead y.reply))
    ∙ ap (λ s. after p s (rest (is_passed l y.left.state y.ahead y.reply))) (done_ran p l.event.txn m o (ahead_of p queue l.event.txn m.state o)) ∙ on (all_ran p l queue n y.left op.Go) (is_passed l y.left.state y.ahead y.reply)
  where
    y : Tried
    y = tried p queue l.event.txn m o

    rest : Bool → List Move
    rest b = if b then all_done p l queue n (tried p queue l.event.txn y.left op.Go) else []

    on : after p y.left.state (all_done p l queue n (tried p queue l.event.txn y.left op.Go)) ≡ (gone_on p l queue n (tried p queue l.event.txn y.left op.Go)).left.state → (b : Bool)
        → after p y.left.state (rest b) ≡ (if b then gone_on p l queue n (tried p queue l.event.txn y.left op.Go) else y).left.state
    on later true = later
    on later false = refl

-- The parts of a scan downwards.
all_fell : (p : GhostProtocol) (queue : Locks) (t : ℕ) (os : List Op) (y : Tried) → after p y.left.state (all_read p queue t os y) ≡ (read_down p queue t os y).left.state
all_fell p queue t [] y = refl
all_fell p queue t (o ∷ os) y = by (all_fell p queue t os (read_on p queue t y.left y.reply o)) (is_read y.ahead y.reply)
  where
    next : Tried
    next = read_on p queue t y.left y.reply o

    by : after p next.left.state (all_read p queue t os next) ≡ (read_down p queue t os next).left.state → (b : Bool)
        → after p y.left.state (if b then done_by t o next.ahead ++ all_read p queue t os next else []) ≡ (if b then read_down p queue t os next else y).left.state
    by later true =
        ran_on p y.left.state (done_by t o next.ahead) (all_read p queue t os next)
        ∙ ap (λ s. after p s (all_read p queue t os next)) (done_ran p t y.left o (ahead_of p queue t y.left.state o)) ∙ later
    by later false = refl

-- The steps of a line, upwards or downwards.
line_ran : (p : GhostProtocol) (l : Line) (queue : Locks) (m : Moment) (o : Op) → after p m.state (steps_of p l queue m o) ≡ (last_of p l queue m o).left.state
line_ran p l queue m o = by (is_falling o)
  where
    t : ℕ
    t = l.event.txn

    by : (b : Bool) → after p m.state (if b then all_read p queue t (falling m.state o) (unread m o) else all_done p l queue (more_steps m.scans t o) (tried p queue t m o))
        ≡ (if b then read_down p queue t (falling m.state o) (unread m o) else gone_on p l queue (more_steps m.scans t o) (tried p queue t m o)).left.state
    by true = all_fell p queue t (falling m.state o) (unread m o)
    by false = all_ran p l queue (more_steps m.scans t o) m o

pub leads_run : (p : GhostProtocol) (opening : Map) (lines : List Line) (moves : List Move) (at : Point) → Leads p opening lines moves at → after p (opened opening) moves ≡ at.state
leads_run p opening _ _ _ start = refl
leads_run p opening _ _ _ (purge k lines moves at h) = ran_on p (opened opening) moves (Purge k ∷ []) ∙ ap (λ s. purged p s k) (leads_run p opening lines moves at h)
leads_run p opening _ _ _ (line l lines moves at h agrees) =
    ran_on p (opened opening) moves (moves_of p at l) ∙ ap (λ s. after p s (moves_of p at l)) (leads_run p opening lines moves at h)
    ∙ line_ran p l (queue_for l.observed at.waiting) (moment_at at) (first_op at.scans l)

pub agrees_fit : (p : GhostProtocol) (at : Point) (l : Line) → Agrees p at l → is_queued (last_tried p at l).ahead (last_tried p at l).reply ≡ false → fits (last_tried p at l).reply l.observed ≡ true
agrees_fit p at l h unqueued =
    let y : Tried = last_tried p at l in kind_fits (conflicts_of p h.0 l.event.txn y.left.state y.op) y.ahead y.reply l.observed h.1 unqueued
