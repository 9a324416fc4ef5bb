use Rattle.std.proofs.Common.{sym, ◌∙◌, ap, map, ◌++◌, ◌≤◌, All, subst}
use Rattle.kr_model.specs.Locks.{Locks, Lock, mode_held}
use Rattle.kr_trace_follow.specs.Conflicts.{wanted}
use Rattle.kr_trace_follow.proofs.WaitLaws.{modes_left, modes_added}
use Rattle.kr_ghost_follow.proofs.stand.waits_after.Goals as goal
use Rattle.kr_ghost_follow.proofs.stand.waits_after.Goals.{in-Blocked+in_ok-requests+in_ok-push_wanted, in_default}

pub returns-clause-modes : goal.returns-clause-modes
returns-clause-modes g c =
    let count = (g.P.Protocol.table c.args.stepper.now.protocol).count in
    let left = modes_left count c.args.waiting.items c.forget.new.waiting.items c.args.txn c.requires.modes c.forget.ensures in
    elim c.match-observed.branch [
      | in-Blocked+in_ok-requests+in_ok-push_wanted w ↦
          modes_added count c.forget.new.waiting.items c.match-observed.waiting.items w.in_ok-requests.requests.items left w.in_ok-requests.ensures.modes
          (ap (λ v. v.items) w.waiting-is ∙ w.in_ok-push_wanted.ensures ∙ ap (λ qs. c.forget.new.waiting.items ++ map wanted qs) w.deref.ensures.value)
      | in_default w ↦ subst (λ (xs : Locks). All (λ (l : Lock). mode_held l ≤ count) xs) (sym (ap (λ v. v.items) w.waiting-is)) left
    ]
