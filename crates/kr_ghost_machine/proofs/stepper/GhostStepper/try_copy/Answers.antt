use Rattle.std.proofs.Common.{◌≤◌, ap, sym, ◌∙◌, subst, arith}
use Rattle.std.specs.Vec.{vec_len}
use Rattle.kr_model.specs.Locks.{Locks}
use Rattle.kr_model.proofs.Requests.{AreLocks}
use Rattle.kr_ghost_index.specs.Index.{GhostIndex}
use Rattle.kr_txn.specs.EndedNumbers.{EndedNumbers}
use Rattle.kr_txn.specs.Standings.{entries}
use Rattle.kr_ghost_machine.specs.Machine.{IsAtRest}
use Rattle.kr_ghost_machine.proofs.Resting.{same_rest}
use Rattle.kr_ghost_machine.proofs.stepper.GhostStepper.try_copy.Goals as goal

pub invariant_of-result : goal.invariant_of-result
invariant_of-result g c =
    let x = c.self.inside in
    let h = g.L.Holdings.locks x.locks in
    let more = c.in_ok-active.active in
    let inv = c.self.invariant in
    let rest = inv.rest in
    let len = c.in_ok-active.ensures.len in
    let room : vec_len more ≤ x.ended.room = omega (arith, len, c.deref.ensures.len, rest.room) in
    record {
      locks = subst (AreLocks (g.P.Protocol.table x.protocol)) (sym c.in_ok-locks.ensures) inv.locks;
      rest = subst (λ (i : GhostIndex). IsAtRest i c.in_ok-locks.locks c.in_ok-ended.ended more) (sym c.in_ok-index.ensures)
          (subst (λ (l : Locks). IsAtRest x.index l c.in_ok-ended.ended more) (sym c.in_ok-locks.ensures)
          (subst (λ (e : EndedNumbers). IsAtRest x.index h e more) (sym c.in_ok-ended.ensures) (same_rest x.index h x.ended x.ended x.active more rest (c.in_ok-active.ensures.entries ∙ ap entries c.deref.ensures.value) room)));
    }
