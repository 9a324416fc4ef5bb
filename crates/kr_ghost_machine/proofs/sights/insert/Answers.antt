use Rattle.std.proofs.Common.{◌≡◌, ap, sym, ◌∙◌}
use Rattle.std.specs.Prelude.{Some, if◌then◌else◌, is_some}
use Rattle.kr_model.specs.Locks.{own}
use Rattle.kr_model.specs.Map.{after, at, get}
use Rattle.kr_model.specs.Plan.{requests}
use Rattle.kr_model.specs.State.{standing}
use Rattle.kr_model.specs.Step.{inserted}
use Rattle.kr_ghost.specs.State.{among, ghosts_with, named, stand_by}
use Rattle.kr_ghost.specs.Step.{insert_requests}
use Rattle.kr_ghost_machine.specs.Deeds.{effect_of, ghosts_after}
use Rattle.kr_ghost_machine.specs.Machine.{shown}
use Rattle.kr_ghost_machine.proofs.Attempted.{attempted_as}
use Rattle.kr_ghost_machine.proofs.sights.insert.Goals as goal
use Rattle.kr_ghost_machine.proofs.sights.insert.Goals.{in-None, in-Some}

pub returns-clause-performs : goal.returns-clause-performs
returns-clause-performs g c ended active =
    let p = g.P.GhostProtocol.ghosts c.args.protocol.now in
    let x = c.args.index.now in
    let h = g.L.Holdings.locks c.args.locks.now in
    let t = c.args.txn in
    let k = c.args.key in
    let s = shown x h ended active in
    let a = standing s.state t in
    let look = c.look-look.result in
    let n = at (named x.map x.ghosts) k in
    let above = after (named x.map x.ghosts) k in
    let asked : insert_requests p k n (own h t n) above (stand_by (get x.map k) (among x.ghosts k)) ≡ requests c.insert-plan.result =
    sym (c.insert-plan.ensures.requests
    ∙ ap (λ z. insert_requests p k z (own h t z) above (stand_by look.value look.is_ghost)) c.look-look.ensures.name
    ∙ ap (λ z. insert_requests p k n (own h t n) above (stand_by z look.is_ghost)) c.look-look.ensures.value
    ∙ ap (λ z. insert_requests p k n (own h t n) above (stand_by (get x.map k) z)) c.look-look.ensures.is_ghost) in
    elim c.match-look.branch [
      | in-Some w ↦
          let there = sym c.look-look.ensures.value ∙ w.in-Some.is in
          attempted_as p s t _ _ _ _ _ _ asked
          (ap (inserted x.map a k c.args.value) there ∙ sym (ap (λ d. effect_of d x.map a) w.deed-is))
          (ap (λ z. if is_some z then x.ghosts else ghosts_with x.ghosts k (Some c.args.value)) there ∙ sym (ap (λ d. ghosts_after d x.ghosts) w.deed-is))
      | in-None w ↦
          let absent = sym c.look-look.ensures.value ∙ w.in-None.is in
          attempted_as p s t _ _ _ _ _ _ asked
          (ap (inserted x.map a k c.args.value) absent ∙ sym (ap (λ d. effect_of d x.map a) w.deed-is))
          (ap (λ z. if is_some z then x.ghosts else ghosts_with x.ghosts k (Some c.args.value)) absent ∙ sym (ap (λ d. ghosts_after d x.ghosts) w.deed-is))
    ]
