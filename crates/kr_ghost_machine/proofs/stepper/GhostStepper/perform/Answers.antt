use Rattle.std.proofs.Common.{◌≡◌, ◌&&◌, [], is_some, ap, sym, ◌∙◌, subst, IfOk}
use Rattle.kr_model.specs.Protocol.{Protocol}
use Rattle.kr_model.specs.declared.Op.TheVariants as op
use Rattle.kr_model.specs.State.{active_of}
use Rattle.kr_ghost.specs.Step.{performed}
use Rattle.kr_ghost_machine.specs.Sights.{IsSight}
use Rattle.kr_ghost_machine.proofs.stepper.GhostStepper.perform.Goals as goal

pub attempt-requires-clause-sight : goal.attempt-requires-clause-sight
attempt-requires-clause-sight g c =
    let is = c.in-Attempt.ensures [] in
    subst (λ (q : Protocol). IsSight q.count c.self.inside.index.map c.in-Attempt.sight) (g.met.P.GhostProtocol.tables c.self.inside.protocol) is.1

pub returns-in-Commit-clause-step : goal.returns-in-Commit-clause-step
returns-in-Commit-clause-step g c =
    let p = g.P.GhostProtocol.ghosts c.args.self.now.protocol in
    subst (λ o. IfOk c.end.result (λ reply. performed p c.args.self.now.state c.args.txn o ≡ (reply, c.end.new.self.state))) (sym (c.in-Commit.ensures [])) c.end.ensures.step

pub returns-in-Abort-clause-step : goal.returns-in-Abort-clause-step
returns-in-Abort-clause-step g c =
    let p = g.P.GhostProtocol.ghosts c.args.self.now.protocol in
    subst (λ o. IfOk c.end-in-Abort.result (λ reply. performed p c.args.self.now.state c.args.txn o ≡ (reply, c.end-in-Abort.new.self.state))) (sym (c.in-Abort.ensures [])) c.end-in-Abort.ensures.step

pub returns-in-Back-clause-step : goal.returns-in-Back-clause-step
returns-in-Back-clause-step g c =
    let t = c.args.txn in
    ap (performed (g.P.GhostProtocol.ghosts c.args.self.now.protocol) c.args.self.now.state t) (c.in-Back.ensures [])
    ∙ ap (λ v. performed (g.P.GhostProtocol.ghosts v.protocol) v.state t op.Back) (sym c.self.view_is) ∙ c.back.ensures.step (g.P.GhostProtocol.ghosts c.self.inside.protocol)

pub returns-in-Attempt-clause-memory : goal.returns-in-Attempt-clause-memory
returns-in-Attempt-clause-memory g c err = let is = c.in-Attempt.ensures [] in ap (λ b. b && is_some (active_of c.args.self.now.state.state c.args.txn)) is.2
