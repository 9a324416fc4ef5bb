use Rattle.std.proofs.lemmas.Result.{IfOk-weaker}
use Rattle.kr_cli.specs.GhostTables.{ghosts_of}
use Rattle.kr_txn.specs.Logs.{MayNote}
use Rattle.kr_embed.proofs.Recorded.{room_notes}
use Rattle.kr_embed.proofs.noting.attempt.Goals as goal

-- The log has room for the reply.
pub returns-clause-room : goal.returns-clause-room
returns-clause-room c =
    let p = ghosts_of c.args.stepper.now.protocol in
    let l = c.make_room.new.log in
    IfOk-weaker c.step.result _ (MayNote l (record { txn = c.args.txn; op = c.args.op }))
    (λ r is. room_notes p c.args.stepper.now.state c.step.new.self.state c.args.txn c.args.op r l c.in_ok-make_room.ensures.room is) c.step.ensures.step
