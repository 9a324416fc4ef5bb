use Rattle.std.proofs.Common.{◌++◌, List, ap, map, ◌∙◌}
use Rattle.kr_model.specs.declared.Op.{Op}
use Rattle.kr_workers.specs.Dealt.{between}
use Rattle.kr_workers.proofs.Hands.{dealt_first}
use Rattle.kr_workers.proofs.dealt.add_first.Goals as goal

pub returns-clause-first : goal.returns-clause-first
returns-clause-first c = λ txns none hands.
    let end = c.in_ok-end.end in
    dealt_first c.args.events.now c.args.txn c.args.start end txns c.args.hands.now c.insert.new.self c.add_run.new.ops c.in_ok-end.ensures.run none hands
    (c.in_ok-end.ensures.ops ∙ ap (λ (os : List Op). os ++ map (λ e. e.op) (between c.args.start end c.args.events.now)) c.new-ops.ensures.items) c.in_ok-insert.ensures.updates.0
