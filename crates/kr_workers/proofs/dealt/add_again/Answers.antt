use Rattle.std.proofs.Common.{refl, subst}
use Rattle.std.specs.Prelude.{IsSome}
use Rattle.kr_workers.proofs.Hands.{dealt_again}
use Rattle.kr_workers.proofs.dealt.add_again.Goals as goal

pub returns-in-Some-clause-again : goal.returns-in-Some-clause-again
returns-in-Some-clause-again c = λ txns hands.
    dealt_again c.args.events.now c.args.txn c.args.start c.in_ok-end.end txns c.args.hands.now (c.get_mut.follows.lender c.add_run.new.ops) c.in-Some.ops.now c.add_run.new.ops
    c.in_ok-end.ensures.run hands c.in-Some.ensures.value c.in_ok-end.ensures.ops ((c.get_mut.follows.holds c.add_run.new.ops).3 (subst IsSome c.in-Some.ensures.value refl)).0
