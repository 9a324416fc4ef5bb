use Rattle.kr_relax_text.proofs.Wrong.{are_reasons}
use Rattle.kr_relax_text.proofs.reasons.reasons_for.Goals as goal

pub returns : goal.returns
returns g c =
    are_reasons (g.P.IndexProtocol.index c.args.protocol.now) c.args.changes.now c.in_ok-judged.judged.items c.deref.result.now c.in_ok-list.list.items
    c.in_ok-judged.ensures.changes
    c.in_ok-judged.ensures.right
    c.deref.ensures.value
    c.in_ok-list.ensures.judged
    c.in_ok-list.ensures.wrong
    c.in_ok-list.ensures.only
