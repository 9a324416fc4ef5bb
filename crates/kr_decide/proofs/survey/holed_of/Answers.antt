use Rattle.std.proofs.Common.{Bool, List, ◌+◌, subst}
use Rattle.kr_decide.specs.declared.pair.Pair.{Pair}
use Rattle.kr_decide.specs.Opens.{AreHoled}
use Rattle.kr_decide.proofs.Surveyed.{holes_of}
use Rattle.kr_decide.proofs.survey.holed_of.Goals as goal

pub returns : goal.returns
returns g c =
    let p = g.P.Protocol.table c.args.protocol.now in
    let list = c.in_ok-list.list.items in
    let n = c.args.count + 1 in
    holes_of p c.args.found.now c.requires.going c.in_ok-opens.opens.items c.args.cover n list c.in_ok-opens.ensures
    (subst (λ (l : List Pair). AreHoled l c.in_ok-opens.opens.items c.args.cover n list) c.deref.ensures.value
    (subst (λ (os : List Bool). AreHoled c.deref.result.now os c.args.cover n list) c.deref-2.ensures.value c.in_ok-list.ensures))
