use Rattle.std.proofs.Common.{sym, subst, All, List}
use Rattle.std.proofs.lemmas.List.Elements.{All-push}
use Rattle.kr_suite_core.specs.Suite.{IsTested}
use Rattle.kr_suite_core.specs.declared.tested.Tested.{Tested}
use Rattle.kr_suite_core.proofs.tested.try_part.Goals as goal

pub returns : goal.returns
returns g c =
    let p = g.P.IndexProtocol.index c.args.protocol.now in
    subst (λ (ts : List Tested). All (IsTested p) ts) (sym c.in_ok-push.ensures.items) (All-push (IsTested p) c.args.parts.now.items c.in_ok-part.part c.requires.parts c.in_ok-part.ensures)
