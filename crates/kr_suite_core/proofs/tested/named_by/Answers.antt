use Rattle.std.proofs.Common.{sym, subst, All, List, Vec, Global, Option, IfSome}
use Rattle.std.proofs.lemmas.List.Elements.{All-push}
use Rattle.kr_change.specs.declared.change.Change.{Change}
use Rattle.kr_suite_core.specs.Tried.{IsNamed}
use Rattle.kr_suite_core.proofs.tested.named_by.Goals.{in-Some+in_ok-push, in_default}
use Rattle.kr_suite_core.proofs.tested.named_by.Goals as goal

-- one change more, or none
pub loop-number-preserved : goal.loop-number-preserved
loop-number-preserved g c =
    let Named = IsNamed (g.P.IndexProtocol.index c.args.protocol.now) c.args.part.now.opening.items c.args.part.now.events.items in
    elim c.match-branch-2.branch [
      | in-Some+in_ok-push w ↦
          subst (λ (v : Vec Change Global). All Named v.items) (sym w.named-is)
          (subst (λ (cs : List Change). All Named cs) (sym w.in_ok-push.ensures.items)
          (All-push Named c.loop-number.named.items w.in-Some.change c.loop-number.invariant (subst (λ (o : Option Change). IfSome o Named) w.in-Some.is c.in_ok-change.ensures)))
      | in_default w ↦ subst (λ (v : Vec Change Global). All Named v.items) (sym w.named-is) c.loop-number.invariant
    ]
