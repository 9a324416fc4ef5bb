use Rattle.std.proofs.Common.{rules, ◌≡◌, All, [], ◌∷◌, ◌++◌, sym, ap, subst, ◌∙◌}
use Rattle.std.specs.Vec.Iter.{into_iter_items}
use Rattle.std.proofs.lemmas.List.Elements.{All-push}
use Rattle.kr_ghost_explain.specs.declared.explanation.MendedCause.{MendedCause}
use Rattle.kr_ghost_explain.specs.Mends.{IsMended, causes_of}
use Rattle.kr_ghost_explain.proofs.Repairs.{one_more}
use Rattle.kr_ghost_explain.proofs.explaining.mended.Goals as goal

-- one cause more is told
pub loop-cause-preserved : goal.loop-cause-preserved
loop-cause-preserved g c =
    let P : MendedCause → Type 0 = IsMended (g.P.GhostProtocol.ghosts c.args.protocol.now) c.args.failed.now in
    let pushed : c.push.new.self.items ≡ c.loop-cause.list.items ++ c.in_ok-told.told ∷ [] = c.in_ok-push.ensures.items in
    record {
      causes = subst (λ xs. c.args.causes.items ≡ causes_of xs ++ into_iter_items c.next.new.self) (sym pushed)
          (one_more c.args.causes.items (into_iter_items c.next.new.self) c.loop-cause.list.items c.in-Some.cause c.in_ok-told.told
          (c.loop-cause.invariant.causes ∙ ap (λ xs. causes_of c.loop-cause.list.items ++ xs) c.in-Some.ensures.steps.0) c.in_ok-told.ensures.cause);
      told = subst (All P) (sym pushed) (All-push P c.loop-cause.list.items c.in_ok-told.told c.loop-cause.invariant.told c.in_ok-told.ensures.mended);
      count = search rules;
    }
