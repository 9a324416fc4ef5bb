use Rattle.std.proofs.Common.{◌≡◌, ◌++◌, ◌∷◌, [], ◌∙◌, Some, All, sym, subst, arith}
use Rattle.std.proofs.lemmas.Grind.{common_steps}
use Rattle.std.proofs.lemmas.List.Elements.{All-pop, All-push}
use Rattle.kr_threads.specs.Told.{IsToldAt, IsLeftOut, left_between}
use Rattle.kr_threads.proofs.Gathered.{settled_one}
use Rattle.kr_threads.proofs.left_out.settle.Goals as goal

pub loop-fault-preserved : goal.loop-fault-preserved
loop-fault-preserved c =
    let settled = left_between c.args.last c.args.next c.in-Some.fault in
    let pushed : c.push.new.self.items ≡ c.loop-fault.left_out.items ++ settled ∷ [] = grind (arith, common_steps) in
    record {
      told = λ p opening h recent left.
          let both = c.loop-fault.invariant.told p opening h recent left in
          let cut = All-pop (IsToldAt p opening h c.args.last c.args.next) c.loop-fault.recent.items c.pop.new.self.items (Some c.in-Some.fault) c.in-Some.ensures.items both.0 in
          (cut.0, subst (All (IsLeftOut p opening h)) (sym pushed) (All-push (IsLeftOut p opening h) c.loop-fault.left_out.items settled both.1 cut.1));
      all = λ fine. settled_one c.args.last c.args.next c.loop-fault.recent.items c.pop.new.self.items c.in-Some.fault c.loop-fault.left_out.items c.push.new.self.items c.in-Some.ensures.items pushed ∙ c.loop-fault.invariant.all fine;
    }
