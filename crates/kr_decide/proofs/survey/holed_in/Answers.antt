use Rattle.std.proofs.Common.{ℕ, Bool, List, false, ◌↔◌, IsTrue, get_or, sym, subst, rules}
use Rattle.kr_decide.specs.Opens.{IsHoledIn}
use Rattle.kr_decide.proofs.Openings.{one_more_test}
use Rattle.kr_decide.proofs.survey.holed_in.Goals as goal

pub loop-mode-preserved : goal.loop-mode-preserved
loop-mode-preserved c =
    let P : ℕ → Bool → Type 0 = λ m b. IsTrue b ↔ IsHoledIn c.args.pairs.now c.args.opens.now c.args.cover m in
    record {
      size = search rules;
      each = λ k below. subst (λ (l : List Bool). P k (get_or l k false)) (sym c.in_ok-push.ensures.items)
          (one_more_test P c.loop-mode.list.items c.is_holed_in.result c.loop-mode.mode c.loop-mode.invariant.size c.loop-mode.invariant.each c.is_holed_in.ensures k below);
    }
