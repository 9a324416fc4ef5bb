use Rattle.std.proofs.Common.{ℕ, Bool, List, false, ◌↔◌, IsTrue, get_or, sym, subst, rules}
use Rattle.std.specs.List.{Any}
use Rattle.kr_decide.specs.Opens.{IsHeldBy}
use Rattle.kr_decide.proofs.Openings.{one_more_test}
use Rattle.kr_decide.proofs.survey.held_of.Goals as goal

pub loop-mode-preserved : goal.loop-mode-preserved
loop-mode-preserved c =
    let P : ℕ → Bool → Type 0 = λ m b. IsTrue b ↔ Any (IsHeldBy c.args.cover m) c.args.pairs.now in
    record {
      size = search rules;
      each = λ k below. subst (λ (l : List Bool). P k (get_or l k false)) (sym c.in_ok-push.ensures.items)
          (one_more_test P c.loop-mode.list.items c.is_held_in.result c.loop-mode.mode c.loop-mode.invariant.size c.loop-mode.invariant.each c.is_held_in.ensures k below);
    }
