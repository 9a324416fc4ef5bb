use Rattle.std.proofs.Common.{ℕ, Bool, List, true, ◌↔◌, IsTrue, get_or, sym, subst, rules}
use Rattle.kr_alike.specs.Coming.{MayBeLeft}
use Rattle.kr_alike.proofs.Lists.{mark_more}
use Rattle.kr_alike.proofs.left.all_left.Goals as goal

pub loop-mode-preserved : goal.loop-mode-preserved
loop-mode-preserved g c =
    let p = g.P.Protocol.table c.args.protocol.now in
    let P : ℕ → Bool → Type 0 = λ k b. IsTrue b ↔ MayBeLeft p k in
    record {
      size = search rules;
      marked = λ k below. subst (λ (l : List Bool). P k (get_or l k true)) (sym c.in_ok-push.ensures.items)
          (mark_more P c.loop-mode.marks.items c.may_be_left.result c.loop-mode.mode c.loop-mode.invariant.size c.loop-mode.invariant.marked c.may_be_left.ensures k below);
    }
