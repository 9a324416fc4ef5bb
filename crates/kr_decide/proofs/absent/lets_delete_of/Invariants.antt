use Rattle.std.proofs.Common.{◌≡◌, ℕ, ◌<◌, false}
use Rattle.kr_model.specs.declared.Row.TheVariants.{Delete}
use Rattle.kr_model.specs.declared.Side.TheVariants.{Current}
use Rattle.kr_model.specs.Covers.{conflicts_with}
use Rattle.kr_decide.proofs.absent.lets_delete_of.Given as goal

abbrev pub invariant-loop-next : goal.invariant-loop-next
invariant-loop-next g l =
    let p = g.P.Protocol.table l.protocol in
    (n : ℕ) → n < l.next → conflicts_with p l.mode l.own (p.ask Delete Current n) ≡ false → ⊥
