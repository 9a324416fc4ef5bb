use Rattle.std.proofs.Common.{◌<◌, sym, subst, ap, All, length, arith}
use Rattle.std.proofs.lemmas.List.Elements.{All-set}
use Rattle.kr_explain_causes.specs.declared.cause.Tally.{Tally}
use Rattle.kr_explain_causes.specs.Shares.{IsNamedBy}
use Rattle.kr_explain_causes.proofs.cause.count.Goals as goal

-- the tally keeps its first suspect
pub returns-then-eq : goal.returns-then-eq
returns-then-eq c = λ suspects named all.
    let P : Tally → Type 0 = λ t. IsNamedBy suspects t.blame t.first in
    let before : All P c.loop-i.tallies.items = subst (All P) (sym c.loop-i.invariant) all in
    let here : c.loop-i.i < length c.loop-i.tallies.items = omega (arith, ap length c.loop-i.invariant) in
    All-set P c.loop-i.tallies.items c.loop-i.i _ (subst P (sym c.index_mut.ensures.value) (before c.loop-i.i c.index_mut.result.now here)) before
