use Rattle.std.proofs.Common.{◌≡◌, ◌∙◌, List, All, length, ap, sym, subst, arith}
use Rattle.std.specs.Prelude.{Contains}
use Rattle.std.specs.List.{AllPairs}
use Rattle.kr_relax_core.specs.declared.twins.Twin.{Twin}
use Rattle.kr_relax_core.specs.Twins.{IsTwin, LeadsAll, twin_of}
use Rattle.kr_relax_core.proofs.Closed.{closed}
use Rattle.kr_relax_core.proofs.twins.twins_of.Goals as goal

-- where nothing was added, the list has all
pub returns-then-len : goal.returns-then-len
returns-then-len g c =
    let p = g.P.IndexProtocol.index c.args.base.now in
    let q = g.Q.IndexProtocol.index c.args.other.now in
    let spots = c.args.spots.now in
    let old = c.loop-found.found.twins.items in
    let new = c.add_all.new.self.twins.items in
    let from = c.in_ok-from.from.items in
    let n = length spots in
    let well = c.loop-found.invariant in
    let same : from ≡ old = (let h = c.in_ok-from.ensures in h.items_if_clones_equal (λ x y e. e)) ∙ c.as_slice.ensures.value in
    let equal : length new ≡ length old = omega (arith, c.if-len.true, c.len.ensures, c.len-in-loop-found.ensures, ap length same) in
    let grows = c.in_ok-add_all.ensures.grows in
    let items : new ≡ from = grows.same equal ∙ sym same in
    let leads : LeadsAll p q new from spots n = subst (λ (l : List Twin). LeadsAll p q new l spots n) c.deref.ensures.value c.in_ok-add_all.ensures.leads in
    record {
      apart = subst (AllPairs (λ (x : Twin) (y : Twin). x ≡ y → ⊥)) (sym same) well.apart;
      sound = subst (All (IsTwin p q)) (sym same) well.sound;
      listed = closed p q from spots c.requires.spots (subst (λ (l : List Twin). Contains l (twin_of 0 0)) (sym same) well.first)
          (subst (λ (l : List Twin). LeadsAll p q l from spots n) items leads);
    }
