use Rattle.std.proofs.Common.{◌≡◌, ◌<◌, ◌∙◌, ℕ, List, true, false, get_or, set, ap, sym, subst, arith}
use Rattle.std.specs.Prelude.{Contains}
use Rattle.std.proofs.lemmas.List.Elements.{Contains-push}
use Rattle.kr_relax_core.specs.declared.place.Spot.{Spot}
use Rattle.kr_relax_core.proofs.Finding.{at_default, found_by, more_none}
use Rattle.kr_relax_core.proofs.finder.Finder.add.Goals as goal

-- it was seen
pub returns-then-index : goal.returns-then-index
returns-then-index g c =
    let p = g.P.IndexProtocol.index c.args.protocol.now in
    let f = c.requires.finding in
    let x = c.args.spot in
    record {
      more = more_none p c.args.self.now f;
      at = f.seen x.request.place x.request.own x.request.next x.held (omega (arith, c.requires.own, c.requires.few)) (omega (arith, c.requires.next, c.requires.few)) (omega (arith, c.requires.held, c.requires.few))
          (subst (λ (n : ℕ). get_or c.args.self.now.seen.items n false ≡ true) c.spot_number-number.ensures.value (at_default c.args.self.now.seen.items c.spot_number-number.result c.index.result.now _ (omega (arith, f.size, c.spot_number-number.ensures.below)) c.index.ensures c.if-index.true));
    }

-- it is put behind the others
pub returns : goal.returns
returns g c =
    let p = g.P.IndexProtocol.index c.args.protocol.now in
    let x = c.args.spot in
    record {
      more = found_by p c.args.self.now _ x c.requires.few c.requires.finding c.requires.met c.requires.own c.requires.next c.requires.held
          (subst (λ (n : ℕ). n < 94208) c.spot_number-number.ensures.value c.spot_number-number.ensures.below)
          (subst (λ (n : ℕ). get_or c.args.self.now.seen.items n false ≡ false) c.spot_number-number.ensures.value (at_default c.args.self.now.seen.items c.spot_number-number.result c.index.result.now _ (let f = c.requires.finding in omega (arith, f.size, c.spot_number-number.ensures.below)) c.index.ensures c.if-index.false))
          c.in_ok-push.ensures.items (ap (λ (n : ℕ). set c.args.self.now.seen.items n true) c.spot_number-number.ensures.value);
      at = subst (λ (l : List Spot). Contains l x) (sym c.in_ok-push.ensures.items) (Contains-push c.args.self.now.spots.items x);
    }
