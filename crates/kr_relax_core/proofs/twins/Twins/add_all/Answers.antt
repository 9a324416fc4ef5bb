use Rattle.std.proofs.Common.{◌≡◌, length, get_or, sym, subst}
use Rattle.std.proofs.lemmas.List.{get_or_default}
use Rattle.kr_model.specs.declared.Row.TheVariants.{FetchHit}
use Rattle.kr_model.specs.declared.Side.TheVariants.{Current}
use Rattle.kr_relax_core.specs.declared.place.Place.TheVariants as place
use Rattle.kr_relax_core.specs.declared.place.Spot.{Spot}
use Rattle.kr_relax_core.specs.Met.{spot}
use Rattle.kr_relax_core.specs.declared.twins.Twins.{Twins}
use Rattle.kr_relax_core.specs.Twins.{Grows, LeadsOwns}
use Rattle.kr_relax_core.proofs.Growing.{grows_none, grows_on, all_step}
use Rattle.kr_relax_core.proofs.twins.Twins.add_all.Goals as goal
use Rattle.kr_relax_core.proofs.twins.Twins.add_all.Goals.{then-spot-eq0+in_ok-add_owns, else-spot-eq0}

pub loop-at-preserved : goal.loop-at-preserved
loop-at-preserved g c =
    let p = g.P.IndexProtocol.index c.args.base.now in
    let q = g.Q.IndexProtocol.index c.args.other.now in
    let from = c.args.from.now in
    let at = c.loop-at.at in
    let old = c.loop-at.self in
    let new = c.if-spot-eq0.self in
    let before = c.loop-at.invariant in
    elim c.if-spot-eq0.branch [
      | then-spot-eq0+in_ok-add_owns w ↦
          let more : Grows p q old new = subst (Grows p q old) (sym w.self-is) w.in_ok-add_owns.ensures.grows in
          record {
            grows = grows_on p q c.args.self.now old new before.grows more;
            leads = all_step p q old new from c.args.spots.now at more before.leads (λ d e. subst (λ (y : Spot). LeadsOwns p q new.twins.items from (length from) y.request) (get_or_default c.args.spots.now at (spot (place.Row FetchHit Current) 0 0 0) d c.loop-at-test.true) (subst (λ (t : Twins). LeadsOwns p q t.twins.items from (length from) (get_or c.args.spots.now at (spot (place.Row FetchHit Current) 0 0 0)).request) (sym w.self-is) w.in_ok-add_owns.ensures.leads));
          }
      | else-spot-eq0 w ↦
          let well = before.grows in
          let more : Grows p q old new = subst (Grows p q old) (sym w.self-is) (grows_none p q old well.well) in
          record {
            grows = grows_on p q c.args.self.now old new before.grows more;
            leads = all_step p q old new from c.args.spots.now at more before.leads (λ d e. absurd (w.if-spot-eq0.false (subst (λ (y : Spot). y.held ≡ 0) (get_or_default c.args.spots.now at d (spot (place.Row FetchHit Current) 0 0 0) c.loop-at-test.true) e)));
          }
    ]
