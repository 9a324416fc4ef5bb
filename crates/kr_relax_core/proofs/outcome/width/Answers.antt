use Rattle.std.proofs.Common.{◌≡◌, ◌+◌, ◌∙◌, get_or, sym, subst}
use Rattle.std.proofs.lemmas.List.{get_or_default}
use Rattle.kr_model.specs.declared.Row.TheVariants.{FetchHit}
use Rattle.kr_model.specs.declared.Side.TheVariants.{Current}
use Rattle.kr_relax_core.specs.declared.place.Place.TheVariants as place
use Rattle.kr_relax_core.specs.declared.place.Spot.{Spot}
use Rattle.kr_relax_core.specs.Met.{is_blocked_at, spot}
use Rattle.kr_relax_core.specs.Width.{IsGained}
use Rattle.kr_relax_core.proofs.Counting.{AreCounted, counted_none, counted_more, counted_other, counted_all}
use Rattle.kr_relax_core.proofs.Differing.{gained_if_differs, differs_if_gained}
use Rattle.kr_relax_core.proofs.outcome.width.Goals as goal
use Rattle.kr_relax_core.proofs.outcome.width.Goals.{then-is_blocked_at+then-differs_own, else-is_blocked_at, else-is_blocked_at-via-then-is_blocked_at+else-differs_own, else-is_blocked_at-via-else-is_blocked_at}

-- at first none is counted
pub loop-at-init : goal.loop-at-init
loop-at-init g c = counted_none (g.P.IndexProtocol.index c.args.base.now) (g.Q.IndexProtocol.index c.args.other.now) c.args.spots.now

-- with one spot more
pub loop-at-preserved : goal.loop-at-preserved
loop-at-preserved g c =
    let p = g.P.IndexProtocol.index c.args.base.now in
    let q = g.Q.IndexProtocol.index c.args.other.now in
    let twins = c.args.twins.now in
    let spots = c.args.spots.now in
    let at = c.loop-at.at in
    let number = c.loop-at.width in
    let x : Spot = get_or spots at (spot (place.Row FetchHit Current) 0 0 0) in
    let is : get_or spots at x ≡ x = get_or_default spots at x (spot (place.Row FetchHit Current) 0 0 0) c.loop-at-test.true in
    let test : is_blocked_at p x.request.place x.request.own x.request.next x.held ≡ c.is_blocked_at.result = sym c.is_blocked_at.ensures in
    elim c.if-is_blocked_at.branch [
      | then-is_blocked_at+then-differs_own w ↦
          let gained : IsGained p q x = gained_if_differs p q twins x c.requires.twins (c.requires.spots.sound at (spot (place.Row FetchHit Current) 0 0 0) c.loop-at-test.true) (test ∙ w.if-is_blocked_at.true) (w.differs_own.ensures.0 w.if-differs_own.true) in
          subst (AreCounted p q spots (at + 1)) (sym w.width-is) (counted_more p q spots at number x c.requires.apart c.loop-at-test.true is gained c.loop-at.invariant)
      | else-is_blocked_at w ↦
          let isnt : IsGained p q x → ⊥ = elim w.else-is_blocked_at.branch [
            | else-is_blocked_at-via-then-is_blocked_at+else-differs_own w' ↦ λ gained. (let found = w'.differs_own.ensures.1 (differs_if_gained p q twins x c.requires.twins gained) in let none = w'.if-differs_own.false in cc)
            | else-is_blocked_at-via-else-is_blocked_at w' ↦ λ gained. (let blocked = gained.blocked in let granted = test ∙ w'.if-is_blocked_at.false in cc)
          ] in
          subst (AreCounted p q spots (at + 1)) (sym w.width-is) (counted_other p q spots at number x c.loop-at-test.true is isnt c.loop-at.invariant)
    ]

-- all are
pub returns : goal.returns
returns g c = counted_all (g.P.IndexProtocol.index c.args.base.now) (g.Q.IndexProtocol.index c.args.other.now) c.args.spots.now c.loop-at.at c.loop-at.width c.requires.spots c.loop-at-test.false c.loop-at.invariant
