use Rattle.std.proofs.Common.{ℕ, Bool, true, false, ◌≡◌, ◌∙◌, length, get_or, subst, arith}
use mathlib.Core.Bool.{beq}
use Rattle.std.proofs.lemmas.List.{get_or_default}
use Rattle.kr_model.specs.declared.Row.TheVariants.{FetchHit}
use Rattle.kr_model.specs.declared.Side.TheVariants.{Current}
use Rattle.kr_relax_core.specs.declared.place.Place.TheVariants as place
use Rattle.kr_relax_core.specs.declared.place.Spot.{Spot}
use Rattle.kr_relax_core.specs.Met.{is_blocked_at, spot}
use Rattle.kr_relax_core.specs.Twins.{DiffersOwn, DiffersSpot}
use Rattle.kr_relax_core.proofs.Differing.{spot_step, at_spot}
use Rattle.kr_relax_core.proofs.differs.differs.Goals as goal
use Rattle.kr_relax_core.proofs.differs.differs.Goals.{else-is_blocked_at-blocked-via-then-is_blocked_at-blocked+else-differs_own, else-is_blocked_at-blocked-via-else-is_blocked_at-blocked}

other : (a b : Bool) → beq a b ≡ false → a ≡ b → ⊥
other true true h e = absurd (cc)
other true false h e = absurd (cc)
other false true h e = absurd (cc)
other false false h e = absurd (cc)

pub loop-at-preserved : goal.loop-at-preserved
loop-at-preserved g c =
    let p = g.P.IndexProtocol.index c.args.base.now in
    let q = g.Q.IndexProtocol.index c.args.other.now in
    let list = c.args.twins.now in
    let spots = c.args.spots.now in
    let at = c.loop-at.at in
    let x : Spot = get_or spots at (spot (place.Row FetchHit Current) 0 0 0) in
    let here : is_blocked_at p x.request.place x.request.own x.request.next x.held ≡ c.args.blocked → DiffersOwn p q list x c.args.blocked (length list) → ⊥ =
    elim c.else-is_blocked_at-blocked.branch [
      | else-is_blocked_at-blocked-via-then-is_blocked_at-blocked+else-differs_own w ↦ λ before own. (let found = w.differs_own.ensures.1 own in let none = w.if-differs_own.false in cc)
      | else-is_blocked_at-blocked-via-else-is_blocked_at-blocked w ↦ λ before own. other c.is_blocked_at.result c.args.blocked w.if-is_blocked_at-blocked.false (c.is_blocked_at.ensures ∙ before)
    ] in
    spot_step p q list spots c.args.blocked at x c.loop-at-test.true (get_or_default spots at x (spot (place.Row FetchHit Current) 0 0 0) c.loop-at-test.true) c.loop-at.invariant here

pub returns : goal.returns
returns g c =
    let p = g.P.IndexProtocol.index c.args.base.now in
    let q = g.Q.IndexProtocol.index c.args.other.now in
    let end : length c.args.spots.now ≡ c.loop-at.at = omega arith in
    ((λ t. cc), λ d. absurd (c.loop-at.invariant (subst (λ (k : ℕ). DiffersSpot p q c.args.twins.now c.args.spots.now c.args.blocked k) end (at_spot p q c.args.twins.now c.args.spots.now c.args.blocked c.requires.twins c.requires.spots d))))
