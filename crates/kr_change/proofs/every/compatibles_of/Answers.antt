use Rattle.std.proofs.Common.{◌≡◌, ◌+◌, ◌-◌, [], ◌∷◌, ◌++◌, not, Bool, subst, arith}
use Rattle.kr_model.specs.Covers.{count_up}
use Rattle.kr_change.specs.declared.change.Change.TheVariants.{Compatible}
use Rattle.kr_change.proofs.Listed.{below-more, list_more}
use Rattle.kr_change.proofs.every.compatibles_of.Goals as goal

-- one pair more
pub loop-held-preserved : goal.loop-held-preserved
loop-held-preserved g c =
    let p = g.P.Protocol.table c.args.protocol.now in
    let q = c.args.requested in
    let h = c.loop-held.held in
    list_more (λ h. Compatible q h (not (p.ok q h)) ∷ []) c.args.changes.now.items c.loop-held.changes.items c.push.new.self.items (count_up 1 (h - 1)) (count_up 1 (h + 1 - 1)) h (below-more h (omega arith)) c.loop-held.invariant
    (subst (λ (b : Bool). c.push.new.self.items ≡ c.loop-held.changes.items ++ Compatible q h (not b) ∷ []) c.ok.ensures c.in_ok-push.ensures.items)
