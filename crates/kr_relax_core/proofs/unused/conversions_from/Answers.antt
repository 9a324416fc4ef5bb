use Rattle.std.proofs.Common.{◌+◌, ◌-◌, [], ◌∷◌, arith}
use Rattle.kr_model.specs.Covers.{count_up}
use Rattle.kr_change.proofs.Listed.{below-more, list_more}
use Rattle.kr_relax_core.specs.declared.unused.Entry.TheVariants.{Conversion}
use Rattle.kr_relax_core.proofs.unused.conversions_from.Goals as goal

-- one conversion more
pub loop-requested-preserved : goal.loop-requested-preserved
loop-requested-preserved g c =
    let q = c.loop-requested.requested in
    list_more (λ q. Conversion c.args.held q ∷ []) c.args.entries.now.items c.loop-requested.entries.items c.push.new.self.items (count_up 1 (q - 1)) (count_up 1 (q + 1 - 1)) q (below-more q (omega arith)) c.loop-requested.invariant c.in_ok-push.ensures.items
