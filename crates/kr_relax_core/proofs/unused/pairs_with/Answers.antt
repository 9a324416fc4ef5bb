use Rattle.std.proofs.Common.{◌+◌, ◌-◌, [], ◌∷◌, arith}
use Rattle.kr_model.specs.Covers.{count_up}
use Rattle.kr_change.proofs.Listed.{below-more, list_more}
use Rattle.kr_relax_core.specs.declared.unused.Entry.TheVariants.{Pair}
use Rattle.kr_relax_core.proofs.unused.pairs_with.Goals as goal

-- one pair more
pub loop-held-preserved : goal.loop-held-preserved
loop-held-preserved g c =
    let h = c.loop-held.held in
    list_more (λ h. Pair c.args.requested h ∷ []) c.args.entries.now.items c.loop-held.entries.items c.push.new.self.items (count_up 1 (h - 1)) (count_up 1 (h + 1 - 1)) h (below-more h (omega arith)) c.loop-held.invariant c.in_ok-push.ensures.items
