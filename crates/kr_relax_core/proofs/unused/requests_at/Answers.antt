use Rattle.std.proofs.Common.{◌≡◌, ◌+◌, ◌++◌, [], ◌∷◌, subst, arith}
use Rattle.std.specs.List.{flat_map}
use Rattle.kr_model.specs.Covers.{count_up}
use Rattle.kr_change.proofs.Listed.{before-more, all_modes_or_none, list_more}
use Rattle.kr_relax_core.specs.declared.unused.Entry.TheVariants.{Request}
use Rattle.kr_relax_core.proofs.unused.requests_at.Goals as goal

-- one own mode more
pub loop-own_next-preserved : goal.loop-own_next-preserved
loop-own_next-preserved g c =
    let o = c.loop-own_next.own_next in
    list_more (λ o. Request c.args.row c.args.side o ∷ []) c.args.entries.now.items c.loop-own_next.entries.items c.push.new.self.items (count_up 0 o) (count_up 0 (o + 1)) o (before-more o) c.loop-own_next.invariant c.in_ok-push.ensures.items

-- all own modes
pub returns : goal.returns
returns g c =
    let p = g.P.Protocol.table c.args.protocol.now in
    subst (λ ks. c.loop-own_next.entries.items ≡ c.args.entries.now.items ++ flat_map (λ o. Request c.args.row c.args.side o ∷ []) ks) (all_modes_or_none p c.loop-own_next.own_next (omega arith)) c.loop-own_next.invariant
