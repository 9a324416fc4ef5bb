use Rattle.std.proofs.Common.{◌≡◌, ◌+◌, ◌-◌, ◌++◌, ◌∙◌, None, Some, ap, append_assoc, subst, arith}
use Rattle.std.specs.List.{flat_map}
use Rattle.kr_model.specs.declared.Span.TheVariants.{Instant, Commit}
use Rattle.kr_model.specs.Covers.{count_up}
use Rattle.kr_change.specs.Every.{offered, requests_in}
use Rattle.kr_change.proofs.Listed.{below-more, all_modes, list_more}
use Rattle.kr_change.proofs.every.requests_to.Goals as goal

-- one mode more, for an instant and to commit
pub loop-mode-preserved : goal.loop-mode-preserved
loop-mode-preserved g c =
    let e = c.args.entry in
    let m = c.loop-mode.mode in
    let both : c.offer-in-loop-mode-2.new.changes.items ≡ c.loop-mode.changes.items ++ requests_in e m =
    c.in_ok-offer-3.ensures ∙ ap (λ xs. xs ++ offered e (Some (m, Commit))) c.in_ok-offer-2.ensures ∙ append_assoc c.loop-mode.changes.items (offered e (Some (m, Instant))) (offered e (Some (m, Commit))) in
    list_more (requests_in e) (c.args.changes.now.items ++ offered e None) c.loop-mode.changes.items c.offer-in-loop-mode-2.new.changes.items (count_up 1 (m - 1)) (count_up 1 (m + 1 - 1)) m (below-more m (omega arith)) c.loop-mode.invariant both

-- nothing, and all modes
pub returns : goal.returns
returns g c =
    let p = g.P.Protocol.table c.args.protocol.now in
    let e = c.args.entry in
    let all = subst (λ ks. c.loop-mode.changes.items ≡ (c.args.changes.now.items ++ offered e None) ++ flat_map (requests_in e) ks) (all_modes p c.loop-mode.mode (omega arith)) c.loop-mode.invariant in
    all ∙ append_assoc c.args.changes.now.items (offered e None) _
