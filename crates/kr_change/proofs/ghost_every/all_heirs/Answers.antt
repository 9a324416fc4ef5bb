use Rattle.std.proofs.Common.{◌≡◌, ◌+◌, ◌-◌, ◌++◌, ap, arith, ℕ, subst, sym, ◌∙◌}
use Rattle.std.specs.List.{flat_map}
use Rattle.kr_model.specs.Covers.{count_up, modes}
use Rattle.kr_change.specs.GhostEvery.{heirs_from}
use Rattle.kr_change.proofs.Listed.{all_modes, below-more, list_more}
use Rattle.kr_change.proofs.ghost_every.all_heirs.Goals as goal

-- the heirs of one mode more
pub loop-held-preserved : goal.loop-held-preserved
loop-held-preserved g c =
    let p = g.P.GhostProtocol.ghosts c.args.protocol.now in
    list_more (heirs_from p) c.args.changes.now.items c.loop-held.changes.items c.heirs_from.new.changes.items (count_up 1 (c.loop-held.held - 1)) (count_up 1 (c.loop-held.held + 1 - 1)) c.loop-held.held (below-more c.loop-held.held (omega arith)) c.loop-held.invariant c.in_ok-heirs_from.ensures

-- those of all modes
pub returns : goal.returns
returns g c =
    let p = g.P.GhostProtocol.ghosts c.args.protocol.now in
    let t = g.P.Protocol.table c.args.protocol.now in
    let all : count_up 1 (c.loop-held.held - 1) ≡ modes p.table = all_modes t c.loop-held.held (omega arith) ∙ ap modes (sym (g.met.P.GhostProtocol.tables c.args.protocol.now)) in
    subst (λ ks. c.loop-held.changes.items ≡ c.args.changes.now.items ++ flat_map (heirs_from p) ks) all c.loop-held.invariant
