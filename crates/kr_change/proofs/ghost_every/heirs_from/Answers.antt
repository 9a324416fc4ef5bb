use Rattle.std.proofs.Common.{◌≡◌, ◌+◌, ◌++◌, ◌∙◌, ◌^◌, ap, sym, arith, subst, ℕ, List, [], ◌∷◌}
use Rattle.std.specs.List.{flat_map}
use Rattle.kr_model.specs.Covers.{count_up, modes_or_none}
use Rattle.kr_change.specs.declared.change.Change.{Change}
use Rattle.kr_change.specs.declared.change.Change.TheVariants.{Heir}
use Rattle.kr_change.specs.GhostEvery.{heir_to}
use Rattle.kr_change.proofs.Listed.{all_modes_or_none, before-more, list_more, same_heir_is_none, other_heir_is_one}
use Rattle.kr_change.proofs.ghost_every.heirs_from.Goals.{then-mode-now+in_ok-push, else-mode-now}
use Rattle.kr_change.proofs.ghost_every.heirs_from.Goals as goal

-- one mode more
pub loop-mode-preserved : goal.loop-mode-preserved
loop-mode-preserved g c =
    let p = g.P.GhostProtocol.ghosts c.args.protocol.now in
    let h = c.args.held in
    let m = c.loop-mode.mode in
    let more : c.if-mode-now.changes.items ≡ c.loop-mode.changes.items ++ heir_to p h m = elim c.if-mode-now.branch [
      | then-mode-now+in_ok-push w ↦
          ap (λ v. v.items) w.changes-is ∙ w.in_ok-push.ensures.items ∙ ap (λ (x : ℕ). c.loop-mode.changes.items ++ Heir x m ∷ []) w.only.ensures
          ∙ ap (λ xs. c.loop-mode.changes.items ++ xs) (sym (other_heir_is_one p h m c.heir-now.result c.heir-now.ensures w.if-mode-now.true))
      | else-mode-now w ↦
          ap (λ v. v.items) w.changes-is ∙ same_heir_is_none p h m c.heir-now.result c.loop-mode.changes.items c.heir-now.ensures w.if-mode-now.false
    ] in
    list_more (heir_to p h) c.args.changes.now.items c.loop-mode.changes.items c.if-mode-now.changes.items (count_up 0 m) (count_up 0 (m + 1)) m (before-more m) c.loop-mode.invariant more

-- all modes, and none
pub returns : goal.returns
returns g c =
    let p = g.P.GhostProtocol.ghosts c.args.protocol.now in
    let t = g.P.Protocol.table c.args.protocol.now in
    let all : count_up 0 c.loop-mode.mode ≡ modes_or_none p.table = all_modes_or_none t c.loop-mode.mode (omega arith) ∙ ap modes_or_none (sym (g.met.P.GhostProtocol.tables c.args.protocol.now)) in
    subst (λ ks. c.loop-mode.changes.items ≡ c.args.changes.now.items ++ flat_map (heir_to p c.args.held) ks) all c.loop-mode.invariant
