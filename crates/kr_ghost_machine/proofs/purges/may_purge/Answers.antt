use Rattle.std.proofs.Common.{◌≡◌, Bool, true, false, not, ◌||◌, refl, ap, sym, ◌∙◌}
use Rattle.kr_model.specs.declared.Name.TheVariants.{Key}
use Rattle.kr_txn.specs.Standings.{entries}
use Rattle.kr_ghost.specs.Step.{is_locked}
use Rattle.kr_ghost_machine.proofs.Purgeable.{has_one, let_go, no_ghost}
use Rattle.kr_ghost_machine.proofs.purges.may_purge.Goals as goal
use Rattle.kr_ghost_machine.proofs.purges.may_purge.Goals.{else-look, then-look}

flip : (b v : Bool) → v ≡ not b → v ≡ true → b ≡ false
flip true v is e = absurd (cc)
flip false v is e = refl

unflip : (b v : Bool) → v ≡ not b → v ≡ false → b ≡ true
unflip true v is e = refl
unflip false v is e = absurd (cc)

pub returns-then-inherits : goal.returns-then-inherits
returns-then-inherits g c ended =
    let p = g.P.GhostProtocol.ghosts c.args.protocol.now in
    let x = c.args.index.now in
    let h = g.L.Holdings.locks c.args.locks.now in
    let k = c.args.key in
    let seen = c.look.ensures in
    elim c.if-look.branch [
      | then-look w ↦
          c.if-inherits.true ∙ ap (λ b. b || not (is_locked h (Key k))) (sym c.if-inherits.true ∙ c.inherits.ensures)
          ∙ let_go p x h ended (entries c.args.active.now) k c.requires.counted c.look.result.value c.look.result.is_ghost w.is_changed.result seen.value seen.is_ghost seen.apart w.is_changed.ensures w.if-look.true (flip w.is_changed.result c.if-look.value w.value-is c.if-not-is_changed.true)
      | else-look w ↦ absurd (cc (w.value-is, c.if-not-is_changed.true))
    ]

pub returns-else-inherits : goal.returns-else-inherits
returns-else-inherits g c ended =
    let p = g.P.GhostProtocol.ghosts c.args.protocol.now in
    let x = c.args.index.now in
    let h = g.L.Holdings.locks c.args.locks.now in
    let k = c.args.key in
    let seen = c.look.ensures in
    elim c.if-look.branch [
      | then-look w ↦
          ap not c.is_locked.ensures ∙ ap (λ b. b || not (is_locked h (Key k))) (sym c.if-inherits.false ∙ c.inherits.ensures)
          ∙ let_go p x h ended (entries c.args.active.now) k c.requires.counted c.look.result.value c.look.result.is_ghost w.is_changed.result seen.value seen.is_ghost seen.apart w.is_changed.ensures w.if-look.true (flip w.is_changed.result c.if-look.value w.value-is c.if-not-is_changed.true)
      | else-look w ↦ absurd (cc (w.value-is, c.if-not-is_changed.true))
    ]

pub returns-else-not-is_changed : goal.returns-else-not-is_changed
returns-else-not-is_changed g c ended =
    let p = g.P.GhostProtocol.ghosts c.args.protocol.now in
    let x = c.args.index.now in
    let h = g.L.Holdings.locks c.args.locks.now in
    let k = c.args.key in
    let seen = c.look.ensures in
    c.if-not-is_changed.false
    ∙ elim c.if-look.branch [
      | then-look w ↦
          has_one p x h ended (entries c.args.active.now) k c.requires.counted c.look.result.value c.look.result.is_ghost w.is_changed.result seen.value seen.is_ghost seen.apart w.is_changed.ensures (unflip w.is_changed.result c.if-look.value w.value-is c.if-not-is_changed.false)
      | else-look w ↦ no_ghost p x h ended (entries c.args.active.now) k c.requires.counted c.look.result.value c.look.result.is_ghost seen.value seen.is_ghost seen.apart w.if-look.false
    ]
