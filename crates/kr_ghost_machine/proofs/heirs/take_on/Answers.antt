use Rattle.std.proofs.Common.{◌≡◌, ◌≤◌, ◌∙◌, ap, sym, subst}
use Rattle.kr_model.specs.declared.Name.TheVariants.{Key}
use Rattle.kr_model.specs.Locks.{keep_or_drop, own}
use Rattle.kr_model.specs.Protocol.{Protocol}
use Rattle.kr_model.proofs.Requests.{AreLocks}
use Rattle.kr_ghost.specs.Protocol.{IsLawfulPurge, Inherit, heir_of}
use Rattle.kr_ghost_machine.specs.Heirs.{inherited}
use Rattle.kr_ghost_machine.proofs.Handed.{heirs_fit, inherited_within, kept_own, stays_held}
use Rattle.kr_ghost_machine.proofs.Inherited.{kept_locks, set_here}
use Rattle.kr_ghost_machine.proofs.heirs.take_on.Goals as goal

pub returns-then-standing-clause-ok : goal.returns-then-standing-clause-ok
returns-then-standing-clause-ok g c =
    let p = g.P.Protocol.table c.args.protocol.now in
    let heir = heir_of (g.P.GhostProtocol.ghosts c.args.protocol.now).purges in
    let h = g.L.Holdings.locks c.args.locks.now in
    let t = c.args.standing.now.txn in
    kept_own h t c.args.next c.requires.rise c.requires.no_none ∙ sym (ap (λ b. keep_or_drop h t c.args.next (inherited p heir h c.args.key c.args.next b t)) c.if-standing.true)

pub returns-clause-held : goal.returns-clause-held
returns-clause-held g c some none =
    let p = g.P.Protocol.table c.args.protocol.now in
    let q = g.P.GhostProtocol.ghosts c.args.protocol.now in
    let heir = heir_of q.purges in
    let lawful = g.met.P.GhostProtocol.lawful_ghosts c.args.protocol.now in
    let fit : IsLawfulPurge p (Inherit heir) = heirs_fit p q.purges (subst (λ (t : Protocol). IsLawfulPurge t q.purges) (g.met.P.GhostProtocol.tables c.args.protocol.now) lawful.purges) in
    let h = g.L.Holdings.locks c.args.locks.now in
    let t = c.args.standing.now.txn in
    let n = c.args.next in
    let mode : c.convert.result ≡ p.convert (own h t n) (heir (own h t (Key c.args.key))) = c.convert.ensures ∙ ap (λ z. p.convert z c.heir-mode.result) c.own-was.ensures ∙ ap (p.convert (own h t n)) (c.heir-mode.ensures ∙ ap heir c.own.ensures) in
    stays_held p (g.met.P.Protocol.lawful c.args.protocol.now) heir fit h c.args.key n t c.requires (λ is. some (c.own-was.ensures ∙ is))
    (sym mode ∙ sym (set_here h t n c.convert.result) ∙ ap (λ l. own l t n) (sym c.in_ok-keep.ensures.ok) ∙ none)

pub returns-clause-locks : goal.returns-clause-locks
returns-clause-locks g c =
    let p = g.P.Protocol.table c.args.protocol.now in
    let q = g.P.GhostProtocol.ghosts c.args.protocol.now in
    let heir = heir_of q.purges in
    let lawful = g.met.P.GhostProtocol.lawful_ghosts c.args.protocol.now in
    let fit : IsLawfulPurge p (Inherit heir) = heirs_fit p q.purges (subst (λ (t : Protocol). IsLawfulPurge t q.purges) (g.met.P.GhostProtocol.tables c.args.protocol.now) lawful.purges) in
    let h = g.L.Holdings.locks c.args.locks.now in
    let t = c.args.standing.now.txn in
    let n = c.args.next in
    let mode : c.convert.result ≡ p.convert (own h t n) (heir (own h t (Key c.args.key))) = c.convert.ensures ∙ ap (λ z. p.convert z c.heir-mode.result) c.own-was.ensures ∙ ap (p.convert (own h t n)) (c.heir-mode.ensures ∙ ap heir c.own.ensures) in
    subst (AreLocks p) (sym c.in_ok-keep.ensures.ok) (kept_locks p h t n c.convert.result (subst (λ z. z ≤ p.count) (sym mode) (inherited_within p (g.met.P.Protocol.lawful c.args.protocol.now) heir fit h c.args.key n t c.requires)) c.requires)
