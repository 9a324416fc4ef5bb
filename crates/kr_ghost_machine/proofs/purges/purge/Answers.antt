use Rattle.std.proofs.Common.{◌≡◌, ℕ, suc, ◌≤◌, Bool, true, false, cond, [], ◌∷◌, ap, sym, refl, ◌∙◌, arith}
use Rattle.std.proofs.lemmas.Bool.Decides.{nat_tests}
use Rattle.std.specs.Prelude.{if◌then◌else◌, nat_le}
use Rattle.kr_model.specs.declared.Name.TheVariants.{Key}
use Rattle.kr_model.specs.Map.{Map, at}
use Rattle.kr_ghost.specs.State.{named}
use Rattle.kr_txn.specs.Standings.{entries}
use Rattle.kr_ghost.specs.Step.{without_ghost}
use Rattle.kr_ghost_machine.specs.Machine.{shown}
use Rattle.kr_ghost_machine.proofs.Purgeable.{has_none, is_among, left_locked, may_lack, purged_as, somebody}
use Rattle.kr_ghost_machine.proofs.purges.purge.Goals as goal
use Rattle.kr_ghost_machine.proofs.purges.purge.Goals.{else-inherits, then-inherits+in_ok-inherit_all}

pub returns-then-not-may_purge-clause-state : goal.returns-then-not-may_purge-clause-state
returns-then-not-may_purge-clause-state g c ended =
    let p = g.P.GhostProtocol.ghosts c.args.protocol.now in
    let s = shown c.args.index.now (g.L.Holdings.locks c.args.locks.now) ended (entries c.args.active.now) in
    ap (λ b. if b then without_ghost p s c.args.key else s) (sym c.if-not-may_purge.true ∙ c.may_purge.ensures ended)

pub purge-requires-clause-is_ghost : goal.purge-requires-clause-is_ghost
purge-requires-clause-is_ghost g c =
    is_among (g.P.GhostProtocol.ghosts c.args.protocol.now) c.args.index.now (g.L.Holdings.locks c.args.locks.now) [] (entries c.args.active.now) c.args.key c.requires.counted (sym (c.may_purge.ensures []) ∙ c.if-not-may_purge.false)

pub purge-requires-clause-unchanged : goal.purge-requires-clause-unchanged
purge-requires-clause-unchanged g c =
    has_none (g.P.GhostProtocol.ghosts c.args.protocol.now) c.args.index.now (g.L.Holdings.locks c.args.locks.now) [] (entries c.args.active.now) c.args.key c.requires.counted (sym (c.may_purge.ensures []) ∙ c.if-not-may_purge.false)

le_of : (a b : ℕ) → nat_le a b ≡ true → a ≤ b
le_of a b e = grind (arith, nat_tests)

-- The first key from c on isn't below c.
at_from : (m : Map) (c x : ℕ) → at m c ≡ Key x → c ≤ x
at_from [] c x is = absurd (cc is)
at_from (e ∷ m) c x is = by (nat_le c e.0) refl is (λ h. at_from m c x h)
  where
    by : (b : Bool) → nat_le c e.0 ≡ b → cond b (Key e.0) (at m c) ≡ Key x → (at m c ≡ Key x → c ≤ x) → c ≤ x
    by true t h more = let same : e.0 ≡ x = cc in let le = le_of c e.0 t in omega (arith, same, le)
    by false t h more = more h

pub inherit_all-requires-clause-apart : goal.inherit_all-requires-clause-apart
inherit_all-requires-clause-apart g c is =
    let e = named c.args.index.now.map c.args.index.now.ghosts in
    let le = at_from e (suc c.args.key) c.args.key (sym c.name_after-next.ensures ∙ is) in
    absurd (omega (arith, le))

pub returns-clause-state : goal.returns-clause-state
returns-clause-state g c ended =
    let p = g.P.GhostProtocol.ghosts c.args.protocol.now in
    let table = g.P.Protocol.table c.args.protocol.now in
    let x = c.args.index.now in
    let h = g.L.Holdings.locks c.args.locks.now in
    let es = entries c.args.active.now in
    let s = shown x h ended es in
    let k = c.args.key in
    let n = c.name_after-next.result in
    let l = g.L.Holdings.locks c.if-inherits.locks in
    purged_as p x h ended es k c.requires.counted table c.purge.new.self l n (g.met.P.GhostProtocol.tables c.args.protocol.now) (sym (c.may_purge.ensures ended) ∙ c.if-not-may_purge.false) c.purge.ensures.map c.purge.ensures.ghosts (c.name_after-next.ensures ∙ sym c.purge.ensures.next)
    (elim c.if-inherits.branch [
      | then-inherits+in_ok-inherit_all w ↦ ap (λ z. g.L.Holdings.locks z) w.locks-is ∙ w.in_ok-inherit_all.ensures.ok x.map ended
      | else-inherits w ↦ ap (λ z. g.L.Holdings.locks z) w.locks-is ∙ sym (left_locked table p.purges s.state k n (sym c.inherits.ensures ∙ w.if-inherits.false))
    ])

pub returns-in_err-inherit_all-clause-memory : goal.returns-in_err-inherit_all-clause-memory
returns-in_err-inherit_all-clause-memory g c is ended =
    let p = g.P.GhostProtocol.ghosts c.args.protocol.now in
    let h = g.L.Holdings.locks c.args.locks.now in
    let held = c.in_err-inherit_all.ensures.memory refl in
    may_lack p (shown c.args.index.now h ended (entries c.args.active.now)) c.args.key (sym (c.may_purge.ensures ended) ∙ c.if-not-may_purge.false) (sym c.inherits.ensures ∙ c.if-inherits.true) (somebody h (Key c.args.key) held.0 held.1)
