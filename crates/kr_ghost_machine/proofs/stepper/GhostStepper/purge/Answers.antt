use Rattle.std.proofs.Common.{◌∙◌, ap, subst, List, Result, Ok, Err, IfOk, IsTrue}
use Rattle.kr_txn.specs.Standings.{entries}
use Rattle.kr_ghost.specs.Step.{may_purge}
use Rattle.kr_txn.specs.declared.Standing.{Standing}
use Rattle.kr_ghost_machine.specs.Machine.{shown}
use Rattle.kr_ghost_machine.specs.Memory.{purge_may_lack_memory}
use Rattle.kr_ghost_machine.proofs.stepper.GhostStepper.purge.Goals as goal

-- What is told of an answer that is `Ok` tells the same in other words.
in_words : {A E : Type 0} {P Q : A → Type 0} (r : Result A E) → ((a : A) → P a → Q a) → IfOk r P → IfOk r Q
in_words (Ok a) same told = same a told
in_words (Err e) same told = tt

pub returns-clause-purged : goal.returns-clause-purged
returns-clause-purged g c =
    let x = c.self.inside in
    in_words c.purge.result (λ b told.
    told x.ended.numbers
    ∙ ap (λ xs. may_purge (g.P.GhostProtocol.ghosts x.protocol) (shown x.index (g.L.Holdings.locks x.locks) x.ended.numbers (entries xs)) c.args.key) c.deref.ensures.value
    ∙ ap (λ v. may_purge (g.P.GhostProtocol.ghosts v.protocol) v.state c.args.key) c.self.view_is) c.purge.ensures.purged

pub returns-clause-memory : goal.returns-clause-memory
returns-clause-memory g c err =
    let x = c.self.inside in
    let p = g.P.GhostProtocol.ghosts x.protocol in
    subst (λ v. IsTrue (purge_may_lack_memory (g.P.GhostProtocol.ghosts v.protocol) v.state c.args.key)) c.self.view_is
    (subst (λ (xs : List Standing). IsTrue (purge_may_lack_memory p (shown x.index (g.L.Holdings.locks x.locks) x.ended.numbers (entries xs)) c.args.key)) c.deref.ensures.value (c.purge.ensures.memory err x.ended.numbers))
