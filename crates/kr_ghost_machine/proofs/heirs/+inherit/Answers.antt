use Rattle.std.proofs.Common.{◌≡◌, List, refl, ap, sym, ◌∙◌, subst, ⊎_elim, arith}
use Rattle.std.proofs.lemmas.Bool.{cases_eq}
use Rattle.kr_model.specs.declared.Name.TheVariants.{Key}
use Rattle.kr_model.specs.Locks.{Locks, keep_or_drop, own}
use Rattle.kr_model.proofs.Keep.{keep_back}
use Rattle.kr_model.proofs.Requests.{AreLocks}
use Rattle.kr_txn.specs.declared.Standing.{Standing}
use Rattle.kr_txn.specs.Standings.{IsInOrder, active_of, entries}
use Rattle.kr_ghost.specs.Protocol.{heir_of}
use Rattle.kr_ghost_machine.specs.Heirs.{AllInherit, IsHeld, inherited}
use Rattle.kr_ghost_machine.proofs.Handed.{first_inherits, held_before, told_ok}
use Rattle.kr_ghost_machine.proofs.Inherited.{kept_locks}
use Rattle.kr_ghost_machine.proofs.Listed.{first_apart}
use Rattle.kr_ghost_machine.proofs.heirs.+inherit.Goals as goal

pub returns-in-Ok-clause-ok : goal.returns-in-Ok-clause-ok
returns-in-Ok-clause-ok g i c =
    let p = g.P.Protocol.table c.args.protocol.now in
    let heir = heir_of (g.P.GhostProtocol.ghosts c.args.protocol.now).purges in
    let h = g.L.Holdings.locks c.args.locks.now in
    let l = g.L.Holdings.locks c.take_on.new.locks in
    let m = g.L.Holdings.locks c.inherit.new.locks in
    let x = c.in-Some.first.now in
    let xs = c.in-Some.others.now in
    let k = c.args.key in
    let n = c.args.next in
    let items = c.in-Some.ensures.cases.0 in
    let apart = first_apart x xs (subst IsInOrder items c.requires.order) in
    let kept = told_ok c.keep.result (c.keep.ensures.none_takes_no_memory refl) c.keep.ensures.ok in
    subst (λ (z : Locks). AllInherit p heir h z k n (entries c.args.heirs.now)) (sym kept)
    (subst (λ (ys : List Standing). AllInherit p heir h (keep_or_drop m x.txn (Key k) 0) k n (entries ys)) (sym items)
    (first_inherits p heir h l m k n x.txn (active_of x) (entries xs) c.requires.apart apart c.in_ok-was.ensures.ok c.in-Ok.ensures.ok))

pub returns-in-Ok-clause-locks : goal.returns-in-Ok-clause-locks
returns-in-Ok-clause-locks g i c =
    let p = g.P.Protocol.table c.args.protocol.now in
    let kept = told_ok c.keep.result (c.keep.ensures.none_takes_no_memory refl) c.keep.ensures.ok in
    subst (AreLocks p) (sym kept) (kept_locks p (g.L.Holdings.locks c.inherit.new.locks) c.in-Some.first.now.txn (Key c.args.key) 0 (omega arith) c.inherit.ensures.locks)

pub returns-in-Err-clause-err : goal.returns-in-Err-clause-err
returns-in-Err-clause-err g i c =
    let p = g.P.Protocol.table c.args.protocol.now in
    let q = g.P.GhostProtocol.ghosts c.args.protocol.now in
    let h = g.L.Holdings.locks c.args.locks.now in
    let x = c.in-Some.first.now in
    let t = x.txn in
    let n = c.args.next in
    let w = c.in_ok-was.was' in
    let mode = inherited p (heir_of q.purges) h c.args.key n x.rolling t in
    let same : g.L.Holdings.locks c.inherit.new.locks ≡ g.L.Holdings.locks c.take_on.new.locks = c.in-Err.ensures.err in
    let is_ok = ⊎_elim c.keep-in-Err.ensures.none_takes_no_memory (λ some. c.keep-in-Err.ensures.held_takes_no_memory (λ none. c.in_ok-was.ensures.held some (ap (λ z. own z t n) (sym same) ∙ none))) (cases_eq w 0) in
    told_ok c.keep-in-Err.result is_ok c.keep-in-Err.ensures.ok ∙ ap (λ (z : Locks). keep_or_drop z t n w) (same ∙ c.in_ok-was.ensures.ok)
    ∙ ap (keep_or_drop (keep_or_drop h t n mode) t n) c.in_ok-was.ensures.was ∙ keep_back h t n mode c.requires.locks.rise c.requires.locks.no_none

pub returns-in-Err-clause-locks : goal.returns-in-Err-clause-locks
returns-in-Err-clause-locks g i c = subst (AreLocks (g.P.Protocol.table c.args.protocol.now)) (sym (returns-in-Err-clause-err g i c)) c.requires.locks

pub returns-in-Err-clause-memory : goal.returns-in-Err-clause-memory
returns-in-Err-clause-memory g i c is =
    let p = g.P.Protocol.table c.args.protocol.now in
    let q = g.P.GhostProtocol.ghosts c.args.protocol.now in
    let h = g.L.Holdings.locks c.args.locks.now in
    let x = c.in-Some.first.now in
    let n = c.args.next in
    let mode = inherited p (heir_of q.purges) h c.args.key n x.rolling x.txn in
    held_before h x.txn n (Key c.args.key) mode c.requires.apart (subst (λ (z : Locks). IsHeld z (Key c.args.key)) c.in_ok-was.ensures.ok (c.in-Err.ensures.memory refl))
