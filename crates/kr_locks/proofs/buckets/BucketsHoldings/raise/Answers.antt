use Rattle.std.proofs.Common.{◌≡◌, ◌≤◌, [], ap, sym, ◌∙◌, subst}
use Rattle.std.specs.Prelude.{IfNone, IfSome, unwrap_or}
use Rattle.std.specs.FinMap.{find}
use Rattle.std.specs.Ordering.{nat_cmp}
use Rattle.kr_model.specs.Locks.{Locks, own, keep, keep_or_drop}
use Rattle.kr_model.proofs.Keep.{keep_some, kept_mode}
use Rattle.kr_locks.specs.Buckets.{holders_at, locks_of}
use Rattle.kr_locks.proofs.NameLaws.{find-locks_of}
use Rattle.kr_locks.proofs.buckets.BucketsHoldings.raise.Goals as goal

pub returns-in_ok-raise_new-in-None-clause-was : goal.returns-in_ok-raise_new-in-None-clause-was
returns-in_ok-raise_new-in-None-clause-was g c =
    let es = c.self.inside.names.entries in
    let none : holders_at es c.args.name ≡ [] = subst (λ o. IfNone o (holders_at es c.args.name ≡ [])) c.in-None.is c.in_ok-there.ensures.absent in
    sym (ap (λ o. unwrap_or o 0) (find-locks_of es c.self.invariant.0 c.args.name c.args.txn ∙ ap (find nat_cmp c.args.txn) none)) ∙ ap (λ (h : Locks). own h c.args.txn c.args.name) c.self.view_is

pub returns-in_ok-raise_new-in-None-clause-ok : goal.returns-in_ok-raise_new-in-None-clause-ok
returns-in_ok-raise_new-in-None-clause-ok g c =
    let p = g.P.Protocol.table c.args.protocol.now in
    let es = c.self.inside.names.entries in
    let same : c.raise_there.new.names.entries ≡ es = subst (λ o. IfNone o (c.raise_there.new.names.entries ≡ es)) c.in-None.is c.in_ok-there.ensures.same in
    c.in_ok-raise_new-in-None.ensures.ok
    ∙ ap (λ x. keep (locks_of x) c.args.txn c.args.name c.args.mode) same
    ∙ sym (keep_some (locks_of es) c.args.txn c.args.name c.args.mode c.requires.asked.0)
    ∙ ap (λ (h : Locks). keep_or_drop h c.args.txn c.args.name c.args.mode) c.self.view_is
    ∙ ap (keep_or_drop c.args.self.now c.args.txn c.args.name) (sym ((g.met.P.Protocol.lawful c.args.protocol.now).convert-none_held c.args.mode c.requires.asked.1))

pub returns-in-Some-clause-ok : goal.returns-in-Some-clause-ok
returns-in-Some-clause-ok g c =
    let p = g.P.Protocol.table c.args.protocol.now in
    let es = c.self.inside.names.entries in
    let was = c.in-Some.was in
    let new = locks_of c.raise_there.new.names.entries in
    let raised : new ≡ keep (locks_of es) c.args.txn c.args.name (p.convert was c.args.mode) = subst (λ o. IfSome o (λ w. new ≡ keep (locks_of es) c.args.txn c.args.name (p.convert w c.args.mode))) c.in-Some.is c.in_ok-there.ensures.raised in
    let is : was ≡ own (locks_of es) c.args.txn c.args.name = subst (λ o. IfSome o (λ w. w ≡ own (locks_of es) c.args.txn c.args.name)) c.in-Some.is c.in_ok-there.ensures.was in
    let le : was ≤ p.count = rw (is, c.self.view_is) (c.requires.held c.args.txn c.args.name) in
    raised
    ∙ sym (keep_some (locks_of es) c.args.txn c.args.name (p.convert was c.args.mode) (let mode = kept_mode p was c.args.mode (g.met.P.Protocol.lawful c.args.protocol.now) le c.requires.asked.0 c.requires.asked.1 in mode.some))
    ∙ ap (λ (h : Locks). keep_or_drop h c.args.txn c.args.name (p.convert was c.args.mode)) c.self.view_is
