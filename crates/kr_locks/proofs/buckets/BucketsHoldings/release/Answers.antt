use Rattle.std.proofs.Common.{◌≡◌, ap, sym, ◌∙◌, subst}
use Rattle.kr_model.specs.Locks.{Locks, release}
use Rattle.kr_locks.specs.Buckets.{locks_of, forget_all}
use Rattle.kr_locks.specs.Noted.{noted, AreNoted}
use Rattle.kr_locks.proofs.BucketLaws.{all_forgotten}
use Rattle.kr_locks.proofs.NotedLaws.{AreNoted-release}
use Rattle.kr_locks.proofs.buckets.BucketsHoldings.release.Goals as goal

pub invariant_of-self : goal.invariant_of-self
invariant_of-self c =
    let es = c.self.inside.names.entries in
    let all : forget_all (locks_of es) c.args.txn (noted c.self.inside.held c.args.txn) ≡ release (locks_of es) c.args.txn = all_forgotten es c.args.txn (noted c.self.inside.held c.args.txn) (λ n some. c.self.invariant.1 n c.args.txn some) in
    let released = c.drop_locks.ensures.locks ∙ ap (forget_all (locks_of es) c.args.txn) (c.deref.ensures.value ∙ c.in-Some.ensures.some) ∙ all in
    (c.drop_locks.ensures.in_order, subst (AreNoted c.take_noted.new.held) (sym released) (AreNoted-release c.self.inside.held c.take_noted.new.held (locks_of es) c.args.txn c.self.invariant.1 c.take_noted.ensures.kept))

pub returns-in-Some : goal.returns-in-Some
returns-in-Some c =
    let es = c.self.inside.names.entries in
    let all : forget_all (locks_of es) c.args.txn (noted c.self.inside.held c.args.txn) ≡ release (locks_of es) c.args.txn = all_forgotten es c.args.txn (noted c.self.inside.held c.args.txn) (λ n some. c.self.invariant.1 n c.args.txn some) in
    c.drop_locks.ensures.locks ∙ ap (forget_all (locks_of es) c.args.txn) (c.deref.ensures.value ∙ c.in-Some.ensures.some) ∙ all ∙ ap (λ (h : Locks). release h c.args.txn) c.self.view_is

pub returns-in_default : goal.returns-in_default
returns-in_default c =
    let es = c.self.inside.names.entries in
    let all : forget_all (locks_of es) c.args.txn (noted c.self.inside.held c.args.txn) ≡ release (locks_of es) c.args.txn = all_forgotten es c.args.txn (noted c.self.inside.held c.args.txn) (λ n some. c.self.invariant.1 n c.args.txn some) in
    sym (ap (forget_all (locks_of es) c.args.txn) c.in_default.ensures.none) ∙ all ∙ ap (λ (h : Locks). release h c.args.txn) c.self.view_is
