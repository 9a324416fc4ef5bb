use Rattle.std.proofs.Common.{arith, sym, ap, ◌∙◌, refl, subst}
use mathlib.Core.Bool.{false≢true}
use Rattle.kr_model.specs.Locks.{Locks, IsLocks}
use Rattle.kr_locks.specs.List.{locks_on}
use Rattle.kr_locks.proofs.Conflicts.{part_within, none_conflicts, one_conflicts}
use Rattle.kr_locks.proofs.list.ListHoldings.test.Goals as goal

pub loop-lock-init : goal.loop-lock-init
loop-lock-init g c = record {
  asked = record {
    laws = g.met.P.Protocol.lawful c.args.protocol.now;
    in_order = subst IsLocks c.self.view_is c.self.invariant;
    within = c.requires.held;
    few = c.requires.asked;
    converted = cc;
    on_name = c.locks_on-lock-items.ensures ∙ ap (λ (h : Locks). locks_on h c.args.name) (c.deref.ensures.value ∙ c.self.view_is);
  };
  none = refl;
}

pub conflicts-requires-clause-held : goal.conflicts-requires-clause-held
conflicts-requires-clause-held g c = part_within _ _ _ _ _ _ _ c.loop-lock.invariant.asked _ _ c.loop-lock-test.true

pub returns-then-conflicts : goal.returns-then-conflicts
returns-then-conflicts g c = (λ f. absurd (false≢true f), λ e. absurd (one_conflicts _ _ _ _ _ _ _ c.loop-lock.invariant.asked c.loop-lock.lock-index _ c.loop-lock-test.true (sym c.conflicts.ensures ∙ c.if-conflicts.true) e))

pub returns : goal.returns
returns g c = (λ yes. none_conflicts _ _ _ _ _ _ _ c.loop-lock.invariant.asked c.loop-lock.lock-index (omega arith) c.loop-lock.invariant.none, λ e. refl)
