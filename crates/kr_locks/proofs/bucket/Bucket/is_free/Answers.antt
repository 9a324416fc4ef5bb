use Rattle.std.proofs.Common.{subst, sym, ◌∙◌, refl, ◌≡◌, filter, []}
use mathlib.Core.Bool.{false≢true}
use Rattle.kr_locks.specs.Buckets.{Holders, holder_conflicts, HasModes}
use Rattle.kr_locks.proofs.Masks.{free_by_mask, some_conflicts}
use Rattle.kr_locks.proofs.bucket.Bucket.is_free.Goals as goal

pub returns-then-row-self-eq0 : goal.returns-then-row-self-eq0
returns-then-row-self-eq0 g c = (
  λ _. free_by_mask (g.P.Protocol.table c.args.protocol.now) c.args.txn c.args.mode c.self.inside.mask c.row.result c.args.self.now (g.met.P.Protocol.lawful c.args.protocol.now) c.requires.asked c.row.ensures (subst (HasModes c.self.inside.mask) c.self.view_is c.self.invariant.1) c.requires.held c.if-row-self-eq0.true,
  λ _. refl,
)

pub returns-then-conflicts : goal.returns-then-conflicts
returns-then-conflicts g c = (
  λ f. absurd (false≢true f),
  λ e. absurd (some_conflicts (holder_conflicts (g.P.Protocol.table c.args.protocol.now) c.args.txn c.args.mode) c.as_slice-holder-items.result.now c.loop-holder.holder-index _ c.loop-holder-test.true (sym c.conflicts.ensures ∙ c.if-conflicts.true) (subst (λ (hs : Holders). filter (holder_conflicts (g.P.Protocol.table c.args.protocol.now) c.args.txn c.args.mode) hs ≡ []) (sym (c.as_slice-holder-items.ensures ∙ c.self.view_is)) e)),
)
