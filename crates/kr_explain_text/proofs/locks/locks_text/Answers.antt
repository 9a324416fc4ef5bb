use Rattle.std.proofs.Common.{string_bytes}
use Rattle.kr_model.specs.declared.Name.TheVariants.{Key}
use Rattle.kr_explain_text.proofs.Rowed.{lock_more, locks_all}
use Rattle.kr_explain_text.proofs.locks.locks_text.Goals as goal

pub loop-lock-preserved : goal.loop-lock-preserved
loop-lock-preserved g c = lock_more (g.P.Protocol.names c.args.protocol.now) c.args.locks.now c.loop-lock.lock-index ((Key 0, 0), 0) c.loop-lock.before (string_bytes c.loop-lock.out) (string_bytes c.write_lead.new.out) (string_bytes c.write_holder.new.out) _ c.loop-lock-test.true c.in_ok-write_lead.ensures c.in_ok-write_holder.ensures c.loop-lock.invariant

pub returns : goal.returns
returns g c = locks_all (g.P.Protocol.names c.args.protocol.now) c.args.locks.now c.loop-lock.lock-index c.loop-lock.before (string_bytes c.loop-lock.out) c.loop-lock-test.false c.loop-lock.invariant
