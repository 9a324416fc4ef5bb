use Rattle.std.proofs.Common.{arith}
use Rattle.std.proofs.lemmas.Grind.{common_steps}
use Rattle.kr_records.proofs.Copies.{copied}
use Rattle.kr_records.proofs.closing.copies.Goals as goal

pub loop-place-preserved : goal.loop-place-preserved
loop-place-preserved g c = copied c.args.view.now c.loop-place.entries.items c.push.new.self.items c.loop-place.place _ c.in_ok-copy.copy c.loop-place.invariant c.entry_at.ensures c.in_ok-copy.ensures c.in_ok-push.ensures.items

pub returns : goal.returns
returns g c = grind (arith, common_steps)
