use Rattle.kr_model.specs.declared.Name.TheVariants.{Key}
use Rattle.kr_trace_follow.proofs.Notes.{last_next}
use Rattle.kr_trace_follow.proofs.since.last_for.Goals as goal

pub loop-i-preserved : goal.loop-i-preserved
loop-i-preserved c = let next = last_next c.args.notes.now c.loop-i.i (Key 0, 0) c.args.name c.loop-i-test.true in record { so_far = cc }
