use Rattle.std.proofs.Common.{arith}
use Rattle.std.proofs.lemmas.Grind.{common_steps}
use Rattle.std.proofs.Common.{append_assoc}
use Rattle.kr_view_scenes.proofs.words.write_reply.Goals as goal

pub returns-in-Deleted : goal.returns-in-Deleted
returns-in-Deleted c = rw c.in-Deleted.is (rw append_assoc at c.write_numbered-in-Deleted.ensures)

pub returns-in-Absent : goal.returns-in-Absent
returns-in-Absent c = grind (arith, common_steps)
