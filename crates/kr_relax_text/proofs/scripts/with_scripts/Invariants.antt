-- the relaxations so far have their scripts
use Rattle.std.proofs.Common.{take}
use Rattle.kr_relax_text.specs.Scripts.{AreShown}
use Rattle.kr_relax_text.proofs.scripts.with_scripts.Given as goal

abbrev pub invariant-loop-relaxed : goal.invariant-loop-relaxed
invariant-loop-relaxed g l = AreShown (g.P.IndexProtocol.index l.protocol) (take l.relaxed-index l.relaxations) l.list.items
