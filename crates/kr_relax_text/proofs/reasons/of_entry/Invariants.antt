-- those of the entry so far
use Rattle.std.proofs.Common.{◌≡◌, take}
use Rattle.kr_relax_text.specs.Reasons.{of_entry}
use Rattle.kr_relax_text.proofs.reasons.of_entry.Given as goal

abbrev pub invariant-loop-change : goal.invariant-loop-change
invariant-loop-change g l = l.list.items ≡ of_entry (g.P.Protocol.table l.protocol) (g.P.Protocol.names l.protocol) l.name (take l.change-index l.all)
