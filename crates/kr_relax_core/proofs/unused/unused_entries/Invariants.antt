use Rattle.std.proofs.Common.{take}
use Rattle.kr_relax_core.specs.Selects.{Selects}
use Rattle.kr_relax_core.specs.Unused.{IsUnused}
use Rattle.kr_relax_core.proofs.unused.unused_entries.Given as goal

-- of the entries so far, the list has those that are unused
abbrev pub invariant-loop-at : goal.invariant-loop-at
invariant-loop-at g l = Selects (IsUnused (g.P.IndexProtocol.index l.protocol)) (take l.at l.entries.items) l.list.items
