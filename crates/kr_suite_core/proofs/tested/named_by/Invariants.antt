use Rattle.std.proofs.Common.{All}
use Rattle.kr_suite_core.specs.Tried.{IsNamed}
use Rattle.kr_suite_core.proofs.tested.named_by.Given as goal

-- the script tells those apart that it names so far
abbrev pub invariant-loop-number : goal.invariant-loop-number
invariant-loop-number g l = All (IsNamed (g.P.IndexProtocol.index l.protocol) l.part.opening.items l.part.events.items) l.named.items
