-- what is written, and then the text of the relaxations that are left, is the whole
use Rattle.std.proofs.Common.{◌≡◌, ◌+◌, ◌++◌, drop, string_bytes}
use Rattle.kr_relax_text.specs.Whole.{text_from}
use Rattle.kr_relax_text.proofs.whole.numbered_text.Given as goal

abbrev pub invariant-loop-at : goal.invariant-loop-at
invariant-loop-at g l =
    string_bytes l.out ++ text_from (g.P.Protocol.table l.protocol) (g.P.Protocol.names l.protocol) (l.at + 1) (drop l.at l.list)
    ≡ text_from (g.P.Protocol.table l.protocol) (g.P.Protocol.names l.protocol) 1 l.list
