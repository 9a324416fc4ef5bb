-- what was written, and what the modes that are left will write, is what all of them write
use Rattle.std.proofs.Common.{◌≡◌, ◌++◌, ◌==◌, true, drop, string_bytes}
use Rattle.kr_explain_text.proofs.Listed.{words_from}
use Rattle.kr_explain_text.proofs.lists.modes_chosen.Given as goal

abbrev pub invariant-loop-at : goal.invariant-loop-at
invariant-loop-at g l = let names = g.P.Protocol.names l.protocol in
    string_bytes l.out ++ words_from names l.is_quoted (l.at == 0) (drop l.at l.modes) ≡ words_from names l.is_quoted true l.modes
