-- the entries so far are written
use Rattle.std.proofs.Common.{◌≡◌, flat_map, take, string_bytes}
use Rattle.kr_relax_text.specs.Unused.{entry_word}
use Rattle.kr_relax_text.proofs.unused.members_text.Given as goal

abbrev pub invariant-loop-entry : goal.invariant-loop-entry
invariant-loop-entry g l = string_bytes l.out ≡ flat_map (entry_word (g.P.Protocol.names l.protocol) l.group) (take l.entry-index l.entries)
