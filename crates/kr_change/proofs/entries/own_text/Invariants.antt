-- the own modes so far are written
use Rattle.std.proofs.Common.{◌≡◌, ◌++◌, string_bytes}
use Rattle.std.specs.List.{flat_map}
use Rattle.kr_model.specs.Covers.{count_up}
use Rattle.kr_change.specs.ChangeNames.{own_word}
use Rattle.kr_change.proofs.entries.own_text.Given as goal

abbrev pub invariant-loop-own : goal.invariant-loop-own
invariant-loop-own g l = string_bytes l.out ≡ l.head ++ flat_map (own_word (g.P.Protocol.names l.protocol) l.modes) (count_up 0 l.own)
