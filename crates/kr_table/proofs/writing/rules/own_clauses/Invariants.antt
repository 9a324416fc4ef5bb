use Rattle.std.proofs.Common.{◌≡◌, ◌+◌, ◌++◌, ◌∷◌, map, drop, string_bytes, codes}
use Rattle.toml.specs.View.{view}
use Rattle.kr_table.specs.Writing.{own_list}
use Rattle.kr_table.proofs.writing.rules.own_clauses.Given as goal

abbrev pub invariant-loop-i : goal.invariant-loop-i
invariant-loop-i l = map view l.clauses.items ++ own_list (map string_bytes l.names) (map string_bytes (drop l.i l.names)) (drop (l.i + 1) l.requests) ≡ own_list (map string_bytes l.names) (codes "none" ∷ map string_bytes l.names) l.requests
