use Rattle.std.proofs.Common.{◌≡◌, map, drop, string_bytes}
use Rattle.toml.specs.View.{items_view}
use Rattle.kr_table.specs.Reading.{asked}
use Rattle.kr_table.proofs.making.asked.Given as goal

abbrev pub invariant-loop-clause : goal.invariant-loop-clause
invariant-loop-clause l = asked (map string_bytes l.modes) (items_view l.clauses) l.own ≡ asked (map string_bytes l.modes) (items_view (drop l.clause-index l.clauses)) l.own
