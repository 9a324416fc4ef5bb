use Rattle.std.proofs.Common.{◌≡◌, ◌++◌, [], map, drop, string_bytes}
use Rattle.toml.specs.View.{items_view}
use Rattle.kr_table.specs.DocumentFaults.{mode_faults}
use Rattle.kr_table.specs.Members.{names_of}
use Rattle.kr_table.proofs.walk.modes.modes_of.Given as goal

abbrev pub invariant-loop-i : goal.invariant-loop-i
invariant-loop-i l = record {
  faults : mode_faults 0 [] (items_view l.list) ≡ mode_faults l.i (map string_bytes l.modes.items) (items_view (drop l.i l.list));
  names : names_of (items_view l.list) ≡ map string_bytes l.modes.items ++ names_of (items_view (drop l.i l.list));
}
