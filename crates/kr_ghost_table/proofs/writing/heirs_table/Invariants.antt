use Rattle.std.proofs.Common.{◌≡◌, map, drop, string_bytes}
use Rattle.toml.specs.Data.{no_members}
use Rattle.toml.specs.View.{members_view}
use Rattle.kr_table.specs.Writing.{with_pairs}
use Rattle.kr_ghost_table.proofs.writing.heirs_table.Given as goal

abbrev pub invariant-loop-i : goal.invariant-loop-i
invariant-loop-i l = with_pairs (map string_bytes l.names) (map string_bytes (drop l.i l.names)) (drop l.i l.heirs) (members_view l.entries.entries) ≡ with_pairs (map string_bytes l.names) (map string_bytes l.names) l.heirs no_members
