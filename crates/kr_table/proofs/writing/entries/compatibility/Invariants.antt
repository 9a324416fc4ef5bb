use Rattle.std.proofs.Common.{◌≡◌, ◌*◌, map, drop, string_bytes, length}
use Rattle.toml.specs.Data.{no_members}
use Rattle.toml.specs.View.{members_view}
use Rattle.kr_table.specs.Writing.{with_compatible}
use Rattle.kr_table.proofs.writing.entries.compatibility.Given as goal

abbrev pub invariant-loop-requested : goal.invariant-loop-requested
invariant-loop-requested l = record {
  room : length l.rest ≡ length (drop l.requested-index l.names) * length l.names;
  entries : with_compatible (map string_bytes l.names) (map string_bytes (drop l.requested-index l.names)) l.rest (members_view l.entries.entries) ≡ with_compatible (map string_bytes l.names) (map string_bytes l.names) l.matrix no_members;
}
