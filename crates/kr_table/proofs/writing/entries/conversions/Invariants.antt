use Rattle.std.proofs.Common.{◌≡◌, ◌*◌, map, drop, string_bytes, length}
use Rattle.toml.specs.Data.{no_members}
use Rattle.toml.specs.View.{members_view}
use Rattle.kr_table.specs.Writing.{with_conversion}
use Rattle.kr_table.proofs.writing.entries.conversions.Given as goal

abbrev pub invariant-loop-held : goal.invariant-loop-held
invariant-loop-held l = record {
  room : length l.rest ≡ length (drop l.held-index l.names) * length l.names;
  entries : with_conversion (map string_bytes l.names) (map string_bytes (drop l.held-index l.names)) l.rest (members_view l.entries.entries) ≡ with_conversion (map string_bytes l.names) (map string_bytes l.names) l.matrix no_members;
}
