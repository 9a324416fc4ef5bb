use Rattle.std.proofs.Common.{sym, subst, map, string_bytes, true}
use Rattle.toml.specs.View.{view}
use Rattle.kr_table.specs.Tables.{IsTable}
use Rattle.kr_table.specs.Reading.{table_of_parts}
use Rattle.kr_table.proofs.Laws.{matrix_sound}
use Rattle.kr_ghost_table.proofs.reading.made.Goals as goal

pub parts_of-requires-clause-matrix : goal.parts_of-requires-clause-matrix
parts_of-requires-clause-matrix c =
    matrix_sound (table_of_parts true (map string_bytes c.args.shape.names.items) (view c.args.shape.compatible.now) (view c.args.shape.convert.now) (view c.args.shape.rules.now)) c.requires.table

pub new-requires : goal.new-requires
new-requires c = subst IsTable (sym c.in_ok-parts.ensures) c.requires.table
