-- What the tables are that bytes are, with ghosts and without.
use Rattle.std.specs.Prelude.{ℕ, List}
use Rattle.kr_kinds.specs.Kinds.{IndexProtocol, Gone, Leaves}
use Rattle.kr_cli.specs.declared.named.Named.{Named}
use Rattle.kr_cli.specs.declared.named.Named.TheVariants.{Table, Ghosts}
use Rattle.kr_cli.specs.Tables as gone
use Rattle.kr_cli.specs.GhostTables as leaving

-- The protocol that a table is, of its kind.
abbrev pub index_of : Named → IndexProtocol
index_of (Table t) = Gone (gone.table_of t)
index_of (Ghosts t) = Leaves (leaving.ghosts_of t)

-- The names of its modes.
abbrev pub names_of : Named → List (List ℕ)
names_of (Table t) = gone.names_of t
names_of (Ghosts t) = leaving.names_of t
