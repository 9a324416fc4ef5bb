-- What the tables that words name are.
use Rattle.std.specs.Prelude.{ℕ, List}
use Rattle.kr_model.specs.Protocol.{Protocol}
use Rattle.kr_model.specs.ModeNames.{kvl_names, im_names, range_key_names}
use Rattle.kr_model.specs.Kvl.{kvl}
use Rattle.kr_model.specs.KvlUpdate.{kvl_update}
use Rattle.kr_model.specs.Im.{im}
use Rattle.kr_model.specs.RangeKey.{range_key}
use Rattle.kr_table.specs.Tables.{protocol_of}
use Rattle.kr_table.specs.Shown.{data_of}
use Rattle.kr_cli.specs.declared.tables.AnyTable.{AnyTable}
use Rattle.kr_cli.specs.declared.tables.AnyTable.TheVariants.{Kvl, KvlUpdate, Im, RangeKey, Read}

-- The protocols that a table is.
abbrev pub table_of : AnyTable → Protocol
table_of Kvl = kvl
table_of KvlUpdate = kvl_update
table_of Im = im
table_of RangeKey = range_key
table_of (Read t) = protocol_of (data_of t.parts)

-- The names of its modes.
abbrev pub names_of : AnyTable → List (List ℕ)
names_of Kvl = kvl_names
names_of KvlUpdate = kvl_names
names_of Im = im_names
names_of RangeKey = range_key_names
names_of (Read t) = (data_of t.parts).modes.names
