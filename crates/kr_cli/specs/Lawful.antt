-- Each table that a word names is lawful, and its modes have names.
use Rattle.kr_model.specs.Protocol.{IsLawful}
use Rattle.kr_model.specs.ModeNames.{AreModeNames}
use Rattle.kr_model.proofs.Bundled.{kvl_lawful, kvl_update_lawful, im_lawful, range_key_lawful, kvl_named, im_named, range_key_named}
use Rattle.kr_cli.specs.declared.tables.AnyTable.{AnyTable}
use Rattle.kr_cli.specs.declared.tables.AnyTable.TheVariants.{Kvl, KvlUpdate, Im, RangeKey, Read}
use Rattle.kr_cli.specs.Tables.{table_of, names_of}

pub lawful_of : (t : AnyTable) → IsLawful (table_of t)
lawful_of Kvl = kvl_lawful
lawful_of KvlUpdate = kvl_update_lawful
lawful_of Im = im_lawful
lawful_of RangeKey = range_key_lawful
lawful_of (Read t) = t.lawful

pub named_of : (t : AnyTable) → AreModeNames (names_of t) (table_of t).count
named_of Kvl = kvl_named
named_of KvlUpdate = kvl_named
named_of Im = im_named
named_of RangeKey = range_key_named
named_of (Read t) = t.named
