-- What the parts of a protocol table mean, in words.
use Rattle.std.specs.Prelude.{ℕ, List, codes}
use Rattle.kr_model.specs.declared.Cover.{Cover}
use Rattle.kr_model.specs.declared.Cover.TheVariants as cover
use Rattle.kr_model.specs.declared.Row.{Row}
use Rattle.kr_model.specs.declared.Row.TheVariants as row
use Rattle.kr_model.specs.declared.Side.{Side}
use Rattle.kr_model.specs.declared.Side.TheVariants as side

-- A side, seen from the row.
abbrev pub side_words : Side → List ℕ
side_words side.Current = codes "its key"
side_words side.Next = codes "the next key"

-- What a transaction must protect by a lock with a cover.
abbrev pub cover_words : Cover → List ℕ
cover_words cover.ReadKey = codes "a key that it read"
cover_words cover.ReadGap = codes "a gap that it read"
cover_words cover.InsertedKey = codes "a key that it inserted"
cover_words cover.DeletedGap = codes "a gap in which it deleted a key"
cover_words cover.UpdatedKey = codes "a key that it updated"

-- What a transaction does whose request for a row at a side is granted on a key.
abbrev pub deed_words : Row → Side → List ℕ
deed_words row.FetchHit s = codes "fetch that key"
deed_words row.FetchMiss s = codes "fetch in the gap below that key and find nothing"
deed_words row.ScanKey s = codes "scan that key"
deed_words row.ScanStop s = codes "end a scan in the gap below that key"
deed_words row.Insert side.Current = codes "insert that key"
deed_words row.Insert side.Next = codes "insert a key into the gap below that key"
deed_words row.Delete side.Current = codes "delete that key"
deed_words row.Delete side.Next = codes "delete the key before that key"
deed_words row.Update s = codes "update that key"
