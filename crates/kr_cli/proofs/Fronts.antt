-- Known bytes that grew by a whole text.
use Rattle.std.proofs.Common.{ℕ, List, [], Option, sym, append-nil}
use Rattle.std.specs.Io.KnownBytes.{Appends}
use Rattle.kr_sink.specs.Puts.{AppendsFront}

-- bytes that grew by all of bs grew by a prefix of bs
pub front_whole : (a b : Option (List ℕ)) (bs : List ℕ) → Appends a b bs → AppendsFront a b bs
front_whole a b bs h = (bs, [], sym (append-nil bs), h)
