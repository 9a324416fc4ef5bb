use Rattle.std.proofs.Common.{◌≡◌, Some}
use Rattle.std.specs.Prelude.{encode_utf8_all, string_bytes}
use Rattle.std.specs.Str.{chars}
use Rattle.kr_view_scenes.specs.Escape.{escaped, unescaped}
use Rattle.kr_view_scenes.proofs.text.escape.Given as goal

-- the page is what has been taken of the text, escaped, and reads as that
abbrev pub invariant-loop-c : goal.invariant-loop-c
invariant-loop-c l = record { written : string_bytes l.page ≡ escaped (encode_utf8_all l.yielded); reads_back : unescaped (chars (string_bytes l.page)) ≡ Some l.yielded }
