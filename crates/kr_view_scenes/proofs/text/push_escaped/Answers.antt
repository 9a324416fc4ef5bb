use Rattle.std.specs.Prelude.{codes, string_bytes, refl, ℕ, List}
use Rattle.std.specs.Str.{chars}
use Rattle.std.proofs.Common.{◌≡◌, Some, ◌∷◌, [], arith}
use Rattle.std.proofs.Math.Utf8.{encode}
use Rattle.std.proofs.lemmas.Str.{IsUtf8-string_bytes}
use Rattle.kr_view_scenes.specs.Escape.{unescaped}
use Rattle.kr_view_scenes.proofs.Escaped.{entity, stays}
use Rattle.kr_view_scenes.proofs.Escapes.{pushed, plain}
use Rattle.kr_view_scenes.proofs.text.push_escaped.Goals as goal

-- an entity that reads as one character reads as another that is the same
same : (piece : List ℕ) (c d : ℕ) → c ≡ d → unescaped (chars piece) ≡ Some (d ∷ []) → unescaped (chars piece) ≡ Some (c ∷ [])
same piece c d e reads = cc

reads_lt : unescaped (chars (codes "&lt;")) ≡ Some (60 ∷ [])
unfolding chars
reads_lt = refl

pub returns-in-60-clause-reads_back : goal.returns-in-60-clause-reads_back
returns-in-60-clause-reads_back c = pushed c.push_str.result (string_bytes c.args.page.now) (codes "&lt;") (string_bytes c.push_str.new.self) c.args.c (IsUtf8-string_bytes c.args.page.now) (same (codes "&lt;") c.args.c 60 c.in-60.is reads_lt) c.push_str.ensures.bytes

reads_gt : unescaped (chars (codes "&gt;")) ≡ Some (62 ∷ [])
unfolding chars
reads_gt = refl

pub returns-in-62-clause-reads_back : goal.returns-in-62-clause-reads_back
returns-in-62-clause-reads_back c = pushed c.push_str-in-62.result (string_bytes c.args.page.now) (codes "&gt;") (string_bytes c.push_str-in-62.new.self) c.args.c (IsUtf8-string_bytes c.args.page.now) (same (codes "&gt;") c.args.c 62 c.in-62.is reads_gt) c.push_str-in-62.ensures.bytes

reads_amp : unescaped (chars (codes "&amp;")) ≡ Some (38 ∷ [])
unfolding chars
reads_amp = refl

pub returns-in-38-clause-reads_back : goal.returns-in-38-clause-reads_back
returns-in-38-clause-reads_back c = pushed c.push_str-in-38.result (string_bytes c.args.page.now) (codes "&amp;") (string_bytes c.push_str-in-38.new.self) c.args.c (IsUtf8-string_bytes c.args.page.now) (same (codes "&amp;") c.args.c 38 c.in-38.is reads_amp) c.push_str-in-38.ensures.bytes

reads_quot : unescaped (chars (codes "&quot;")) ≡ Some (34 ∷ [])
unfolding chars
reads_quot = refl

pub returns-in-34-clause-reads_back : goal.returns-in-34-clause-reads_back
returns-in-34-clause-reads_back c = pushed c.push_str-in-34.result (string_bytes c.args.page.now) (codes "&quot;") (string_bytes c.push_str-in-34.new.self) c.args.c (IsUtf8-string_bytes c.args.page.now) (same (codes "&quot;") c.args.c 34 c.in-34.is reads_quot) c.push_str-in-34.ensures.bytes

reads_apostrophe : unescaped (chars (codes "&#39;")) ≡ Some (39 ∷ [])
unfolding chars
reads_apostrophe = refl

pub returns-in-39-clause-reads_back : goal.returns-in-39-clause-reads_back
returns-in-39-clause-reads_back c = pushed c.push_str-in-39.result (string_bytes c.args.page.now) (codes "&#39;") (string_bytes c.push_str-in-39.new.self) c.args.c (IsUtf8-string_bytes c.args.page.now) (same (codes "&#39;") c.args.c 39 c.in-39.is reads_apostrophe) c.push_str-in-39.ensures.bytes

pub returns-in_default-clause-reads_back : goal.returns-in_default-clause-reads_back
returns-in_default-clause-reads_back c = pushed c.push.result (string_bytes c.args.page.now) (encode c.args.c) (string_bytes c.push.new.self) c.args.c (IsUtf8-string_bytes c.args.page.now) (plain c.args.c c.ranges.c.0 (omega arith) (omega arith) (omega arith) (omega arith) (omega arith)) c.push.ensures.bytes

pub returns-in-60-clause-written : goal.returns-in-60-clause-written
unfolding encode
returns-in-60-clause-written c = entity c.push_str.result (string_bytes c.args.page.now) (codes "&lt;") (string_bytes c.push_str.new.self) c.args.c 60 c.in-60.is refl c.push_str.ensures.bytes

pub returns-in-62-clause-written : goal.returns-in-62-clause-written
unfolding encode
returns-in-62-clause-written c = entity c.push_str-in-62.result (string_bytes c.args.page.now) (codes "&gt;") (string_bytes c.push_str-in-62.new.self) c.args.c 62 c.in-62.is refl c.push_str-in-62.ensures.bytes

pub returns-in-38-clause-written : goal.returns-in-38-clause-written
unfolding encode
returns-in-38-clause-written c = entity c.push_str-in-38.result (string_bytes c.args.page.now) (codes "&amp;") (string_bytes c.push_str-in-38.new.self) c.args.c 38 c.in-38.is refl c.push_str-in-38.ensures.bytes

pub returns-in-34-clause-written : goal.returns-in-34-clause-written
unfolding encode
returns-in-34-clause-written c = entity c.push_str-in-34.result (string_bytes c.args.page.now) (codes "&quot;") (string_bytes c.push_str-in-34.new.self) c.args.c 34 c.in-34.is refl c.push_str-in-34.ensures.bytes

pub returns-in-39-clause-written : goal.returns-in-39-clause-written
unfolding encode
returns-in-39-clause-written c = entity c.push_str-in-39.result (string_bytes c.args.page.now) (codes "&#39;") (string_bytes c.push_str-in-39.new.self) c.args.c 39 c.in-39.is refl c.push_str-in-39.ensures.bytes

pub returns-in_default-clause-written : goal.returns-in_default-clause-written
returns-in_default-clause-written c = stays c.push.result (string_bytes c.args.page.now) (string_bytes c.push.new.self) c.args.c (omega arith) (omega arith) (omega arith) (omega arith) (omega arith) c.push.ensures.bytes
