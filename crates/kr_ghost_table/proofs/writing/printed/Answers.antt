use Rattle.std.proofs.Common.{◌≡◌, arith, rules, length, nat_lt, false, string_bytes}
use Rattle.std.specs.Prelude.{IsUtf8}
use Rattle.std.proofs.lemmas.Bool.Decides.{nat_tests}
use Rattle.std.proofs.lemmas.Str.{is_utf8-from_IsUtf8}
use Rattle.kr_ghost_table.proofs.writing.printed.Goals as goal

pub returns-in-Ok-2-clause-reads_back : goal.returns-in-Ok-2-clause-reads_back
returns-in-Ok-2-clause-reads_back c =
    let bytes = string_bytes c.in-Ok.text in
    let short : nat_lt 65536 (length bytes) ≡ false = grind (arith, nat_tests, c.as_str.ensures.value) in
    let utf8 : IsUtf8 bytes = rw c.as_str.ensures.value at c.as_str.utf8 in
    rw (short, is_utf8-from_IsUtf8 bytes utf8, c.in-Ok.ensures.reads_back (search rules))
