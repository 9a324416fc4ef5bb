use Rattle.std.proofs.Common.{◌≡◌, arith, rules, length, nat_lt, false}
use Rattle.std.proofs.lemmas.Bool.Decides.{nat_tests}
use Rattle.std.proofs.lemmas.Str.{is_utf8-from_IsUtf8}
use Rattle.kr_script.proofs.Firsts.{some_read}
use Rattle.kr_script.proofs.GhostFirsts.{no_document}
use Rattle.kr_script.proofs.ghost_reading.read_ghost_script.Goals as goal

pub returns-in-Ok-clause-reads : goal.returns-in-Ok-clause-reads
returns-in-Ok-clause-reads c =
    let short : nat_lt 16777216 (length c.args.bytes.now) ≡ false = grind (arith, nat_tests) in
    rw (short, is_utf8-from_IsUtf8 _ c.in-Ok.ensures.ok.0, c.in-Ok.ensures.ok.1) c.script_of.ensures

pub returns-in-Err-2-clause-reads : goal.returns-in-Err-2-clause-reads
returns-in-Err-2-clause-reads c =
    let short : nat_lt 16777216 (length c.args.bytes.now) ≡ false = grind (arith, nat_tests) in
    rw short (no_document c.args.bytes.now (c.in-Err-2.ensures.err (search rules)))

pub returns-in-Ok-clause-memory : goal.returns-in-Ok-clause-memory
returns-in-Ok-clause-memory c = λ h. (some_read c.args.bytes.now _ c.in-Ok.ensures.ok.1, omega arith)
