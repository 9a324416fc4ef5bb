use Rattle.std.proofs.Common.{◌≡◌, arith, rules, length, nat_lt, false, subst}
use Rattle.std.proofs.lemmas.Bool.Decides.{nat_tests}
use Rattle.std.proofs.lemmas.Str.{is_utf8-from_IsUtf8}
use Rattle.toml.proofs.Views.{view-Table}
use Rattle.kr_ghost_table.specs.Answer.{Gives}
use Rattle.kr_ghost_table.specs.Reading.{judged}
use Rattle.kr_ghost_table.proofs.Documents.{no_document}
use Rattle.kr_ghost_table.proofs.reading.read.Goals as goal

pub returns-in-Ok-clause-reads : goal.returns-in-Ok-clause-reads
returns-in-Ok-clause-reads c =
    let short : nat_lt 65536 (length c.args.bytes.now) ≡ false = grind (arith, nat_tests) in
    let seen = subst (λ d. Gives c.table_of.result (judged d)) (view-Table c.in-Ok.table) c.table_of.ensures in
    rw (short, is_utf8-from_IsUtf8 _ c.in-Ok.ensures.ok.0, c.in-Ok.ensures.ok.1) seen

pub returns-in-Err-2-clause-reads : goal.returns-in-Err-2-clause-reads
returns-in-Err-2-clause-reads c =
    let short : nat_lt 65536 (length c.args.bytes.now) ≡ false = grind (arith, nat_tests) in
    rw (short, no_document c.args.bytes.now (c.in-Err-2.ensures.refused (search rules)))
