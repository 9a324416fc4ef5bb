use Rattle.std.proofs.Common.{◌≡◌, arith, rules, length, nat_le, true, codes, subst}
use Rattle.std.proofs.lemmas.Bool.Decides.{nat_tests}
use Rattle.std.proofs.lemmas.Str.{is_utf8-from_IsUtf8}
use Rattle.toml.proofs.Views.{view-Table}
use Rattle.kr_table.specs.Members.{integer_in}
use Rattle.kr_ghost_table.specs.Reading.{is_three}
use Rattle.kr_ghost_table.proofs.Documents.{no_document}
use Rattle.kr_ghost_table.proofs.reading.has_ghosts.Goals as goal

pub returns-in-Ok-clause-says : goal.returns-in-Ok-clause-says
returns-in-Ok-clause-says c =
    let short : nat_le (length c.args.bytes.now) 65536 ≡ true = grind (arith, nat_tests) in
    let seen = subst (λ d. c.is_three.result ≡ is_three (integer_in (codes "format") d)) (view-Table c.in-Ok.table) c.is_three.ensures in
    rw (short, is_utf8-from_IsUtf8 _ c.in-Ok.ensures.ok.0, c.in-Ok.ensures.ok.1) seen

pub returns-in-Err-2-clause-says : goal.returns-in-Err-2-clause-says
returns-in-Err-2-clause-says c =
    let short : nat_le (length c.args.bytes.now) 65536 ≡ true = grind (arith, nat_tests) in
    rw (short, no_document c.args.bytes.now (c.in-Err-2.ensures.refused (search rules)))
